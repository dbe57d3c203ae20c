-- What a judge of images answers that keeps no pages.
use Rattle.std.specs.Prelude.{◌≡◌, ℕ, List, length, Option, is_some, Result}
use Rattle.std.specs.FinMap as maps
use Rattle.mig_outline.specs.Common.{or_stop, AgreesWithJudging, mean, differs_of, ImageOf, image_at, image_behind}
use Rattle.mig_bytes.specs.declared.answer.Answer.{Answer}
use Rattle.mig_headers.specs.declared.fault.Cause.{Cause}
use Rattle.mig_headers.specs.declared.fault.Place.{Place}
use Rattle.mig_outline.specs.declared.judge.Tally.{Tally}

-- the tally of an image: its version and kind, the number of frames of the guest that its records mean, the number of its
-- records, and whether frames are compared in it
pub record IsTally (tally : Tally) (image : ImageOf) : Type 0 where
  pub version : tally.version ≡ image.opening.version
  pub kind : tally.kind ≡ image.opening.kind
  pub frames : tally.frames ≡ maps.len (mean image.opening.kind image.records).frames
  pub records : tally.records ≡ length image.records
  pub verified : tally.verified ≡ is_some (differs_of image.opening.kind image.records)

-- what a judge of images answered, and what it left in the source, is what judging gives
abbrev pub JudgesImage : Option (List ℕ) → Option (List ℕ) → Result Tally (Answer Place Cause) → Type 0
JudgesImage old new result = AgreesWithJudging IsTally old new image_at (or_stop result)

-- the same where the marker was taken before
abbrev pub JudgesRest : Option (List ℕ) → Option (List ℕ) → Result Tally (Answer Place Cause) → Type 0
JudgesRest old new result = AgreesWithJudging IsTally old new image_behind (or_stop result)
