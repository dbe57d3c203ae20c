-- What a reader of streams of either form answers.
use Rattle.std.specs.Prelude.{◌≡◌, ℕ, List, length, Option, Some, is_some, Result}
use Rattle.std.specs.FinMap as maps
use Rattle.mig_libxl.specs.Common.{or_stop, AgreesWithJudging, ImageOf, StreamOf, image_of_stream, guest_of, stream_at}
use Rattle.mig_bytes.specs.declared.answer.Answer.{Answer}
use Rattle.mig_headers.specs.declared.fault.Cause.{Cause}
use Rattle.mig_headers.specs.declared.fault.Place.{Place}
use Rattle.mig_restore_form.specs.Mean.{differs_of}
use Rattle.mig_outline.specs.declared.judge.Tally.{Tally}
use Rattle.mig_placing.specs.declared.comparison.Comparison.{Comparison}
use Rattle.mig_restore.specs.declared.read.Reading.{Reading}

-- a reading of a stream: the guest that it means, and of its image the version, the number of records, and how many entries
-- behind a VERIFY differ
pub record IsStreamReading (reading : Reading) (s : StreamOf) : Type 0 where
  pub image : ImageOf
  pub is : image_of_stream s ≡ Some image
  pub guest : reading.guest ≡ guest_of image s
  pub version : reading.version ≡ image.opening.version
  pub records : reading.records ≡ length image.records
  pub differs : reading.differs ≡ differs_of image.opening.kind image.records

-- what a reader of streams answered, and what it left in the source, is what judging gives
abbrev pub ReadsStream : Option (List ℕ) → Option (List ℕ) → Result Reading (Answer Place Cause) → Type 0
ReadsStream old new result = AgreesWithJudging IsStreamReading old new stream_at (or_stop result)

-- a tally of a stream: the number of frames of the guest that it means, and of its image the version, the kind, the number
-- of records, and whether frames are compared in it
pub record IsStreamTally (tally : Tally) (s : StreamOf) : Type 0 where
  pub image : ImageOf
  pub is : image_of_stream s ≡ Some image
  pub frames : tally.frames ≡ maps.len (guest_of image s).frames
  pub version : tally.version ≡ image.opening.version
  pub kind : tally.kind ≡ image.opening.kind
  pub records : tally.records ≡ length image.records
  pub verified : tally.verified ≡ is_some (differs_of image.opening.kind image.records)

-- what a judge of streams answered, and what it left in the source, is what judging gives
abbrev pub JudgesStream : Option (List ℕ) → Option (List ℕ) → Result Tally (Answer Place Cause) → Type 0
JudgesStream old new result = AgreesWithJudging IsStreamTally old new stream_at (or_stop result)

-- the same of a stream that was compared: a tally of it, and how many entries behind a VERIFY differ
pub record IsStreamComparison (comparison : Comparison) (s : StreamOf) : Type 0 where
  pub tally : IsStreamTally comparison.tally s
  pub differs : comparison.differs ≡ differs_of tally.image.opening.kind tally.image.records
