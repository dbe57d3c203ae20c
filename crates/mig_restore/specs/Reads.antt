-- What a reader of images answers.
use Rattle.std.specs.Prelude.{◌≡◌, ℕ, List, length, Option, Result, is_some}
use Rattle.mig_restore.specs.Common.{or_stop, AgreesWithJudging, Cause, FrameMap, sent, mean, differs_of, ImageOf, image_at, image_behind, is_verified, types_of}
use Rattle.mig_restore.specs.Kept.{kept_guest}
use Rattle.mig_bytes.specs.declared.answer.Answer.{Answer}
use Rattle.mig_headers.specs.declared.fault.Place.{Place}
use Rattle.mig_restore.specs.declared.read.Reading.{Reading}
use Rattle.mig_restore.specs.declared.read.TakenImage.{TakenImage}

-- What was taken of an image, where this is kept of frames. It is what is kept of the guest that its records send, its
-- version, the number of its records, and whether one is a VERIFY.
pub record IsTaken (kept : FrameMap → FrameMap) (taken : TakenImage) (image : ImageOf) : Type 0 where
  pub guest : taken.guest ≡ kept_guest kept (sent image.opening.kind image.records)
  pub version : taken.version ≡ image.opening.version
  pub records : taken.records ≡ length image.records
  pub verified : is_some taken.differs ≡ is_verified (types_of image.records)

-- the same, with how many entries behind a VERIFY differ
pub record IsTakenAndCompared (kept : FrameMap → FrameMap) (taken : TakenImage) (image : ImageOf) : Type 0 where
  pub is : IsTaken kept taken image
  pub differs : taken.differs ≡ differs_of image.opening.kind image.records

-- a reading of an image: the guest that its records mean, its version, the number of its records, and how many entries
-- behind a VERIFY differ
pub record IsReading (reading : Reading) (image : ImageOf) : Type 0 where
  pub guest : reading.guest ≡ mean image.opening.kind image.records
  pub version : reading.version ≡ image.opening.version
  pub records : reading.records ≡ length image.records
  pub differs : reading.differs ≡ differs_of image.opening.kind image.records

-- what a reader of images answered, and what it left in the source, is what judging gives
abbrev pub ReadsImage : Option (List ℕ) → Option (List ℕ) → Result Reading (Answer Place Cause) → Type 0
ReadsImage old new result = AgreesWithJudging IsReading old new image_at (or_stop result)

-- the same where the marker was taken before
abbrev pub ReadsRest : Option (List ℕ) → Option (List ℕ) → Result Reading (Answer Place Cause) → Type 0
ReadsRest old new result = AgreesWithJudging IsReading old new image_behind (or_stop result)
