-- What the reader of a libxl stream keeps of the records before. Of an image it keeps an I, of which is said of which image it
-- is, what holds of it always, and its kind.
use Rattle.std.specs.Prelude.{◌≡◌, ◌==◌, ◌||◌, ℕ, ⊤, false, List, length, Option, Some, None, IfSome, IsSome}
use Rattle.mig_libxl.specs.Common.{option_map, Kind, Pv, ImageOf, LibxlRecord, LibxlContent, has_emulator, image_in, image_among, AreEmulators}
use Rattle.mig_libxl_form.specs.declared.head.RecordsBehind.{RecordsBehind}
use Rattle.mig_libxl_form.specs.Emulators.{no_emulators, put_libxl_content, emulators_of}
use Rattle.mig_libxl.specs.declared.read.WrapperSeen.{WrapperSeen}

-- what is kept of the image, where there was one
abbrev pub Holds : {I : Type 0} → (I → ImageOf → Type 0) → Option I → Option ImageOf → Type 0
Holds is_of None None = ⊤
Holds is_of None (Some image) = ⊥
Holds is_of (Some kept) None = ⊥
Holds is_of (Some kept) (Some image) = is_of kept image

-- the reader has these records behind it
pub record IsLibxlSeen {I : Type 0} (is_of : I → ImageOf → Type 0) (seen : WrapperSeen I) (records : List LibxlRecord) : Type 0 where
  pub count : seen.records ≡ length records
  pub emulators : seen.emulators ≡ emulators_of records
  pub emulated : seen.emulated ≡ has_emulator records
  pub image : Holds is_of seen.image (image_among records)

-- ---- what reading keeps, whatever records come

pub record IsLibxlBegun {I : Type 0} (kept : I → Type 0) (seen : WrapperSeen I) : Type 0 where
  pub emulators : AreEmulators seen.emulators
  pub none : seen.emulated ≡ false → seen.emulators ≡ no_emulators
  pub guest : IfSome seen.image kept

-- the image is there, and that of a PV guest stands alone
pub record IsClosed {I : Type 0} (kind_of : I → Kind) (seen : WrapperSeen I) : Type 0 where
  pub image : IsSome seen.image
  pub alone : IfSome seen.image (λ image. kind_of image ≡ Pv → seen.emulated ≡ false)

-- what the content of a record of this type makes of what was kept
pub record TakesLibxl {I : Type 0} (is_of : I → ImageOf → Type 0) (old new : WrapperSeen I) (type : ℕ) (c : LibxlContent) : Type 0 where
  pub emulators : new.emulators ≡ put_libxl_content old.emulators c
  pub emulated : new.emulated ≡ (old.emulated || ((type == 2) || (type == 3)))
  pub first : (i : ImageOf) → image_in c ≡ Some i → old.image ≡ None
  pub image : (i : ImageOf) → image_in c ≡ Some i → Holds is_of new.image (Some i)
  pub others : image_in c ≡ None → new.image ≡ old.image
  pub records : new.records ≡ old.records

-- ---- what a head is judged by

-- of what a reader keeps, what a head is judged by
abbrev pub behind_of : {I : Type 0} → (I → Kind) → WrapperSeen I → RecordsBehind
behind_of kind_of seen = record { records = seen.records; emulated = seen.emulated; image = option_map kind_of seen.image }
