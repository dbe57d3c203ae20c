-- An image that was taken with the places of its pages.
use Rattle.mig_restore.proofs.Common.{◌≡◌, ℕ, List, Option, Some, None, Ok, refl, ◌∙◌, AgreesWithJudging, FrameMap, ImageOf, IsTaken, Judged, NotesImage}
use Rattle.mig_restore.specs.declared.read.TakenImage.{TakenImage}
use Rattle.std.specs.FinMap as maps
use Rattle.mig_placing.proofs.Common.{weakened, left_at, outline_frames, frames_in_file}
use Rattle.mig_restore.proofs.Noted.{both_told}
use Rattle.mig_placing.specs.Placed.{IsPlacedImage}
use Rattle.mig_placing.specs.declared.guest.PlacedGuest.{PlacedGuest}

module _ {C P K : Type 0} (notes : K → List ℕ → Option (List ℕ) → FrameMap → Type 0) (bytes : P → Option (List ℕ)) (old new : K) (placed : PlacedGuest P) (taken : TakenImage) (at : ℕ) (b : Option (List ℕ)) (f : List ℕ → Judged C ImageOf)
    (says : (all : List ℕ) (frames : FrameMap) → notes new all b frames → (bytes placed.file.now ≡ Some all) × (frames_in_file (Some all) placed.places ≡ frames)) (guest : placed.outline ≡ taken.guest) where
  pub image_placed : (file : Option (List ℕ)) → ((all : List ℕ) → file ≡ Some all → notes old all (left_at file at) maps.empty)
      → AgreesWithJudging (IsTaken outline_frames) (left_at file at) b f (Ok taken) → AgreesWithJudging {X = TakenImage} (λ _ image. NotesImage notes old new (left_at file at) b image) (left_at file at) b f (Ok taken)
      → AgreesWithJudging (IsPlacedImage bytes) (left_at file at) b f (Ok placed)
  image_placed None begun read noted = tt
  image_placed (Some all) begun read noted =
      let a = left_at (Some all) at in
      weakened (λ (t : TakenImage) image. IsTaken outline_frames t image × NotesImage notes old new a b image) (IsPlacedImage bytes) a b f taken placed
      (λ image both.
      let told = says all _ (both.1 all (begun all refl)) in
      record { all = all; told = told.0; guest = guest ∙ both.0.guest; frames = told.1 })
      (both_told (IsTaken outline_frames) (λ (_ : TakenImage) image. NotesImage notes old new a b image) a b f taken taken read noted)
