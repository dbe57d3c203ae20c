-- A place in a list of entries.
use Rattle.std.proofs.Common.{◌≡◌, ℕ, zero, suc, ◌+◌, ◌<◌, List, [], ◌∷◌, length, map, drop, take, get_or, Option, refl, sym, ap, ◌∙◌, arith}
use Rattle.std.proofs.lemmas.List.{length-map, take_all}
use Rattle.mig_pagetypes.specs.declared.page_type.PageType.{PageType}
use Rattle.mig_records_pages.proofs.Common.{Frame}
use Rattle.mig_records_pages.proofs.ListSteps.{drop_next}
use Rattle.mig_records_pages.specs.declared.held_frame.HeldFrame.{HeldFrame}
use Rattle.mig_records_pages.specs.Told.{told_of, told_held, telling_frame, telling_frames}

-- the frames of a record of these entries
abbrev pub frames_held : List HeldFrame → List Frame
frames_held xs = telling_frames (told_held xs)

module _ {X Y : Type 0} (f : X → Y) (d : X) where
  drop_mapped : (xs : List X) (i : ℕ) → i < length xs → drop i (map f xs) ≡ f (get_or xs i d) ∷ map f (drop (suc i) xs)
  drop_mapped [] i less = absurd (omega arith)
  drop_mapped (y ∷ ys) zero less = refl
  drop_mapped (y ∷ ys) (suc i) less = drop_mapped ys i (omega arith)

  map_dropped : (xs : List X) (i : ℕ) → drop i (map f xs) ≡ map f (drop i xs)
  map_dropped xs zero = refl
  map_dropped [] (suc i) = refl
  map_dropped (x ∷ xs) (suc i) = map_dropped xs i

at_place : (xs : List HeldFrame) (i : ℕ) (d : HeldFrame) → i < length xs → drop i (frames_held xs) ≡ telling_frame (told_of (get_or xs i d)) ∷ frames_held (drop (suc i) xs)
at_place xs i d less = map_dropped telling_frame (told_of d) (told_held xs) i ∙ ap telling_frames (drop_mapped told_of d xs i less)

-- the frame of the entry at a place, and those behind it
pub held_at : (xs : List HeldFrame) (i : ℕ) (x : HeldFrame) (type : PageType) (page : Option (List ℕ)) → i < length xs → x ≡ get_or xs i x → type ≡ (telling_frame (told_of x)).1.type → page ≡ (telling_frame (told_of x)).1.page
    → drop i (frames_held xs) ≡ (x.pfn, record { type = type; page = page }) ∷ drop (i + 1) (frames_held xs)
held_at xs i x type page within found t p =
    let here : drop i (frames_held xs) ≡ telling_frame (told_of (get_or xs i x)) ∷ frames_held (drop (suc i) xs) = at_place xs i x within in
    let is : get_or xs i x ≡ x = sym found in
    let rest : drop (i + 1) (frames_held xs) ≡ frames_held (drop (suc i) xs) = drop_next i (frames_held xs) _ _ here in
    here ∙ (λ j. telling_frame (told_of (is j)) ∷ sym rest j) ∙ (λ j. (x.pfn, record { type = sym t j; page = sym p j }) ∷ drop (i + 1) (frames_held xs))

pub frames_len : (xs : List HeldFrame) → length (frames_held xs) ≡ length xs
frames_len xs = length-map (told_held xs) telling_frame ∙ length-map xs told_of

pub all_taken : (xs : List HeldFrame) (n : ℕ) → n ≡ length xs → take n (frames_held xs) ≡ frames_held xs
all_taken xs n is = take_all n (frames_held xs) (omega (arith, is, frames_len xs))
