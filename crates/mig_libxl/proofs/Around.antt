-- What stands around an image.
use Rattle.mig_libxl.proofs.Common.{◌≡◌, true, false, cond, [], ◌++◌, refl, ap, GuestOf, PartMap, has_emulators, is_of_converter, text_of_emulators, spelled, canon, emulators_in_order, opening_text}
use Rattle.mig_canon.specs.CanonStream.{canon_any, wrapper_opening, wrapper_closing}
use Rattle.mig_canon.specs.Elsewhere.{with_frames}
use Rattle.mig_guest.specs.Frames.{FrameMap}

module _ (parts : PartMap) where
  pub opening_some : has_emulators parts ≡ true → wrapper_opening parts ≡ opening_text (is_of_converter parts)
  unfolding wrapper_opening
  opening_some some = ap (λ b. cond b (opening_text (is_of_converter parts)) []) some

  pub opening_none : has_emulators parts ≡ false → wrapper_opening parts ≡ []
  unfolding wrapper_opening
  opening_none none = ap (λ b. cond b (opening_text (is_of_converter parts)) []) none

  pub closing_some : has_emulators parts ≡ true → wrapper_closing parts ≡ text_of_emulators (emulators_in_order parts) ++ spelled 0 []
  unfolding wrapper_closing
  closing_some some = ap (λ b. cond b (text_of_emulators (emulators_in_order parts) ++ spelled 0 []) []) some

  pub closing_none : has_emulators parts ≡ false → wrapper_closing parts ≡ []
  unfolding wrapper_closing
  closing_none none = ap (λ b. cond b (text_of_emulators (emulators_in_order parts) ++ spelled 0 []) []) none

pub canon_any_is : (g : GuestOf) → canon_any g ≡ wrapper_opening g.parts ++ (canon g ++ wrapper_closing g.parts)
unfolding canon_any
canon_any_is g = refl

pub with_other_frames : (g : GuestOf) (fs : FrameMap) → canon_any (with_frames g fs) ≡ wrapper_opening g.parts ++ (canon (with_frames g fs) ++ wrapper_closing g.parts)
with_other_frames g fs = canon_any_is (with_frames g fs)
