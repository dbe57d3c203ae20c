-- What was taken as a host is its image, where it is bytes, whatever follows it.
use Rattle.mig_image.proofs.Common.{◌≡◌, ◌≤◌, ℕ, List, [], ◌++◌, Option, Some, None, Ok, sym, ap, subst, ◌∙◌, append-nil, append_cancel_right, Consumes, AreBytes, TakesBytes, AgreesWithJudging, Passes, HostOf, HostAndSpare, IsHost, BeginsWithGuestImage, IsGuestImageUpTo, most_width, guest_image_form, host_at, guest_image}
use Rattle.mig_bytes_form.proofs.Verdicts.{passes_is_spelled, spelled_passes}
use Rattle.mig_image.proofs.ImageBack.{image_back}

module _ (widest : ℕ) (few_widths : widest ≤ most_width) where
  taken_is_image : (input taken rest : List ℕ) (h : HostOf) → input ≡ taken ++ rest → AreBytes taken → host_at widest input ≡ Passes h rest → IsGuestImageUpTo widest input h rest
  taken_is_image input taken rest h gone bytes is =
      let (front, whole, spelled) = passes_is_spelled (guest_image_form widest) input h rest is in
      let same : front ≡ taken = append_cancel_right front taken rest (sym whole ∙ gone) in
      let said = image_back widest (front ++ []) h [] few_widths (subst AreBytes (sym (append-nil front ∙ same)) bytes) (spelled_passes (guest_image_form widest) front h [] spelled) in
      let im = said.image in
      record {
        image = record { version = im.version; valid = im.valid; holds = im.holds; spelled = whole ∙ ap (λ l. l ++ rest) (sym (append-nil front) ∙ im.spelled ∙ append-nil (guest_image im.version h)) };
        narrow = said.narrow;
      }

  -- what was read as a host begins with its image
  pub begins_with_image : (told left : Option (List ℕ)) (h : HostAndSpare) → AgreesWithJudging IsHost told left (host_at widest) (Ok h) → TakesBytes told left → BeginsWithGuestImage widest told left (Ok h)
  begins_with_image None left h read taken = tt
  begins_with_image (Some input) left h (host, rest, is, left_is, same) taken =
      let said = taken_is_image input taken.taken rest host (subst (λ l. Consumes (Some input) l taken.taken) left_is taken.gone) taken.bytes is in
      (rest, subst (λ (g : HostOf). IsGuestImageUpTo widest input g rest) (sym same) said, left_is)
