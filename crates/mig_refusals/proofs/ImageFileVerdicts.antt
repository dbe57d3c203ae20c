-- What a guest image is refused for is what judging refuses it for; and what follows.
use Rattle.mig_refusals.proofs.Common.{◌≡◌, ℕ, ◌≤◌, List, refl, sym, ◌∙◌, AreBytes, Judged, Passes, Faulty, passes_not, ImageCause, ImagePlace, HostOf, most_width, image_back, image_reads, IsGuestImageUpTo, host_at, guest_image_form, refused_so, RefusedGuestImage, ImageCausesAscend, AreJudged, HasOneRefusal, IsAcceptedOrRefused, IsNeverBoth, accepted, refused}
use Rattle.mig_refusals.proofs.Laws.{one_refusal}

pub agree : (widest : ℕ) → AreJudged (RefusedGuestImage widest) (λ input place cause rest. host_at widest input ≡ Faulty (place, cause) rest)
agree widest = record { agree = λ input place c rest. refused_so (guest_image_form widest) input (place, c) rest }

pub one : (widest : ℕ) → HasOneRefusal (RefusedGuestImage widest)
one widest = one_refusal (host_at widest) (RefusedGuestImage widest) (agree widest)

pub either : (widest : ℕ) (input : List ℕ) → widest ≤ most_width → AreBytes input → IsAcceptedOrRefused (RefusedGuestImage widest) (IsGuestImageUpTo widest) input
either widest input few bytes = by (host_at widest input) refl
  where
    by : (j : Judged (ImagePlace × ImageCause) HostOf) → host_at widest input ≡ j → IsAcceptedOrRefused (RefusedGuestImage widest) (IsGuestImageUpTo widest) input
    by (Passes h rest) is = accepted h rest (image_back widest input h rest few bytes is)
    by (Faulty (place, c) rest) is = refused place c rest (((agree widest).agree input place c rest).0 is)

pub never : (widest : ℕ) → IsNeverBoth (RefusedGuestImage widest) (IsGuestImageUpTo widest)
never widest = record { never = λ input h rest place c more image r. passes_not h rest (place, c) more (sym (image_reads widest input h rest image) ∙ ((agree widest).agree input place c more).1 r) }

pub ascend : ImageCausesAscend
ascend = record { in_head = λ _ _. refl; in_frame = λ _ _ _. refl; in_page = λ _ _ _. refl; in_part = λ _ _. refl; in_content = λ _ _. refl; in_padding = λ _. refl }
