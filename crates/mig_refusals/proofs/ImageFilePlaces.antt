-- The place at which a guest image is refused is that of the part that is refused.
use Rattle.mig_refusals.proofs.Common.{inl, inr, ℕ, List, subst, le64, ImageCause, ImagePlace, HostOf, head_version, opened, behind_frames, behind_head, count_form, frames_form, host_frame_form, host_head_form, host_part_form, host_parts_form, guest_image_form, begins_paired, begins_then, first_refused, paired_begins, placed_refused, refused_retold, refused_steps, refused_then, steps_refused, then_begins, then_refused, all_frames, up_to_count, RefusedGuestImage, RefusedInPart, PlaceIsOfPart}
use Rattle.mig_bytes_form.specs.Form.{FormOf, placed_form, BeginsAs, RefusedAs}
use Rattle.mig_headers.specs.declared.image_fault.ImagePlace.TheVariants as places
use Rattle.mig_refusals.specs.ImageFile.RefusedInPart.{in_head, in_frame, in_count, in_part}

-- one more frame behind those of a host, and one more part
abbrev pub frame_step : List ℕ → ℕ → HostOf → FormOf (ImagePlace × ImageCause) HostOf
frame_step head i h = placed_form (places.Frame i) (host_frame_form (head_version head) h)

abbrev pub part_step : ℕ → HostOf → FormOf (ImagePlace × ImageCause) HostOf
part_step i h = placed_form (places.Part i) (host_part_form h)

abbrev pub placed_head : ℕ → FormOf (ImagePlace × ImageCause) (List ℕ)
placed_head widest = placed_form places.Head (host_head_form widest)

abbrev pub placed_count : FormOf (ImagePlace × ImageCause) ℕ
placed_count = placed_form places.Parts count_form

-- the first n frames behind a head
abbrev pub head_frames : ℕ → List ℕ → FormOf (ImagePlace × ImageCause) HostOf
head_frames n head = frames_form (head_version head) (opened head) n

abbrev pub told_frames : List ℕ → FormOf (ImagePlace × ImageCause) HostOf
told_frames head = head_frames (le64 head 24) head

module _ (widest : ℕ) (input : List ℕ) (place : ImagePlace) (cause : ImageCause) (rest : List ℕ) where
  -- at the place where a form stands
  at_place : {X : Type 0} (at : ImagePlace) (f : FormOf ImageCause X) (left : List ℕ) → RefusedAs (placed_form at f) left (place, cause) rest → (RefusedAs f left cause rest → RefusedInPart widest input cause rest at) → RefusedInPart widest input cause rest place
  at_place at f left refused there = let p = placed_refused at place f left cause rest refused in subst (RefusedInPart widest input cause rest) p.0 (there p.1)

  -- behind a head and all its frames
  frames_gone : (framed : HostOf) (left : List ℕ) → BeginsAs (all_frames widest) input framed left → RefusedAs (behind_frames framed) left (place, cause) rest → RefusedInPart widest input cause rest place
  frames_gone framed left begins refused = elim (refused_then placed_count (host_parts_form framed) left (place, cause) rest refused) [
    | inl first ↦ at_place places.Parts count_form left first (in_count left framed begins)
    | inr a ↦
        let counted = paired_begins (all_frames widest) (λ _. placed_count) input left framed a.0 a.1 begins a.2 in
        let (n, h, last, less, before, more) = steps_refused part_step a.0 framed a.1 (place, cause) rest a.3 in
        at_place (places.Part n) (host_part_form h) last more (in_part last a.0 n framed h (paired_begins (up_to_count widest) (λ c. host_parts_form c.0 n) input a.1 (framed, a.0) h last counted before) less)
  ]

  head_gone : (head left : List ℕ) → BeginsAs (placed_head widest) input head left → RefusedAs (behind_head head) left (place, cause) rest → RefusedInPart widest input cause rest place
  head_gone head left begins refused = elim (refused_then (told_frames head) behind_frames left (place, cause) rest refused) [
    | inl first ↦
        let (n, h, last, less, before, more) = steps_refused (frame_step head) (le64 head 24) (opened head) left (place, cause) rest first in
        at_place (places.Frame n) (host_frame_form (head_version head) h) last more (in_frame head last n h (paired_begins (placed_head widest) (head_frames n) input left head h last begins before) less)
    | inr a ↦ frames_gone a.0 a.1 (then_begins (placed_head widest) told_frames input left head a.0 a.1 begins a.2) a.3
  ]

  place_of : RefusedGuestImage widest input place cause rest → RefusedInPart widest input cause rest place
  unfolding guest_image_form
  place_of refused = elim (refused_then (placed_head widest) behind_head input (place, cause) rest refused) [
    | inl first ↦ at_place places.Head (host_head_form widest) input first in_head
    | inr a ↦ head_gone a.0 a.1 a.2 a.3
  ]

module _ (widest : ℕ) (input : List ℕ) (cause : ImageCause) (rest : List ℕ) where
  -- what is refused behind a head, and behind all its frames
  behind : (place : ImagePlace) (head left : List ℕ) → BeginsAs (placed_head widest) input head left → RefusedAs (behind_head head) left (place, cause) rest → RefusedGuestImage widest input place cause rest
  unfolding guest_image_form
  behind place head left begins refused = then_refused (placed_head widest) behind_head input left head (place, cause) rest begins refused

  behind_all : (place : ImagePlace) (framed : HostOf) (left : List ℕ) → BeginsAs (all_frames widest) input framed left → RefusedAs (behind_frames framed) left (place, cause) rest → RefusedGuestImage widest input place cause rest
  behind_all place framed left begins refused =
      let b = begins_then (placed_head widest) told_frames input framed left begins in
      behind place b.x b.mid b.first (then_refused (told_frames b.x) behind_frames b.mid left framed (place, cause) rest b.then refused)

  of_place : (place : ImagePlace) → RefusedInPart widest input cause rest place → RefusedGuestImage widest input place cause rest
  unfolding guest_image_form
  of_place _ (in_head refused) = first_refused (placed_head widest) behind_head input (places.Head, cause) rest (refused_retold (λ c. (places.Head, c)) (host_head_form widest) input cause rest refused)
  of_place _ (in_frame head left n h begins less refused) =
      let b = begins_paired (placed_head widest) (head_frames n) input head h left begins in
      behind (places.Frame n) head b.0 b.1 (first_refused (told_frames head) behind_frames b.0 (places.Frame n, cause) rest
      (refused_steps (frame_step head) n (le64 head 24) (opened head) h b.0 left (places.Frame n, cause) rest less b.2 (refused_retold (λ c. (places.Frame n, c)) (host_frame_form (head_version head) h) left cause rest refused)))
  of_place _ (in_count left framed begins refused) =
      behind_all places.Parts framed left begins (first_refused placed_count (host_parts_form framed) left (places.Parts, cause) rest (refused_retold (λ c. (places.Parts, c)) count_form left cause rest refused))
  of_place _ (in_part left count n framed h begins less refused) =
      let b = begins_paired (up_to_count widest) (λ c. host_parts_form c.0 n) input (framed, count) h left begins in
      let d = begins_paired (all_frames widest) (λ _. placed_count) input framed count b.0 b.1 in
      behind_all (places.Part n) framed d.0 d.1 (then_refused placed_count (host_parts_form framed) d.0 b.0 count (places.Part n, cause) rest d.2
      (refused_steps part_step n count framed h b.0 left (places.Part n, cause) rest less b.2 (refused_retold (λ c. (places.Part n, c)) (host_part_form h) left cause rest refused)))

pub place_is_of_part : PlaceIsOfPart
place_is_of_part = record { agree = λ widest input place cause rest. (place_of widest input place cause rest, of_place widest input cause rest place) }
