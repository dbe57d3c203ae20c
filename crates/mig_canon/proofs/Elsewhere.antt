-- The canonical image of a guest with other frames, in parts.
use Rattle.mig_canon.proofs.Common.{◌≡◌, ◌++◌, ◌∙◌, [], append_assoc, ap, refl, sym, FrameMap, GuestOf, Kind, Pv, Hvm, spelled, headers, info_records, static_bodies, p2m_records, last_records, frame_bodies, batches, frames_in, text_of, records_in_order, pv_last_codes}
use Rattle.mig_canon.specs.Canon.{all_vcpus, canon}
use Rattle.mig_canon.specs.Elsewhere.{with_frames, before_the_frames, behind_the_frames}
use Rattle.mig_canon.proofs.Spelling.{canon_is}

p2m_with : (kind : Kind) (g : GuestOf) (fs : FrameMap) → p2m_records kind (with_frames g fs) ≡ p2m_records kind g
p2m_with Pv g fs = refl
p2m_with Hvm g fs = refl

vcpus_with : (g : GuestOf) (fs : FrameMap) → all_vcpus (with_frames g fs) ≡ all_vcpus g
unfolding all_vcpus
vcpus_with g fs = refl

last_with : (kind : Kind) (g : GuestOf) (fs : FrameMap) → last_records kind (with_frames g fs) ≡ last_records kind g
last_with Pv g fs = ap (λ l. records_in_order pv_last_codes g ++ l) (vcpus_with g fs)
last_with Hvm g fs = refl

pub image_parts : (g : GuestOf) (fs : FrameMap) → canon (with_frames g fs) ≡ before_the_frames g ++ (text_of (frame_bodies (frames_in (with_frames g fs)) (batches (frames_in (with_frames g fs)))) ++ behind_the_frames g)
unfolding before_the_frames behind_the_frames
image_parts g fs =
    let h = with_frames g fs in
    let head = headers g.kind in let info = text_of (info_records g.kind) in let static = text_of (static_bodies g) in let p2m = text_of (p2m_records g.kind g) in
    let pages = text_of (frame_bodies (frames_in h) (batches (frames_in h))) in let last = text_of (last_records g.kind g) ++ spelled 0 [] in
    canon_is h
    ∙ ap (λ p. head ++ (info ++ (static ++ (text_of p ++ (pages ++ (text_of (last_records g.kind h) ++ spelled 0 [])))))) (p2m_with g.kind g fs)
    ∙ ap (λ l. head ++ (info ++ (static ++ (p2m ++ (pages ++ (text_of l ++ spelled 0 [])))))) (last_with g.kind g fs)
    ∙ ap (λ l. head ++ (info ++ l)) (sym (append_assoc static p2m (pages ++ last)))
    ∙ ap (λ l. head ++ l) (sym (append_assoc info (static ++ p2m) (pages ++ last)))
    ∙ sym (append_assoc head (info ++ (static ++ p2m)) (pages ++ last))
