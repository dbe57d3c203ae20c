-- A record takes at least its head, and judging an image takes a front.
use Rattle.mig_relay.proofs.Common.{◌≡◌, ℕ, ◌<◌, List, ◌∷◌, [], ◌++◌, length, sym, ap, ◌∙◌, arith, length-append, le32, be32, ◌>>=◌, tried, placed, Passes, onward, both_pass, placed_passes, same_passes, said_passes, TakesFronts, front_pass, front_said, front_then, front_placed, fault_of_marker, fault_of_image, fault_of_domain, kind_of_number, Truncated, ImageHeader, DomainHeader, Record, StreamRecord, is_ended, Opening, Before, opening_of, before, fault_of_head, head_at, record_at, sent, image_of, opening_behind, marker_at, version_at, kind_at, placed_next, begins, asks, open_next, next_at, fault_at_end}
use Rattle.mig_restore_form.specs.Stream.{opening_at}
use Rattle.mig_restore_form.proofs.Parts.{behind_head, behind_record}
use Rattle.mig_relay.specs.Images.{open_records, open_image_at}
use Rattle.mig_relay.proofs.Fronts.{Shrinks, front_onward}
use Rattle.mig_relay.proofs.RecordFronts.{front_behind, front_record}

-- ---- a record takes at least its head

-- its head, which has 8 bytes
record_shrinks : (b : Before) (i : List ℕ) (r : StreamRecord) (rest : List ℕ) → record_at b i ≡ Passes r rest → length rest < length i
record_shrinks b i r rest h =
    let a = both_pass (head_at b i) (behind_head b) r rest (sym (begins b i) ∙ h) in
    let s = said_passes Truncated (fault_of_head b) (λ head. head) 8 i a.x a.mid a.first in
    let f = front_behind b a.x a.mid r rest a.second in
    omega (arith, ap length s.whole, length-append s.bytes a.mid, s.size, ap length f.whole, length-append f.front rest)

-- so does one at its place, whether the guest is asked or not
pub open_shrinks : (o : Opening) → Shrinks is_ended (open_next o)
open_shrinks o records i r rest going h = record_shrinks (before o records) i r rest (placed_passes (Record (length records)) (record_at (before o records) i) r rest h)

-- what is judged with the guest is judged without it
next_opens : (o : Opening) (records : List StreamRecord) (i : List ℕ) (r : StreamRecord) (rest : List ℕ) → placed_next o records i ≡ Passes r rest → open_next o records i ≡ Passes r rest
unfolding behind_record
next_opens o records i r rest h =
    let n = both_pass (record_at (before o records) i) (behind_record o records) r rest (sym (asks o records i) ∙ placed_passes (Record (length records)) (next_at o records i) r rest h) in
    let t = both_pass (tried (fault_at_end n.x.type (sent o.kind (records ++ n.x ∷ []))) n.mid) (λ _. Passes n.x n.mid) r rest n.second in
    let e = same_passes n.x r n.mid rest t.second in
    ap (placed (Record (length records))) (n.first ∙ ap (λ x. Passes x n.mid) e.0 ∙ ap (Passes r) e.1)

pub next_shrinks : (o : Opening) → Shrinks is_ended (placed_next o)
next_shrinks o records i r rest going h = open_shrinks o records i r rest going (next_opens o records i r rest h)

-- ---- an image takes a front

-- a record at its place, the records behind some, and the headers
pub front_next : (o : Opening) (records : List StreamRecord) → TakesFronts (open_next o records)
front_next o records = front_placed (Record (length records)) (record_at (before o records)) (front_record (before o records))

pub front_records : (o : Opening) (records : List StreamRecord) → TakesFronts (open_records o records)
unfolding open_records
front_records o records =
    front_then (onward is_ended (open_next o) records) (λ all. Passes (image_of o all.0) all.1) (front_onward is_ended (open_next o) (open_shrinks o) (front_next o) records) (λ all. front_pass (image_of o all))

front_opening : TakesFronts opening_at
unfolding opening_at
front_opening =
    front_then (λ i. placed ImageHeader (marker_at i)) (λ m. opening_behind m.1) (front_placed ImageHeader marker_at (front_said Truncated fault_of_marker (λ m. m) 8))
    (λ m. front_then (λ i. placed ImageHeader (version_at i)) (λ v. placed DomainHeader (kind_at v.1) >>= λ k. Passes (opening_of v.0 k.0) k.1) (front_placed ImageHeader version_at (front_said Truncated fault_of_image (λ header. be32 header 4) 16))
    (λ v. front_then (λ i. placed DomainHeader (kind_at i)) (λ k. Passes (opening_of v k.0) k.1) (front_placed DomainHeader kind_at (front_said Truncated fault_of_domain (λ header. kind_of_number (le32 header 0)) 16))
    (λ k. front_pass (opening_of v k))))

pub front_image : TakesFronts open_image_at
unfolding open_image_at
front_image = front_then opening_at (λ opening. open_records opening.0 [] opening.1) front_opening (λ o. front_records o [])
