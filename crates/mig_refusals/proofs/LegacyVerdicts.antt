-- A legacy stream is refused in words exactly where judging refuses it.
use Rattle.mig_refusals.proofs.Common.{◌≡◌, inl, inr, ℕ, ◌<◌, List, [], ◌∷◌, ◌++◌, length, true, None, refl, ap, subst, ◌∙◌, arith, placed, Passes, Faulty, bind_cases, only_first, passes_not, placed_faulty, placed_passes, then_faulty, then_passes, LegacyCause, LegacyPlace, LegacyChunk, Spells, AreJudged, HasOneRefusal, AreAllAcceptedOrRefused, IsNeverBoth, accepted_spelled, refused_stops, spelled_accepted, spelled_refused, device_at, is_legacy_ended, FollowsLegacy, IsStart, chunks_at, legacy_at, placed_chunk, IsLegacyRefused, behind_chunks, behind_start, behind_tail, stream_of, some_device, start_passes, start_goes, tail_passes, tail_goes, legacy_finds, legacy_goes, legacy_not_ended, AcceptedLegacy, start_form, chunk_form, tail_form, device_form, RefusedLegacy}
use Rattle.mig_bytes_form.proofs.Verdicts.{is_refused as judged_refused, refused_is as refused_judged}
use Rattle.mig_bytes_form.specs.Form.{FormOf, judged_as, RefusedAs}
use Rattle.mig_headers.specs.declared.legacy_fault.LegacyPlace.TheVariants as places
use Rattle.mig_legacy.proofs.Laws.{accepted_or_refused as judged, never_both as never_judged}
use Rattle.mig_refusals.proofs.Laws.{accepted_or_refused, never_both, one_refusal}
use Rattle.mig_refusals.specs.Legacy.RefusedLegacyAt.{in_start, in_chunk, in_tail, in_device}

-- ---- what is refused is refused in words

module _ (input : List ℕ) (place : LegacyPlace) (c : LegacyCause) (rest : List ℕ) where
  at_place : (at : LegacyPlace) → at ≡ place → RefusedLegacy input at c rest → RefusedLegacy input place c rest
  at_place at same refused = subst (λ p. RefusedLegacy input p c rest) same refused

  device_refused : (i : List ℕ) → device_at i ≡ Faulty c rest → (0 < length i) × RefusedAs device_form i c rest
  unfolding device_at
  device_refused [] h = passes_not None [] c rest h
  device_refused (b ∷ i) h = ((omega arith), judged_refused device_form (b ∷ i) c rest h)

  tail_refusal : (start bytes left : List ℕ) (chunks : List LegacyChunk) → IsStart start → Spells FollowsLegacy bytes chunks → is_legacy_ended chunks ≡ true → input ≡ start ++ (bytes ++ left) → behind_chunks (chunks, left) ≡ Faulty (place, c) rest → RefusedLegacy input place c rest
  tail_refusal start bytes left chunks is spelled ended whole h = elim (bind_cases (placed places.Tail (judged_as tail_form left)) (behind_tail chunks) (place, c) rest h) [
    | inl e ↦
        let p = placed_faulty places.Tail place (judged_as tail_form left) c rest e in
        at_place places.Tail p.1 (in_tail start bytes left chunks whole is spelled ended (judged_refused tail_form left c rest p.0))
    | inr a ↦
        let t = tail_passes left a.0 a.1 (placed_passes places.Tail (judged_as tail_form left) a.0 a.1 a.2) in
        let p = placed_faulty places.Device place (device_at a.1) c rest (only_first (stream_of chunks a.0) (placed places.Device (device_at a.1)) (place, c) rest a.3) in
        let d = device_refused a.1 p.0 in
        at_place places.Device p.1 (in_device start bytes t.bytes a.1 chunks a.0 (whole ∙ ap (λ l. start ++ (bytes ++ l)) t.whole) is spelled ended t.is d.0 d.1)
  ]

  chunks_refusal : (start left : List ℕ) → IsStart start → input ≡ start ++ left → behind_start (start, left) ≡ Faulty (place, c) rest → RefusedLegacy input place c rest
  chunks_refusal start left is whole h = elim (bind_cases (chunks_at left) behind_chunks (place, c) rest h) [
    | inl e ↦
        let s = refused_stops is_legacy_ended placed_chunk FollowsLegacy legacy_finds left (place, c) rest e in
        let p = placed_faulty (places.Chunk (length s.parts)) place (judged_as (chunk_form s.parts) s.left) c rest s.fails in
        at_place (places.Chunk (length s.parts)) p.1 (in_chunk start s.bytes s.left s.parts (whole ∙ ap (λ l. start ++ l) s.whole) is s.spelled s.going (judged_refused (chunk_form s.parts) s.left c rest p.0))
    | inr a ↦
        let (bytes, all, spelled, ended) = accepted_spelled is_legacy_ended placed_chunk FollowsLegacy legacy_finds left a.0 a.1 a.2 in
        tail_refusal start bytes a.1 a.0 is spelled ended (whole ∙ ap (λ l. start ++ l) all) a.3
  ]

  pub is_refused : IsLegacyRefused input place c rest → RefusedLegacy input place c rest
  unfolding legacy_at
  is_refused h = elim (bind_cases (placed places.Start (judged_as start_form input)) behind_start (place, c) rest h) [
    | inl e ↦
        let p = placed_faulty places.Start place (judged_as start_form input) c rest e in
        at_place places.Start p.1 (in_start (judged_refused start_form input c rest p.0))
    | inr a ↦ let s = start_passes input a.0 a.1 (placed_passes places.Start (judged_as start_form input) a.0 a.1 a.2) in chunks_refusal a.0 a.1 s.1 s.0 a.3
  ]

-- ---- what is refused in words is refused

starts : (start i : List ℕ) → IsStart start → legacy_at (start ++ i) ≡ behind_start (start, i)
unfolding legacy_at
starts start i is = then_passes (placed places.Start (judged_as start_form (start ++ i))) behind_start start i _ (ap (placed places.Start) (start_goes start i is)) refl

chunks_go : (start bytes i : List ℕ) (chunks : List LegacyChunk) → IsStart start → Spells FollowsLegacy bytes chunks → is_legacy_ended chunks ≡ true → legacy_at (start ++ (bytes ++ i)) ≡ behind_chunks (chunks, i)
chunks_go start bytes i chunks is spelled ended =
    starts start (bytes ++ i) is ∙ then_passes (chunks_at (bytes ++ i)) behind_chunks chunks i _ (spelled_accepted is_legacy_ended placed_chunk FollowsLegacy legacy_finds legacy_goes legacy_not_ended bytes chunks i spelled ended) refl

module _ (input : List ℕ) (c : LegacyCause) (rest : List ℕ) where
  -- a form that is refused, at its place
  placed_is : {X : Type 0} (place : LegacyPlace) (f : FormOf LegacyCause X) (i : List ℕ) → RefusedAs f i c rest → placed place (judged_as f i) ≡ Faulty (place, c) rest
  placed_is place f i refused = ap (placed place) (refused_judged f i c rest refused)

  pub refused_is : (place : LegacyPlace) → RefusedLegacy input place c rest → IsLegacyRefused input place c rest
  unfolding legacy_at
  refused_is _ (in_start refused) = then_faulty (placed places.Start (judged_as start_form input)) behind_start (places.Start, c) rest (placed_is places.Start start_form input refused)
  refused_is _ (in_chunk start bytes left chunks whole is spelled going refused) =
      let place = places.Chunk (length chunks) in
      ap legacy_at whole
      ∙ starts start (bytes ++ left) is
      ∙ then_faulty (chunks_at (bytes ++ left)) behind_chunks (place, c) rest
      (spelled_refused is_legacy_ended placed_chunk FollowsLegacy legacy_finds legacy_goes legacy_not_ended bytes left chunks (place, c) rest spelled going (placed_is place (chunk_form chunks) left refused))
  refused_is _ (in_tail start bytes left chunks whole is spelled ended refused) =
      ap legacy_at whole
      ∙ chunks_go start bytes left chunks is spelled ended
      ∙ then_faulty (placed places.Tail (judged_as tail_form left)) (behind_tail chunks) (places.Tail, c) rest (placed_is places.Tail tail_form left refused)
  refused_is _ (in_device start bytes tail left chunks t whole is spelled ended is_tail some refused) =
      ap legacy_at whole
      ∙ chunks_go start bytes (tail ++ left) chunks is spelled ended
      ∙ then_passes (placed places.Tail (judged_as tail_form (tail ++ left))) (behind_tail chunks) t left _ (ap (placed places.Tail) (tail_goes tail t is_tail left))
      (then_faulty (placed places.Device (device_at left)) (λ d. Passes (stream_of chunks t d.0) d.1) (places.Device, c) rest (ap (placed places.Device) (some_device left some) ∙ placed_is places.Device device_form left refused))

pub agree : AreJudged RefusedLegacy IsLegacyRefused
agree = record { agree = λ input place c rest. (is_refused input place c rest, refused_is input c rest place) }

pub one : HasOneRefusal RefusedLegacy
one = one_refusal legacy_at RefusedLegacy agree

pub either : AreAllAcceptedOrRefused RefusedLegacy AcceptedLegacy
either = accepted_or_refused legacy_at RefusedLegacy agree AcceptedLegacy judged

pub never : IsNeverBoth RefusedLegacy AcceptedLegacy
never = never_both legacy_at RefusedLegacy agree AcceptedLegacy never_judged
