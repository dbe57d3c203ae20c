-- What judging accepts is what is spelled as a legacy stream.
use Rattle.mig_legacy.proofs.Common.{◌≡◌, ◌⊎◌, ℕ, List, ◌++◌, refl, sym, ap, subst, ◌∙◌, inl, inr, Judged, placed, Passes, Faulty, both_pass, placed_passes, same_passes, then_passes, LegacyCause, LegacyPlace, Start, Tail, Device, GuestOf, judged_as, start_form, tail_form, device_at, LegacyStream, is_legacy_ended, mean_legacy, FollowsLegacy, IsLegacy, AcceptedLegacy, chunks_at, legacy_at, placed_chunk, IsLegacyRefused, accepted_spelled, spelled_accepted, passes_not}
use Rattle.mig_legacy.proofs.ChunkTexts.{finds, goes, not_ended}
use Rattle.mig_legacy.proofs.Streams.{stream_of, behind_tail, behind_chunks, behind_start}
use Rattle.mig_legacy.proofs.TailTexts.{start_passes, start_goes, tail_passes, tail_goes, device_passes, device_goes}

pub accepted_is_legacy : (input : List ℕ) (s : LegacyStream) (rest : List ℕ) → legacy_at input ≡ Passes s rest → IsLegacy input s rest
unfolding legacy_at
accepted_is_legacy input s rest h =
    let a = both_pass (placed Start (judged_as start_form input)) behind_start s rest h in
    let b = both_pass (chunks_at a.mid) behind_chunks s rest a.second in
    let c = both_pass (placed Tail (judged_as tail_form b.mid)) (behind_tail b.x) s rest b.second in
    let d = both_pass (placed Device (device_at c.mid)) (λ device. Passes (stream_of b.x c.x device.0) device.1) s rest c.second in
    let e = same_passes {C = (LegacyPlace × LegacyCause)} (stream_of b.x c.x d.x) s d.mid rest d.second in
    let first = start_passes input a.x a.mid (placed_passes Start (judged_as start_form input) a.x a.mid a.first) in
    let (bytes, whole, spelled, ended) = accepted_spelled is_legacy_ended placed_chunk FollowsLegacy finds a.mid b.x b.mid b.first in
    let tail = tail_passes b.mid c.x c.mid (placed_passes Tail (judged_as tail_form b.mid) c.x c.mid c.first) in
    let device = device_passes c.mid d.x d.mid (placed_passes Device (device_at c.mid) d.x d.mid d.first) in
    let is : IsLegacy input (stream_of b.x c.x d.x) d.mid = record {
      start = a.x;
      bytes = bytes;
      tail = tail.bytes;
      device = device.bytes;
      whole = first.0 ∙ ap (λ l. a.x ++ l) (whole ∙ ap (λ l. bytes ++ l) (tail.whole ∙ ap (λ l. tail.bytes ++ l) device.whole));
      is_start = first.1;
      spelled = spelled;
      ended = ended;
      is_tail = tail.is;
      is_device = device.is;
    } in
    subst (λ (x : LegacyStream). IsLegacy input x rest) e.0 (subst (λ l. IsLegacy input (stream_of b.x c.x d.x) l) e.1 is)

pub legacy_is_accepted : (input : List ℕ) (s : LegacyStream) (rest : List ℕ) → IsLegacy input s rest → legacy_at input ≡ Passes s rest
unfolding legacy_at
legacy_is_accepted input s rest is =
    let at_device = is.device ++ rest in
    let at_tail = is.tail ++ at_device in
    let at_chunks = is.bytes ++ at_tail in
    ap legacy_at is.whole
    ∙ then_passes (placed Start (judged_as start_form (is.start ++ at_chunks))) behind_start is.start at_chunks _ (ap (placed Start) (start_goes is.start at_chunks is.is_start))
    (then_passes (chunks_at at_chunks) behind_chunks s.chunks at_tail _ (spelled_accepted is_legacy_ended placed_chunk FollowsLegacy finds goes not_ended is.bytes s.chunks at_tail is.spelled is.ended)
    (then_passes (placed Tail (judged_as tail_form at_tail)) (behind_tail s.chunks) s.tail at_device _ (ap (placed Tail) (tail_goes is.tail s.tail is.is_tail at_device))
    (then_passes (placed Device (device_at at_device)) (λ device. Passes (stream_of s.chunks s.tail device.0) device.1) s.device rest _ (ap (placed Device) (device_goes is.device s.device rest is.is_device)) refl)))

-- ---- one answer

pub one_front : (input : List ℕ) (g h : GuestOf) (rest more : List ℕ) → AcceptedLegacy input g rest → AcceptedLegacy input h more → (g ≡ h) × (rest ≡ more)
one_front input g h rest more a b =
    let same = same_passes {C = (LegacyPlace × LegacyCause)} a.stream b.stream rest more (sym (legacy_is_accepted input a.stream rest a.spelled) ∙ legacy_is_accepted input b.stream more b.spelled) in
    (a.means ∙ ap mean_legacy same.0 ∙ sym b.means, same.1)

pub never_both : (input : List ℕ) (guest : GuestOf) (rest : List ℕ) (place : LegacyPlace) (cause : LegacyCause) (more : List ℕ) → AcceptedLegacy input guest rest → IsLegacyRefused input place cause more → ⊥
never_both input guest rest place cause more a refused = passes_not a.stream rest (place, cause) more (sym (legacy_is_accepted input a.stream rest a.spelled) ∙ refused)

pub accepted_or_refused : (input : List ℕ) → ((guest : GuestOf) × (rest : List ℕ) × AcceptedLegacy input guest rest) ⊎ ((place : LegacyPlace) × (cause : LegacyCause) × (rest : List ℕ) × IsLegacyRefused input place cause rest)
accepted_or_refused input = either (legacy_at input) refl
  where
    either : (j : Judged (LegacyPlace × LegacyCause) LegacyStream) → legacy_at input ≡ j → ((guest : GuestOf) × (rest : List ℕ) × AcceptedLegacy input guest rest) ⊎ ((place : LegacyPlace) × (cause : LegacyCause) × (rest : List ℕ) × IsLegacyRefused input place cause rest)
    either (Passes s rest) is = inl (mean_legacy s, rest, record { stream = s; spelled = accepted_is_legacy input s rest is; means = refl })
    either (Faulty at rest) is = inr (at.0, at.1, rest, is)
