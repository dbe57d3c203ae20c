-- Batches that were written join, entries that are held are few, and so are the batches.
use Rattle.std.proofs.Common.{Bool, true, false, cond, ltb-false, ◌≡◌, ℕ, ◌+◌, ◌*◌, ◌<◌, ◌≤◌, ◌^◌, List, [], ◌∷◌, length, map, Option, Result, Ok, Err, refl, sym, subst, arith, length-append}
use Rattle.std.specs.Prelude.{count_by}
use Rattle.std.proofs.lemmas.List.{map-append}
use Rattle.std.proofs.lemmas.List.Sums.{sum_by-append}
use Rattle.mig_records_pages.proofs.Common.{WriteFailed, Puts}
use Rattle.mig_records.specs.Records.{spelled, Record}
use Rattle.mig_records_pages.specs.Told.{FrameTold, telling_record, all_told}
use Rattle.mig_records_pages.specs.Written.{IsRecordWithin, WroteAll}
use Rattle.mig_records_pages.specs.Batches.{JoinsBatches, is_short, AreSized, AreFull, IsSent, IsBehind}
use Rattle.mig_records_pages.proofs.Written.{record_joins, none_of_next, nothing_written}

-- ---- batches

batch_within : (ts : List FrameTold) → length (telling_record ts).1 ≤ 2 ^ 27 → IsRecordWithin (telling_record ts)
batch_within ts short = record { short = record { type = omega arith; len = short }; no_end = λ e. absurd (omega arith) }

pub batch_joins : {X : Type 0} (ts : List FrameTold) (old new : Option (List ℕ)) (r : Result X WriteFailed) → length (telling_record ts).1 ≤ 2 ^ 27 → Puts (spelled 1 (telling_record ts).1) old new r → JoinsBatches ts old new r
batch_joins {X} ts old new (Ok x) short p = λ start batches w. record {
  wrote = subst (λ (rs : List Record). WroteAll start new rs) (sym (map-append telling_record batches (ts ∷ []))) (record_joins {X = X} (telling_record ts) old new (Ok x) (batch_within ts short) p start (map telling_record batches) w.wrote);
}
batch_joins {X} ts old new (Err e) short p = λ start batches w. record { wrote = record_joins {X = X} (telling_record ts) old new (Err e) (batch_within ts short) p start (map telling_record batches) w.wrote }

-- ---- entries that are sent

pub nothing_sent : (start : Option (List ℕ)) → IsSent start start 0 [] []
nothing_sent start = record { batches = []; written = record { wrote = nothing_written start }; sized = tt; full = omega arith; all = refl }

-- with one more that is to be sent
pub behind_anyway : (start now : Option (List ℕ)) (flushes : ℕ) (held sent : List FrameTold) → length held < 1024 → IsSent start now flushes held sent → IsBehind start now 1 sent
behind_anyway start now flushes held sent room s = record {
  batches = s.batches;
  held = held;
  cut = record { wrote = none_of_next start now (map telling_record s.batches) s.written.wrote };
  all = s.all;
  few = omega (arith, room);
}

-- ---- how many batches there are

at_least : (b : List FrameTold) (x : Bool) → is_short b ≡ x → 0 < length b → 1024 ≤ length b + 1023 * cond x 1 0
at_least b true e some = omega (arith, some)
at_least b false e some = omega (arith, ltb-false (length b) 1024 e)

few_so : (batches : List (List FrameTold)) → AreSized batches → 1024 * length batches ≤ length (all_told batches) + 1023 * count_by is_short batches
few_so [] s = omega arith
few_so (b ∷ batches) s =
    omega (arith, few_so batches s.1, at_least b (is_short b) refl s.0.some, length-append b (all_told batches), sum_by-append (λ (q : List FrameTold). cond (is_short q) 1 0) (b ∷ []) batches)

pub few_batches : (flushes : ℕ) (batches : List (List FrameTold)) → AreSized batches → AreFull flushes batches → 1024 * length batches ≤ length (all_told batches) + 1023 * flushes
few_batches flushes batches s full = omega (arith, few_so batches s, full)
