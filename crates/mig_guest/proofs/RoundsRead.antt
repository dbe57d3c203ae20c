-- What the rounds read begins with all PFNs below the width.
use Rattle.mig_guest.proofs.Common.{◌≡◌, ℕ, ◌≤◌, List, [], ◌∷◌, ◌++◌, length, sym, ap, ◌∙◌, arith, append_assoc, range_with_len, Kind, members}
use mathlib.Core.List.{append-nil}
use Rattle.mig_guest.specs.History.{History, LogTook}
use Rattle.mig_guest.specs.Rounds.{Rounds, OfEachLog, to_read, rounds_read, all_read}
use Rattle.mig_guest.proofs.Members.{all_members}

pub record BeginsWithAll (width : ℕ) (read : List ℕ) : Type 0 where
  pub others : List ℕ
  pub is : read ≡ range_with_len 0 width ++ others

longer : (width : ℕ) (read more : List ℕ) → BeginsWithAll width read → BeginsWithAll width (read ++ more)
longer width read more h = record { others = h.others ++ more; is = ap (λ l. l ++ more) h.is ∙ append_assoc (range_with_len 0 width) h.others more }

abbrev AreRead : ℕ → List LogTook → Type 0
AreRead width logs = OfEachLog (λ before log. log.asked.read ≡ to_read width before) logs

rounds_begin : (width : ℕ) (logs : List LogTook) → 1 ≤ length logs → AreRead width logs → BeginsWithAll width (rounds_read width logs)
rounds_begin width [] some reads = absurd (omega arith)
rounds_begin width (log ∷ []) some reads = record { others = []; is = ap (members width) reads.1 ∙ all_members width ∙ sym (append-nil (range_with_len 0 width)) }
rounds_begin width (log ∷ (earlier ∷ logs)) some reads =
    longer width (rounds_read width (earlier ∷ logs)) (members width log.asked.read) (rounds_begin width (earlier ∷ logs) (omega arith) reads.0)

begun : (kind : Kind) (width : ℕ) (h : History) → Rounds kind width h → BeginsWithAll width (all_read width h)
begun kind width h r =
    let live = longer width (rounds_read width r.live) (members width r.last.asked.read) (rounds_begin width r.live r.number.0 r.reads) in
    let first : BeginsWithAll width (rounds_read width h.taken) = record { others = live.others; is = ap (rounds_read width) r.logs ∙ live.is } in
    longer width (rounds_read width h.taken) (members width h.since.read) first

pub begins : (kind : Kind) (width : ℕ) (h : History) → Rounds kind width h → (others : List ℕ) × (all_read width h ≡ range_with_len 0 width ++ others)
begins kind width h r = let b = begun kind width h r in (b.others, b.is)
