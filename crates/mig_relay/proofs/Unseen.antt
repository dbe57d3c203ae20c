-- Pages that nobody looks at.
use Rattle.mig_relay.proofs.Common.{◌≡◌, ℕ, ◌<◌, ◌≤◌, List, [], ◌++◌, length, drop, Option, Some, None, Ok, Err, refl, ap, ◌∙◌, arith, cond, lt-ltb, append-nil, take, Judged, Passes, Faulty, part, part_whole, AgreesWithJudging, Cause, Truncated, Consumes}
use Rattle.std.specs.Io.KnownBytes.{IsAtEnd}
use Rattle.mig_bytes.specs.declared.stop.Stop.TheVariants as stops
use Rattle.mig_relay.proofs.Paging.{blank, blank_len}
use Rattle.mig_relay.specs.Looking.{TakesUnseenPage}

module _ (old new : Option (List ℕ)) (bytes : List ℕ) where
  -- a whole page was taken
  pub took : length bytes ≡ 4096 → Consumes old new bytes → TakesUnseenPage old new (Ok tt)
  took whole gone = record { page = bytes; whole = whole; read = by old new gone; few = record { taken = bytes; few = omega (arith, whole); gone = gone } }
    where
      by : (o n : Option (List ℕ)) → Consumes o n bytes → AgreesWithJudging {X = Unit {0}} (λ _ b. b ≡ bytes) o n (part Truncated 4096) (Ok tt)
      by None n gone = tt
      by (Some left) None gone = absurd gone
      by (Some left) (Some rest) gone = (bytes, rest, ap (part Truncated 4096) gone ∙ part_whole Truncated 4096 bytes rest whole, refl, refl)

  -- the source ended before
  pub ended : length bytes < 4096 → Consumes old new bytes → IsAtEnd new → TakesUnseenPage old new (Err (stops.Refused Truncated))
  ended less gone over = record { page = blank 4096; whole = blank_len 4096; read = by old new gone over; few = record { taken = bytes; few = omega (arith, less); gone = gone } }
    where
      by : (o n : Option (List ℕ)) → Consumes o n bytes → IsAtEnd n → AgreesWithJudging {X = Unit {0}} (λ _ b. b ≡ blank 4096) o n (part Truncated 4096) (Err (stops.Refused Truncated))
      by None n gone over = tt
      by (Some left) None gone over = absurd gone
      by (Some left) (Some rest) gone over =
          let all : left ≡ bytes = gone ∙ ap (λ l. bytes ++ l) over ∙ append-nil bytes in
          ([], ap (λ b. cond {A = Judged Cause (List ℕ)} b (Faulty Truncated []) (Passes (take 4096 left) (drop 4096 left))) (lt-ltb (length left) 4096 (omega (arith, less, ap length all))), ap Some over)

  -- a read failed
  pub failed : length bytes ≤ 4096 → Consumes old new bytes → TakesUnseenPage old new (Err stops.ReadFault)
  failed few gone = record { page = blank 4096; whole = blank_len 4096; read = by old; few = record { taken = bytes; few = few; gone = gone } }
    where
      by : (o : Option (List ℕ)) → AgreesWithJudging {X = Unit {0}} (λ _ b. b ≡ blank 4096) o new (part Truncated 4096) (Err stops.ReadFault)
      by None = tt
      by (Some left) = tt
