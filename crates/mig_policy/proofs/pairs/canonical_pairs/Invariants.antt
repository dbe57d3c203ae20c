use Rattle.mig_policy.proofs.Common.{◌≡◌, length, texts_in, are_rising_texts}
use Rattle.mig_headers.specs.Pairs.{are_canonical_pairs}
use Rattle.mig_policy.proofs.pairs.canonical_pairs.Given as goal

abbrev pub invariant-loop-last : goal.invariant-loop-last
invariant-loop-last l = record {
  same : are_canonical_pairs l.bytes ≡ are_rising_texts l.last (texts_in l.rest);
}

abbrev pub decreases-loop-last : goal.decreases-loop-last
decreases-loop-last l = length l.rest
