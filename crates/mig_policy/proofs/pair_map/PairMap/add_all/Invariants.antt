use Rattle.mig_policy.proofs.Common.{◌≡◌, ◌≤◌, ◌+◌, length, AreSetBefore, put_pairs, pairs_in, text_of_map}
use Rattle.mig_policy.proofs.pair_map.PairMap.add_all.Given as goal

abbrev pub invariant-loop-key : goal.invariant-loop-key
invariant-loop-key l = record {
  same : put_pairs l.self (pairs_in l.rest) ≡ put_pairs l.fn.self (pairs_in l.bytes);
  len : length (text_of_map l.self) + length l.rest ≤ length (text_of_map l.fn.self) + length l.bytes;
  begun : AreSetBefore l.fn.self l.self (pairs_in l.rest) (pairs_in l.bytes);
}

abbrev pub decreases-loop-key : goal.decreases-loop-key
decreases-loop-key l = length l.rest
