use Rattle.mig_policy.proofs.Common.{◌≡◌, ◌++◌, map, flat_map, shown, text_of_entry, text_of_map}
use Rattle.mig_policy.proofs.pair_map.PairMap.text.Given as goal

abbrev pub invariant-loop-key : goal.invariant-loop-key
invariant-loop-key l = l.text.items ++ flat_map text_of_entry (map shown l.key-iterator) ≡ text_of_map l.self
