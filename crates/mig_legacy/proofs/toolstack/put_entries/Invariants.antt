use Rattle.mig_legacy.proofs.ChunkCommon.{◌≡◌, ◌≤◌, length, drop, ◌++◌, None, ◌-◌, entries_fault, physmaps_in, text_of_physmaps}
use Rattle.mig_legacy.proofs.toolstack.put_entries.Given as goal

abbrev pub invariant-loop : goal.invariant-loop
invariant-loop l = (length l.rest ≤ length l.body) × (entries_fault (l.count - l.counter) (length l.body - length l.rest) l.rest ≡ None) × (l.initial.text.items ++ text_of_physmaps (physmaps_in l.count (drop 8 l.body)) ≡ l.text.items ++ text_of_physmaps (physmaps_in (l.count - l.counter) l.rest))
