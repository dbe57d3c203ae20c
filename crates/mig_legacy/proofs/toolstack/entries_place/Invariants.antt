use Rattle.mig_legacy.proofs.ChunkCommon.{◌≡◌, ◌≤◌, length, drop, ◌-◌, entries_fault}
use Rattle.mig_legacy.proofs.toolstack.entries_place.Given as goal

abbrev pub invariant-loop : goal.invariant-loop
invariant-loop l = (length l.rest ≤ length l.body) × (entries_fault l.count 8 (drop 8 l.body) ≡ entries_fault (l.count - l.counter) (length l.body - length l.rest) l.rest)
