use Rattle.mig_image.proofs.Common.{◌≡◌, ◌+◌, length, parts_behind}
use Rattle.std.specs.FinMap as maps
use Rattle.mig_image.proofs.write.count_parts.Given as goal

abbrev pub invariant-loop-key : goal.invariant-loop-key
invariant-loop-key l = l.count + length (parts_behind l.after (maps.entries l.parts)) ≡ length (maps.entries l.parts)

abbrev pub decreases-loop-key : goal.decreases-loop-key
decreases-loop-key l = length (parts_behind l.after (maps.entries l.parts))
