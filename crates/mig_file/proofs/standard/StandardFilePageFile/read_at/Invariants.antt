use Rattle.std.proofs.Common.{◌≤◌, ◌-◌, length}
use Rattle.mig_file.proofs.standard.StandardFilePageFile.read_at.Given as goal

abbrev pub invariant-loop-filled : goal.invariant-loop-filled
invariant-loop-filled l = l.filled ≤ length l.buf

abbrev pub decreases-loop-filled : goal.decreases-loop-filled
decreases-loop-filled l = length l.initial.buf - l.filled
