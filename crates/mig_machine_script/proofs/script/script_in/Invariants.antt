use Rattle.mig_machine_script.proofs.Common.{◌+◌, ◌≤◌, length, map, line_said, AreScriptLines}
use Rattle.mig_machine_script.proofs.script.script_in.Given as goal

abbrev pub invariant-loop-rest : goal.invariant-loop-rest
invariant-loop-rest l = record {
  good : AreScriptLines l.bytes (map line_said l.lines.items) l.rest;
  few : length l.lines.items + length l.rest ≤ length l.bytes;
}

abbrev pub decreases-loop-rest : goal.decreases-loop-rest
decreases-loop-rest l = length l.rest
