use Rattle.mig_machine_script.proofs.Common.{◌≡◌, ◌+◌, ◌≤◌, drop, room_for}
use Rattle.mig_machine_script.proofs.group.room_in.Given as goal

abbrev pub invariant-loop-at : goal.invariant-loop-at
invariant-loop-at l = record {
  room : l.room + room_for (drop l.at l.script) ≡ room_for l.script;
  few : l.room ≤ l.at;
}
