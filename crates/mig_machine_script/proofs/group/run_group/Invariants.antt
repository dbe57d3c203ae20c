use Rattle.mig_machine_script.proofs.Common.{◌≡◌, ◌+◌, ◌/◌, ◌≤◌, ◌-◌, length, drop, pfns_of_words, first_group, first_length, after, logged_after, room_for}
use Rattle.mig_machine_script.proofs.group.run_group.Given as goal

abbrev pub invariant-loop-at : goal.invariant-loop-at
invariant-loop-at l = record {
  words : length l.log ≡ (l.host.host.width + 63) / 64;
  room : room_for (drop l.at l.script) ≤ l.host.spare;
  host : after l.host.host (first_group (drop l.at l.script)) ≡ after l.fn.host.host (first_group (drop l.fn.from l.script));
  log : logged_after l.host.host (first_group (drop l.at l.script)) (pfns_of_words l.log) ≡ logged_after l.fn.host.host (first_group (drop l.fn.from l.script)) (pfns_of_words l.fn.log);
  place : l.at + first_length (drop l.at l.script) ≡ l.fn.from + first_length (drop l.fn.from l.script);
}

abbrev pub decreases-loop-at : goal.decreases-loop-at
decreases-loop-at l = l.count - l.at
