use Rattle.mig_machine_script.proofs.Common.{arith, ap, line_said, room_for}
use Rattle.mig_machine_script.proofs.GroupsRun.{at_line, room_small}
use Rattle.mig_machine_script.proofs.group.room_in.Goals as goal

pub loop-at-preserved : goal.loop-at-preserved
loop-at-preserved c =
    let line = line_said c.in-Some.line.now in
    let e = ap room_for (at_line c.args.script.now c.loop-at.at line c.in-Some.ensures) in
    let small = room_small line in let is = c.room_of_line-room.ensures in let was = c.loop-at.invariant.room in let few = c.loop-at.invariant.few in
    record { room = omega (arith, e, is, was); few = omega (arith, is, small, few) }
