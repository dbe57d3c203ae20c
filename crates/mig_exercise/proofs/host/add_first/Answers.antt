use Rattle.mig_exercise.proofs.Common.{[], arith}
use Rattle.mig_exercise.proofs.Adding.{frame_absent, frame_added, frame_fine, machine_unused, still_few}
use Rattle.mig_exercise.proofs.host.add_first.Goals as goal

pub add_frame-requires-clause-is : goal.add_frame-requires-clause-is
add_frame-requires-clause-is c =
    frame_fine c.args.frames (λ _. []) c.loop-pfn.pfn c.loop-pfn.host.host (c.loop-pfn.invariant (λ _. [])) (omega arith) c.machine_of.result c.machine_of.ensures c.type_of.result c.type_of.ensures c.first_page-page.result (omega arith) (omega arith)

pub add_frame-requires-clause-absent : goal.add_frame-requires-clause-absent
add_frame-requires-clause-absent c = frame_absent c.args.frames (λ _. []) c.loop-pfn.pfn c.loop-pfn.host.host (c.loop-pfn.invariant (λ _. []))

pub add_frame-requires-clause-unused : goal.add_frame-requires-clause-unused
add_frame-requires-clause-unused c = machine_unused c.args.frames (λ _. []) c.loop-pfn.pfn c.loop-pfn.host.host (c.loop-pfn.invariant (λ _. [])) (omega arith) c.machine_of.result c.machine_of.ensures

pub add_frame-requires-clause-few : goal.add_frame-requires-clause-few
add_frame-requires-clause-few c = still_few c.args.frames (λ _. []) c.loop-pfn.pfn c.loop-pfn.host.host (c.loop-pfn.invariant (λ _. [])) (omega arith)

pub loop-pfn-preserved : goal.loop-pfn-preserved
loop-pfn-preserved c = λ contents.
    frame_added c.args.frames contents c.loop-pfn.pfn c.loop-pfn.host.host (c.loop-pfn.invariant contents) (omega arith) c.machine_of.result c.machine_of.ensures c.type_of.result c.type_of.ensures c.first_page-page.result c.add_frame.new.self.host c.in_ok-add_frame.ensures.ok (c.first_page-page.ensures contents)
