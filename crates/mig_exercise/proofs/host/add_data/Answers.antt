use Rattle.mig_exercise.proofs.Common.{◌≡◌, ◌≤◌, ◌+◌, ◌-◌, sym, ap, ◌∙◌, arith, Notab, first_contents, first_data, host_begun, number_page}
use Rattle.mig_exercise.specs.Numbers.{number}
use Rattle.mig_exercise.proofs.Adding.{data_page, data_type, frame_absent, frame_added, machine_unused, still_few}
use Rattle.mig_exercise.proofs.LongPages.{zero_number}
use Rattle.mig_exercise.proofs.NumberSteps.{stepped}
use Rattle.mig_exercise.proofs.host.add_data.Goals as goal

pub loop-pfn-init : goal.loop-pfn-init
unfolding number
loop-pfn-init c =
    let n = c.args.frames in let seed = c.args.seed in
    record {
      begun = c.requires.first ∙ ap (host_begun n (first_contents seed)) (sym c.first_data-pfn.ensures);
      last = ap (number seed) (let e : 0 ≡ c.first_data-pfn.result - first_data n = omega (arith, c.first_data-pfn.ensures) in e);
      page = (0, zero_number);
    }

pub add_frame-requires-clause-absent : goal.add_frame-requires-clause-absent
add_frame-requires-clause-absent c = frame_absent c.args.frames (first_contents c.args.seed) c.loop-pfn.pfn c.loop-pfn.host.host c.loop-pfn.invariant.begun

pub add_frame-requires-clause-unused : goal.add_frame-requires-clause-unused
add_frame-requires-clause-unused c = machine_unused c.args.frames (first_contents c.args.seed) c.loop-pfn.pfn c.loop-pfn.host.host c.loop-pfn.invariant.begun (omega arith) c.machine_of.result c.machine_of.ensures

pub add_frame-requires-clause-few : goal.add_frame-requires-clause-few
add_frame-requires-clause-few c = still_few c.args.frames (first_contents c.args.seed) c.loop-pfn.pfn c.loop-pfn.host.host c.loop-pfn.invariant.begun (omega arith)

pub loop-pfn-preserved : goal.loop-pfn-preserved
loop-pfn-preserved c =
    let n = c.args.frames in let seed = c.args.seed in let pfn = c.loop-pfn.pfn in let x = c.next_number-number.result in
    let behind : first_data n ≤ pfn = omega (arith, c.loop-pfn.auto.pfn, c.first_data-pfn.ensures) in
    let paged : c.put_number.new.page ≡ number_page x = c.put_number.ensures c.loop-pfn.invariant.page.0 c.loop-pfn.invariant.page.1 in
    record {
      begun = frame_added n (first_contents seed) pfn c.loop-pfn.host.host c.loop-pfn.invariant.begun (omega arith) c.machine_of.result c.machine_of.ensures Notab (data_type pfn (omega (arith, behind))) c.put_number.new.page c.add_frame.new.self.host
          c.in_ok-add_frame.ensures.ok (paged ∙ ap number_page (c.next_number-number.ensures ∙ c.loop-pfn.invariant.last) ∙ data_page n (first_contents seed) pfn behind);
      last = stepped seed (pfn - first_data n) c.loop-pfn.number x c.loop-pfn.invariant.last c.next_number-number.ensures ∙ ap (number seed) (let e : (pfn - first_data n) + 1 ≡ pfn + 1 - first_data n = omega (arith, behind) in e);
      page = (x, paged);
    }
