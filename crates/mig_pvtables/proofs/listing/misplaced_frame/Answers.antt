use Rattle.mig_pvtables.proofs.Common.{sym, ap, ◌∙◌, ◌==◌, option_map, nat_cmp}
use Rattle.mig_pvtables.proofs.P2mWalks.{nothing_marked, nothing_ill, found_ill, more_fine, more_marked, is_typed, none_ill, marks_in, mark_here, mark_there}
use Rattle.std.specs.FinMap as maps
use Rattle.mig_pvtables.proofs.listing.misplaced_frame.Goals as goal

pub loop-pfn-init : goal.loop-pfn-init
loop-pfn-init g c = record { are = nothing_marked _ _ (λ pfn. ap (λ m. marks_in m pfn) c.new-marks.ensures.values ∙ ap (option_map (λ v. v == 2)) (maps.get-empty nat_cmp pfn)); fine = nothing_ill _ _ }

pub returns-then-is_misplaced : goal.returns-then-is_misplaced
returns-then-is_misplaced g c =
    found_ill _ _ c.loop-pfn.invariant.are (sym c.in-Some.ensures.value) c.type_of_frame.ensures.value c.mark_of.ensures c.is_needed-needed.ensures c.is_misplaced.ensures c.loop-pfn.invariant.fine c.if-is_misplaced.true

pub put_spare-requires-clause-small : goal.put_spare-requires-clause-small
put_spare-requires-clause-small g c = c.type_of_frame.ensures.small (is_typed _ _ c.loop-pfn.invariant.are (sym c.in-Some.ensures.value) c.type_of_frame.ensures.value c.mark_of.ensures c.is_needed-needed.ensures c.is_misplaced.ensures c.if-is_misplaced.false)

pub loop-pfn-preserved : goal.loop-pfn-preserved
loop-pfn-preserved g c =
    let put = c.put_spare.ensures.values ∙ ap (λ m. maps.insert m c.in-Some.pfn c.mark_for.result) c.reserve.ensures.values in
    record {
      are = more_marked _ _ c.loop-pfn.invariant.are (sym c.in-Some.ensures.value) c.type_of_frame.ensures.value c.mark_of.ensures c.is_needed-needed.ensures c.is_misplaced.ensures c.if-is_misplaced.false
          (mark_here _ _ _ put c.mark_for.ensures.value) (mark_there _ _ _ put);
      fine = more_fine _ _ c.loop-pfn.invariant.are (sym c.in-Some.ensures.value) c.type_of_frame.ensures.value c.mark_of.ensures c.is_needed-needed.ensures c.is_misplaced.ensures c.loop-pfn.invariant.fine c.if-is_misplaced.false;
    }

pub returns : goal.returns
returns g c = none_ill _ _ c.loop-pfn.invariant.fine (sym c.in_default.ensures.value)
