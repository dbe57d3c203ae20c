use Rattle.mig_machine.proofs.Common.{arith, ap, sym, ◌∙◌, pfns_of_words}
use Rattle.mig_machine.proofs.LeftOut.{left_out, passed}
use Rattle.mig_machine.proofs.forgetful.leave_out.Goals.{then-pfn-words, else-pfn-words}
use Rattle.mig_machine.proofs.forgetful.leave_out.Goals as goal

pub loop-pfn-preserved : goal.loop-pfn-preserved
loop-pfn-preserved c =
    left_out c.args.list.now c.loop-pfn.pfn-index (pfns_of_words c.args.words.now) (pfns_of_words c.loop-pfn.words) (pfns_of_words c.if-pfn-words.words) (omega arith) c.loop-pfn.invariant
    (elim c.if-pfn-words.branch [ then-pfn-words w ↦ ap pfns_of_words w.words-is ∙ w.remove.ensures | else-pfn-words w ↦ ap pfns_of_words w.words-is ∙ sym (passed c.loop-pfn.words _ (omega arith)) ])
