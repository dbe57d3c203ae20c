use Rattle.mig_machine.proofs.Common.{◌≡◌, take, without_pfns, pfns_of_words}
use Rattle.mig_machine.proofs.forgetful.leave_out.Given as goal

abbrev pub invariant-loop-pfn : goal.invariant-loop-pfn
invariant-loop-pfn l = pfns_of_words l.words ≡ without_pfns (take l.pfn-index l.list) (pfns_of_words l.fn.words)
