use Rattle.mig_machine_script.proofs.Common.{◌≤◌, subst, sym, no_pfns}
use Rattle.mig_machine_script.proofs.LinesLogged.{regular, lines_ran}
use Rattle.mig_machine_script.proofs.lines_law.lines_log_what_they_change.Goals as goal

pub returns : goal.returns
returns c = record {
  changed = λ h lines log pfn valid out. (lines_ran h lines log (regular h valid)).quiet pfn out;
  kept = λ h lines log pfn valid out. (lines_ran h lines log (regular h valid)).grown pfn out;
  inside = λ h lines log valid low pfn high. let r = lines_ran h lines log (regular h valid) in r.below low pfn (subst (λ w. w ≤ pfn) (sym r.shape.width) high);
  shape = λ h lines valid. (lines_ran h lines no_pfns (regular h valid)).shape;
}
