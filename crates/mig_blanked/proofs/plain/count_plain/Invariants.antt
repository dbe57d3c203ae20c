use Rattle.mig_pvtables.proofs.Common.{◌≡◌, ◌≤◌, ◌-◌, ℕ, List, Option, drop}
use Rattle.mig_blanked.specs.Plain.{ArePlain}
use Rattle.mig_placed.specs.Runs.{frames_after}
use Rattle.mig_blanked.proofs.plain.count_plain.Given as goal

abbrev pub invariant-loop-count : goal.invariant-loop-count
invariant-loop-count l = record {
  plain : ArePlain l.fn.marks.values l.fn.places l.fn.from l.count;
  at : (file : Option (List ℕ)) → frames_after file l.fn.places l.at ≡ drop l.count (frames_after file l.fn.places l.fn.from);
  most : l.count ≤ l.fn.most;
}

abbrev pub decreases-loop-count : goal.decreases-loop-count
decreases-loop-count l = l.fn.most - l.count
