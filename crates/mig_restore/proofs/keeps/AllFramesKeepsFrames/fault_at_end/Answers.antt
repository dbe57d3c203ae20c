use Rattle.mig_restore.proofs.Common.{◌≡◌, Result, Ok, Err, None, OnOk, sym, ap, ◌∙◌, GuestOf, fault_of_guest}
use Rattle.mig_restore.proofs.keeps.AllFramesKeepsFrames.fault_at_end.Goals as goal

fine : {T E : Type 0} (r : Result T E) (h : GuestOf) → OnOk r (fault_of_guest h ≡ None) → OnOk r ((g : GuestOf) → h ≡ g → fault_of_guest g ≡ None)
fine (Ok u) h none = λ g is. ap fault_of_guest (sym is) ∙ none
fine (Err e) h none = tt

pub returns-clause-ok : goal.returns-clause-ok
returns-clause-ok g c = fine c.whole.result c.args.guest.now c.whole.ensures.ok

pub returns-clause-fault : goal.returns-clause-fault
returns-clause-fault g c = λ guest cause is err. ap fault_of_guest (sym is) ∙ c.whole.ensures.fault cause err
