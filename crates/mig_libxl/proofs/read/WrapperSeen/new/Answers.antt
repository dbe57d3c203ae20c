use Rattle.mig_libxl.proofs.Common.{sym, subst, AreEmulators, none_yet}
use Rattle.mig_libxl.proofs.read.WrapperSeen.new.Goals as goal

pub returns-clause-begun : goal.returns-clause-begun
returns-clause-begun g c = record { emulators = subst AreEmulators (sym c.new.ensures) none_yet; none = λ _. c.new.ensures; guest = tt }
