use Rattle.mig_libxl.proofs.EmulatorParts.{emulators_ascend}
use Rattle.mig_libxl.proofs.canon_law.emulators_ascend.Goals as goal

pub returns : goal.returns
returns c = emulators_ascend
