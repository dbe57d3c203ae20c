use Rattle.mig_tool_guest.proofs.Common.{AcceptedLegacy, HasFront, HasLegacyRefusal, Normalised, PartWritten, canon_any, copy_told}
use Rattle.mig_tool_guest.proofs.files.convert_file.Goals as goal

pub returns : goal.returns
returns g c = copy_told (HasFront AcceptedLegacy) HasLegacyRefusal (Normalised AcceptedLegacy) (PartWritten AcceptedLegacy canon_any) _ _ _ c.converted_file-outcome.result c.finish.result c.finish.ensures.status c.converted_file-outcome.ensures.came c.converted_file-outcome.ensures.part c.finish.ensures.line c.finish.ensures.quiet c.finish.ensures.later
