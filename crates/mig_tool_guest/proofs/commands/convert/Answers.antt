use Rattle.mig_tool_guest.proofs.Common.{AcceptedLegacy, HasFront, HasLegacyRefusal, Normalised, PartWritten, canon_any, text_told}
use Rattle.mig_tool_guest.proofs.commands.convert.Goals as goal

pub returns : goal.returns
returns g c = text_told (HasFront AcceptedLegacy) HasLegacyRefusal (Normalised AcceptedLegacy) (PartWritten AcceptedLegacy canon_any) _ _ _ c.converted-outcome.result c.finish.result c.finish.ensures.status c.converted-outcome.ensures c.finish.ensures.line c.finish.ensures.quiet c.finish.ensures.later
