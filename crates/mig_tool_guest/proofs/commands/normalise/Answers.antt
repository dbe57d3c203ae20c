use Rattle.mig_tool_guest.proofs.Common.{AcceptedStream, HasFront, HasStreamRefusal, Normalised, PartWritten, canon_any, text_told}
use Rattle.mig_tool_guest.proofs.commands.normalise.Goals as goal

pub returns : goal.returns
returns g c = text_told (HasFront AcceptedStream) HasStreamRefusal (Normalised AcceptedStream) (PartWritten AcceptedStream canon_any) _ _ _ c.normalised-outcome.result c.finish.result c.finish.ensures.status c.normalised-outcome.ensures c.finish.ensures.line c.finish.ensures.quiet c.finish.ensures.later
