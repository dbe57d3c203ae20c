use Rattle.mig_tool_guest.proofs.Common.{AcceptedStream, HasFront, HasStreamRefusal, PartWritten, Restored, restored_text, text_told}
use Rattle.mig_tool_guest.proofs.commands.restore.Goals as goal

pub returns : goal.returns
returns g c = text_told (HasFront AcceptedStream) HasStreamRefusal (Restored c.args.base) (PartWritten AcceptedStream (restored_text c.args.base)) _ _ _ c.restored-outcome.result c.finish.result c.finish.ensures.status c.restored-outcome.ensures c.finish.ensures.line c.finish.ensures.quiet c.finish.ensures.later
