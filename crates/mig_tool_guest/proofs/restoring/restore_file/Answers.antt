use Rattle.mig_tool_guest.proofs.Common.{AcceptedStream, HasFront, HasStreamRefusal, PartWritten, Restored, restored_text, copy_told}
use Rattle.mig_tool_guest.proofs.restoring.restore_file.Goals as goal

pub returns : goal.returns
returns g c = copy_told (HasFront AcceptedStream) HasStreamRefusal (Restored c.args.base) (PartWritten AcceptedStream (restored_text c.args.base)) _ _ _ c.restored_file-outcome.result c.finish.result c.finish.ensures.status c.restored_file-outcome.ensures.came c.restored_file-outcome.ensures.part c.finish.ensures.line c.finish.ensures.quiet c.finish.ensures.later
