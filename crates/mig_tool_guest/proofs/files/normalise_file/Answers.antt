use Rattle.mig_tool_guest.proofs.Common.{AcceptedStream, HasFront, HasStreamRefusal, Normalised, PartWritten, canon_any, copy_told}
use Rattle.mig_tool_guest.proofs.files.normalise_file.Goals as goal

pub returns : goal.returns
returns g c = copy_told (HasFront AcceptedStream) HasStreamRefusal (Normalised AcceptedStream) (PartWritten AcceptedStream canon_any) _ _ _ c.normalised_file-outcome.result c.finish.result c.finish.ensures.status c.normalised_file-outcome.ensures.came c.normalised_file-outcome.ensures.part c.finish.ensures.line c.finish.ensures.quiet c.finish.ensures.later
