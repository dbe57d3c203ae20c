use Rattle.mig_tool_save.proofs.ExerciseOutcomes.{read_again, only_memory}
use Rattle.mig_tool_save.proofs.exercising.guest_again.Goals as goal

pub returns-in-Ok-clause-guest : goal.returns-in-Ok-clause-guest
returns-in-Ok-clause-guest c = λ guest means. read_again c.args.stream.now _ c.in-Ok.reading guest c.in-Ok.ensures.read means

pub unread-requires : goal.unread-requires
unread-requires c = only_memory c.args.stream.now _ c.in-Err.answer c.requires c.in-Err.ensures.read c.in-Err.ensures.faults
