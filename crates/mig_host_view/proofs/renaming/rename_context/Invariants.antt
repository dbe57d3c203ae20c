use Rattle.mig_host_view.proofs.LocaliseContexts.{FieldsRenamed}
use Rattle.mig_host_view.proofs.renaming.rename_context.Given as goal

abbrev pub invariant-loop-field : goal.invariant-loop-field
invariant-loop-field g l = FieldsRenamed (g.N.FrameNames.used l.names) (g.N.FrameNames.names l.names) l.id l.fn.context l.field l.context
