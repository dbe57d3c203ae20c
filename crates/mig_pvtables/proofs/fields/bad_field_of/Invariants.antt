use Rattle.mig_pvtables.proofs.Walks.{NoneMisses}
use Rattle.mig_pvtables.proofs.fields.bad_field_of.Given as goal

abbrev pub invariant-loop-field : goal.invariant-loop-field
invariant-loop-field g l = NoneMisses (g.S.FieldFrames.used l.said) (g.S.FieldFrames.types l.said) l.id l.context l.field
