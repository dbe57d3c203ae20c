use Rattle.mig_pvtables.proofs.Common.{arith}
use Rattle.mig_pvtables.proofs.Walks.{misses_start, misses_end, field_unused, field_fits, field_misses}
use Rattle.mig_pvtables.proofs.fields.bad_field_of.Goals.{in-Some+else-not-is_type_of_field, in_default}
use Rattle.mig_pvtables.proofs.fields.bad_field_of.Goals as goal

pub loop-field-init : goal.loop-field-init
loop-field-init g c = misses_start

pub returns-then-not-is_type_of_field : goal.returns-then-not-is_type_of_field
returns-then-not-is_type_of_field g c = field_misses c.loop-field.invariant c.in-Some.ensures c.type_of.ensures c.is_type_of_field.ensures c.loop-field-test.true c.if-not-is_type_of_field.true

pub loop-field-preserved : goal.loop-field-preserved
loop-field-preserved g c = elim c.match-field_frame.branch [
  | in-Some+else-not-is_type_of_field w ↦ field_fits c.loop-field.invariant w.in-Some.ensures w.type_of.ensures w.is_type_of_field.ensures w.if-not-is_type_of_field.false
  | in_default w ↦ field_unused c.loop-field.invariant w.in_default.ensures
]

pub returns : goal.returns
returns g c = misses_end c.loop-field.invariant (omega (arith, c.loop-field-test.false))
