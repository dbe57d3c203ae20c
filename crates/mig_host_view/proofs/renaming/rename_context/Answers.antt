use Rattle.mig_host_view.proofs.Common.{sym, ◌∙◌, arith}
use Rattle.mig_host_view.proofs.LocaliseContexts.{fields_start, fields_end, field_put, field_unknown, field_unused}
use Rattle.mig_host_view.proofs.renaming.rename_context.Goals.{in-Some+in-Some-name_of, in-Some+in_default-name_of, in_default}
use Rattle.mig_host_view.proofs.renaming.rename_context.Goals as goal

pub loop-field-init : goal.loop-field-init
loop-field-init g c = fields_start c.fits-context c.told-context

pub loop-field-preserved : goal.loop-field-preserved
loop-field-preserved g c = elim c.match-said_by.branch [
  | in-Some+in-Some-name_of w ↦ field_put c.loop-field.invariant c.loop-field-test.true w.in-Some.ensures.said (sym w.name_of.ensures ∙ w.in-Some-name_of.is) (w.context-is ∙ w.put_vcpu_frame.ensures)
  | in-Some+in_default-name_of w ↦ field_unknown c.loop-field.invariant c.loop-field-test.true w.in-Some.ensures.said (sym w.name_of.ensures ∙ w.in_default-name_of.is) w.context-is
  | in_default w ↦ field_unused c.loop-field.invariant c.loop-field-test.true w.in_default.ensures.said w.context-is
]

pub returns : goal.returns
returns g c = fields_end c.loop-field.invariant (omega (arith, c.loop-field-test.false, c.loop-field.auto.field-end))
