use Rattle.mig_pvtables.proofs.Common.{misses}
use Rattle.mig_pvtables.proofs.Walks.{in_fields, contexts_start}
use Rattle.mig_pvtables.proofs.fields.bad_field.Goals as goal

pub loop-key-init : goal.loop-key-init
loop-key-init g c = record { code = tt; so = contexts_start (in_fields (misses (g.S.FieldFrames.used c.args.said.now) (g.S.FieldFrames.types c.args.said.now))) c.args.parts.now }
