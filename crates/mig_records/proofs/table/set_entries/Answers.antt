use Rattle.mig_records.proofs.Common.{◌+◌, ◌-◌, arith}
use Rattle.mig_records.proofs.Reading.{fine_first}
use Rattle.mig_records.proofs.table.set_entries.Goals as goal

pub set_entry-requires-clause-fine : goal.set_entry-requires-clause-fine
set_entry-requires-clause-fine c = (fine_first c.args.code c.args.layout c.loop-i.rest.now (c.args.count - c.loop-i.i) (c.args.count - (c.loop-i.i + 1)) (omega (arith, c.loop-i-test.true)) c.loop-i.invariant.fine).0
