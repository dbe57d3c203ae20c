use Rattle.mig_legacy.proofs.ChunkCommon.{sym, ◌∙◌}
use Rattle.mig_legacy.proofs.BatchFaults.{reserved_said, high_said, none_said}
use Rattle.mig_legacy.proofs.batch.batch_fault.Goals as goal

-- src/batch.rt:46:9
pub returns-in-Some-clause-said : goal.returns-in-Some-clause-said
returns-in-Some-clause-said c = reserved_said c.args.words.now c.in-Some.entry c.type_number.result (sym c.in-Some.is ∙ c.first_reserved.ensures) c.type_number.ensures

-- src/batch.rt:49:9
pub returns-in-Some-first_high-clause-said : goal.returns-in-Some-first_high-clause-said
returns-in-Some-first_high-clause-said c = high_said c.args.words.now c.in-Some-first_high.entry (sym c.in_default.is ∙ c.first_reserved.ensures) (sym c.in-Some-first_high.is ∙ c.first_high.ensures)

-- src/batch.rt:40:1
pub returns-clause-said : goal.returns-clause-said
returns-clause-said c = none_said c.args.words.now (sym c.in_default.is ∙ c.first_reserved.ensures) (sym c.in_default-first_high.is ∙ c.first_high.ensures)
