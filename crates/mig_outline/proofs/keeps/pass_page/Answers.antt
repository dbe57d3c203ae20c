use Rattle.mig_restore.proofs.Common.{rules, ◌∙◌}
use Rattle.mig_outline.proofs.Entries.{passed, not_there}
use Rattle.mig_restore_form.proofs.Batches.{carries}
use Rattle.mig_outline.proofs.keeps.pass_page.Goals as goal

pub returns-then-has_data-clause-read : goal.returns-then-has_data-clause-read
returns-then-has_data-clause-read g c = λ kind top place none. passed kind top place c.args.word none _ _ c.skip_body.result (carries c.args.word ∙ search rules) c.skip_body.ensures.read

pub returns-else-has_data-clause-read : goal.returns-else-has_data-clause-read
returns-else-has_data-clause-read g c = λ kind top place none. not_there kind top place c.args.word none _ (carries c.args.word ∙ search rules)
