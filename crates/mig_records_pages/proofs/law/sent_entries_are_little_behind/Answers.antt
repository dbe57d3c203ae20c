use Rattle.mig_records_pages.proofs.Joins.{behind_anyway, few_batches}
use Rattle.mig_records_pages.proofs.law.sent_entries_are_little_behind.Goals as goal

pub returns-clause-behind : goal.returns-clause-behind
returns-clause-behind c = behind_anyway

pub returns-clause-few : goal.returns-clause-few
returns-clause-few c = few_batches
