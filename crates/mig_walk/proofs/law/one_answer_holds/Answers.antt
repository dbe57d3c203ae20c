use Rattle.mig_walk.proofs.Laws.{host_once}
use Rattle.mig_walk.proofs.law.one_answer_holds.Goals as goal

pub returns-clause-host : goal.returns-clause-host
returns-clause-host c = host_once
