use Rattle.mig_outline.proofs.judge.judge_image.Goals as goal

pub returns-clause-faults : goal.returns-clause-faults
returns-clause-faults g c = c.judged.ensures.faults _ _ c.take_image.ensures.faults
