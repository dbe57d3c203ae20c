use Rattle.mig_exercise.proofs.Common.{◌-◌, ◌^◌, ◌∙◌, arith}
use Rattle.mig_exercise.proofs.LongPages.{p2m_page_is, all_ones}
use Rattle.mig_exercise.proofs.pages.p2m_page.Goals as goal

pub returns : goal.returns
returns c = c.put_falling.ensures (λ _. 2 ^ 64 - 1) (all_ones 512) ∙ p2m_page_is c.args.frames c.args.k c.min-count.result c.machine_of.result (omega arith) (omega (arith, c.min-count.ensures)) c.machine_of.ensures
