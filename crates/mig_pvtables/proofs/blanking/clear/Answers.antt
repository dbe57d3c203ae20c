use Rattle.mig_pvtables.proofs.Common.{ap, ◌∙◌, replicate}
use Rattle.mig_pvtables.specs.Blank.{zero_page}
use Rattle.mig_pvtables.proofs.blanking.clear.Goals as goal

pub returns : goal.returns
unfolding zero_page
returns c = c.fill.ensures.after (λ y e. e) ∙ ap (λ n. replicate n 0) c.told-page
