use Rattle.mig_relay_bodies.proofs.Common.{subst}
use Rattle.mig_relay_bodies.proofs.FirstPieces.{FirstOf, params_misfit_first, params_first}
use Rattle.mig_relay_bodies.proofs.front.behind_params.Goals as goal

pub returns-then-len-count : goal.returns-then-len-count
returns-then-len-count c = λ size.
    params_misfit_first c.args.len c.u32_le-count.result _ c.args.piece.now c.requires c.u32_le-count.ensures c.if-len-count.true c.from.ensures

pub returns : goal.returns
returns c = λ size.
    params_first c.args.len c.u32_le-count.result c.args.piece.now c.params_fault.result c.requires c.u32_le-count.ensures c.if-len-count.false
    (subst (λ l. FirstOf l c.params_fault.result) c.split_at.ensures.back c.params_fault.ensures) size
