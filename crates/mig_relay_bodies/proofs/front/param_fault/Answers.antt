use Rattle.mig_relay_bodies.proofs.Common.{◌≡◌, ◌∙◌, arith, common_steps, little_number}
use Rattle.mig_relay_bodies.proofs.Fronts.{first64}
use Rattle.mig_relay_bodies.proofs.front.param_fault.Goals as goal

pub returns-then-index-from : goal.returns-then-index-from
returns-then-index-from c =
    let is : c.u64_le-index.result ≡ little_number 8 c.args.bytes.now = c.u64_le-index.ensures ∙ first64 c.args.bytes.now in
    grind (arith, common_steps, is)

pub returns : goal.returns
returns c =
    let is : c.u64_le-index.result ≡ little_number 8 c.args.bytes.now = c.u64_le-index.ensures ∙ first64 c.args.bytes.now in
    grind (arith, common_steps, is)
