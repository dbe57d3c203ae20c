use Rattle.mig_walk.proofs.Common.{sym, subst, CanBeWalked, IsWalked}
use Rattle.mig_walk.proofs.Standings.{guest_ready}
use Rattle.mig_walk.proofs.walk.walk_outlined.Goals as goal

pub returns : goal.returns
returns c = record {
  walked = λ g same whole. subst (λ s. IsWalked s c.args.vcpu c.args.address c.walk.result) same (c.walk.ensures (subst (λ s. CanBeWalked s c.args.vcpu) (sym same) (guest_ready g whole c.args.vcpu)));
}
