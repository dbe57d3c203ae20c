use Rattle.mig_relay_bodies.proofs.Common.{arith, length-append}
use Rattle.mig_relay_bodies.proofs.body.BodySeen.pass.Goals as goal

pub returns-clause-begun : goal.returns-clause-begun
returns-clause-begun c = λ fault begun is. record {
  taken = omega (arith, is.taken, length-append begun c.args.piece.now);
  known = c.behind-self.ensures fault begun is;
}
