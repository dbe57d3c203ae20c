use Rattle.mig_relay_bodies.proofs.Common.{subst, sym, HeaderSize, IsHeaderFault, not_header, not_sized}
use Rattle.mig_relay_bodies.proofs.chain.header_fault.Goals as goal

pub returns-then-typecode-ne1-clause-faulty : goal.returns-then-typecode-ne1-clause-faulty
returns-then-typecode-ne1-clause-faulty c = not_header c.if-at-ne0.false c.if-typecode-ne1.true

pub returns-then-size-ne24-clause-faulty : goal.returns-then-size-ne24-clause-faulty
returns-then-size-ne24-clause-faulty c = subst (λ n. IsHeaderFault c.args.at c.args.typecode c.args.size (HeaderSize n)) (sym c.from.ensures) (not_sized c.if-at-ne0.false c.if-typecode-ne1.false c.if-size-ne24.true)
