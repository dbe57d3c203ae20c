use Rattle.mig_relay_bodies.proofs.Common.{sym, ◌∙◌, arith, eq-eqb, ne_eqb, chain_more}
use Rattle.mig_relay_bodies.proofs.ContextChain.{faulty_here, ends_here, header_faulty, fine_end, short_entry, fine_entry}
use Rattle.mig_relay_bodies.proofs.chain.behind_head.Goals as goal

pub returns-in-Some-clause-says : goal.returns-in-Some-clause-says
returns-in-Some-clause-says c = λ bytes len chain code size.
    faulty_here bytes c.args.at c.in-Some.fault chain (header_faulty bytes c.args.at c.args.len len c.requires.head c.args.typecode c.args.size c.in-Some.fault code size c.in-Some.ensures.faulty)

pub returns-then-typecode-eq0-clause-says : goal.returns-then-typecode-eq0-clause-says
returns-then-typecode-eq0-clause-says c = λ bytes len chain code size.
    ends_here bytes c.args.at chain (fine_end bytes c.args.at c.args.len len c.requires.head (λ zero. sym code ∙ c.in_default.ensures.fine.0 zero) (sym code ∙ c.if-typecode-eq0.true)) (eq-eqb _ 0 (sym code ∙ c.if-typecode-eq0.true))

pub returns-then-len-at-clause-says : goal.returns-then-len-at-clause-says
returns-then-len-at-clause-says c = λ bytes len chain code size.
    faulty_here bytes c.args.at _ chain (short_entry bytes c.args.at c.args.len len c.requires.head (λ zero. sym code ∙ c.in_default.ensures.fine.0 zero) (λ zero. sym size ∙ c.in_default.ensures.fine.1 zero)
    (λ last. c.if-typecode-eq0.false (code ∙ last)) (omega (arith, c.if-len-at.true, c.from.ensures, size, c.requires.head)))

pub returns-clause-says : goal.returns-clause-says
returns-clause-says c = λ bytes len chain code size.
    chain_more bytes c.args.at _ chain (fine_entry bytes c.args.at c.args.len len c.requires.head (λ zero. sym code ∙ c.in_default.ensures.fine.0 zero) (λ zero. sym size ∙ c.in_default.ensures.fine.1 zero)
    (λ last. c.if-typecode-eq0.false (code ∙ last)) (omega (arith, c.if-len-at.false, c.from.ensures, size, c.requires.head)))
    (ne_eqb _ 0 (λ last. c.if-typecode-eq0.false (code ∙ last))) (omega (arith, c.from-2.ensures, size))
