use Rattle.mig_placing.proofs.Compared.{frame_told, none_first, none_told}
use Rattle.mig_placing.proofs.Common.{◌≤◌, arith}
use Rattle.mig_placing.proofs.compares.cell_of.Goals as goal

pub returns-then-first-pfn-clause-some : goal.returns-then-first-pfn-clause-some
returns-then-first-pfn-clause-some c = λ file. frame_told file c.args.places.now c.args.pfn _ _ c.in-Some.ensures.first c.if-first-pfn.true

pub returns-else-first-pfn-clause-none : goal.returns-else-first-pfn-clause-none
returns-else-first-pfn-clause-none c = λ file. none_first file c.args.places.now c.args.pfn _ _ c.in-Some.ensures.first c.if-first-pfn.false

pub returns-in-None-clause-none : goal.returns-in-None-clause-none
returns-in-None-clause-none c = λ file. none_told file c.args.places.now c.args.pfn (c.in-None.ensures.none c.args.pfn (let e : c.args.pfn ≤ c.args.pfn = omega arith in e))
