use Rattle.std.proofs.Common.{arith, refl}
use Rattle.mig_blanked.proofs.BesideFile.{more_plain, next_at}
use Rattle.mig_blanked.proofs.plain.count_plain.Goals as goal

pub loop-count-preserved : goal.loop-count-preserved
loop-count-preserved c =
    let cells = c.args.places.now in
    record {
      plain = more_plain c.args.marks.now.values cells c.args.from c.loop-count.count c.loop-count.at (c.in-Some.pfn, c.in-Some.cell) c.in-Some.ensures.first c.loop-count.invariant.at c.loop-count.invariant.plain (c.if-not-is_plain.ensures.plain refl);
      at = next_at c.args.marks.now.values cells c.args.from c.loop-count.count c.loop-count.at (c.in-Some.pfn, c.in-Some.cell) c.in-Some.ensures.first c.loop-count.invariant.at;
      most = omega (arith, c.loop-count-test.true);
    }
