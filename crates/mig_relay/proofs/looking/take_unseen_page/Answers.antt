use Rattle.mig_relay.proofs.Common.{◌++◌, length-append, arith, rules}
use Rattle.std.proofs.KnownBytes.{Consumes-trans, Consumes-kept}
use Rattle.mig_relay.proofs.Unseen.{took, ended, failed}
use Rattle.mig_relay.proofs.looking.take_unseen_page.Goals as goal

pub loop-left-preserved : goal.loop-left-preserved
loop-left-preserved g c =
    let (gone, count, before) = c.loop-left.invariant.bytes in
    let ((more, bytes, some, now), end) = c.in-Ok.ensures.bytes in
    record {
      bytes = (gone ++ more, omega (arith, length-append gone more, count, some, c.in-Ok.ensures.bound), Consumes-trans _ _ _ gone more before now);
      quiet = search rules;
    }

pub returns-in-Ok-eq0-clause-page : goal.returns-in-Ok-eq0-clause-page
returns-in-Ok-eq0-clause-page g c =
    let (gone, count, before) = c.loop-left.invariant.bytes in
    let ((more, bytes, none, now), end) = c.in-Ok-eq0.ensures.bytes in
    ended _ _ (gone ++ more) (omega (arith, length-append gone more, count, none, c.loop-left-test.true, c.in-Ok-eq0.field-0-is)) (Consumes-trans _ _ _ gone more before now) (end (omega (arith, c.in-Ok-eq0.field-0-is)) (omega (arith, c.loop-left-test.true)))

pub returns-in-Err-clause-page : goal.returns-in-Err-clause-page
returns-in-Err-clause-page g c =
    let (gone, count, before) = c.loop-left.invariant.bytes in
    failed _ _ gone (omega (arith, count)) (Consumes-kept _ _ _ gone before c.in-Err.ensures.bytes)

pub returns-clause-page : goal.returns-clause-page
returns-clause-page g c =
    let (gone, count, before) = c.loop-left.invariant.bytes in
    took _ _ gone (omega (arith, count, c.loop-left-test.false)) before
