use Rattle.mig_bytes.proofs.Common.{◌++◌, length, rules, arith, length-append, append_assoc, ap, subst, ◌∙◌, Consumes-trans, Grown}
use Rattle.mig_bytes.proofs.Taking.{takes_more, few_more}
use Rattle.mig_bytes.proofs.Vectors.{kept_first}
use Rattle.mig_bytes.proofs.take.take_vec.Goals as goal

pub returns-in-Err-clause-failed : goal.returns-in-Err-clause-failed
returns-in-Err-clause-failed g c =
    let (gone, count, grown, before) = c.loop-left.invariant.bytes in
    let now = c.in-Err.ensures.taken in
    (gone ++ now.taken, length gone, kept_first _ _ _ gone now.taken c.in-Err.ensures.failed grown, Consumes-trans _ _ _ _ _ before now.gone)

pub loop-left-preserved : goal.loop-left-preserved
loop-left-preserved g c =
    let (gone, count, grown, before) = c.loop-left.invariant.bytes in
    let (more, size, after, now) = subst (Grown _ _ _ _ _) c.in-Ok-Whole.field-0-is c.in-Ok-Whole.ensures.bytes in
    record {
      bytes = (gone ++ more, omega (arith, length-append gone more), after ∙ ap (λ l. l ++ more) grown ∙ append_assoc c.args.to.now.items gone more, Consumes-trans _ _ _ _ _ before now);
      taken = takes_more _ _ _ c.loop-left.invariant.taken c.in-Ok-Whole.ensures.taken;
      quiet = search rules;
      capacity = search rules;
    }

pub returns-in-Ok-Short-clause-taken : goal.returns-in-Ok-Short-clause-taken
returns-in-Ok-Short-clause-taken g c = takes_more _ _ _ c.loop-left.invariant.taken c.in-Ok-Short.ensures.taken

pub returns-in-Err-clause-taken : goal.returns-in-Err-clause-taken
returns-in-Err-clause-taken g c = takes_more _ _ _ c.loop-left.invariant.taken c.in-Err.ensures.taken

pub returns-in-Ok-Short-clause-few : goal.returns-in-Ok-Short-clause-few
returns-in-Ok-Short-clause-few g c =
    let (gone, count, grown, before) = c.loop-left.invariant.bytes in
    few_more _ _ _ gone _ _ _ count (search rules) before c.in-Ok-Short.ensures.few

pub returns-in-Err-clause-few : goal.returns-in-Err-clause-few
returns-in-Err-clause-few g c =
    let (gone, count, grown, before) = c.loop-left.invariant.bytes in
    few_more _ _ _ gone _ _ _ count (search rules) before c.in-Err.ensures.few
