use Rattle.mig_policy.proofs.Common.{◌≡◌, ◌+◌, ◌-◌, Some, length, sym, ap, ◌∙◌, rules, arith, texts_in, bad_key_at}
use Rattle.mig_policy.proofs.TextSteps.{bad_here, bad_last, bad_step}
use Rattle.mig_policy.proofs.faults.bad_key_place.Goals as goal

pub loop-key-init : goal.loop-key-init
loop-key-init c = let n = length c.args.bytes.now in let zero : 0 ≡ n - n = omega arith in record {
  same = ap (λ at. bad_key_at at (texts_in c.args.bytes.now)) zero;
  within = omega arith;
}

pub returns-then-is_bad : goal.returns-then-is_bad
returns-then-is_bad c =
    let at = length c.args.bytes.now - length c.loop-key.rest.now in
    ap (λ n. Some (at + n)) c.allowed_len-allowed.ensures
    ∙ sym (c.loop-key.invariant.same ∙ bad_here at c.loop-key.rest.now c.in-Some.key.now c.in-Some.behind.now (search rules) (cc (c.if-is_bad.true, c.is_bad.ensures, c.allowed_len-allowed.ensures)))

pub returns-in_default-split_text : goal.returns-in_default-split_text
returns-in_default-split_text c =
    let at = length c.args.bytes.now - length c.loop-key.rest.now in
    sym (c.loop-key.invariant.same ∙ bad_last at c.loop-key.rest.now c.in-Some.key.now c.in-Some.behind.now (search rules) (search rules) (cc (c.if-is_bad.false, c.is_bad.ensures, c.allowed_len-allowed.ensures)))

pub loop-key-preserved : goal.loop-key-preserved
loop-key-preserved c = record {
  same = c.loop-key.invariant.same
      ∙ bad_step (length c.args.bytes.now) c.loop-key.rest.now c.in-Some.key.now c.in-Some.behind.now c.in-Some-split_text.field-0-0.now c.in-Some-split_text.next.now (search rules) (search rules) (search rules) (search rules)
      c.loop-key.invariant.within (cc (c.if-is_bad.false, c.is_bad.ensures, c.allowed_len-allowed.ensures));
  within = omega (arith, c.in-Some.ensures.len, c.in-Some-split_text.ensures.len, c.loop-key.invariant.within);
}
