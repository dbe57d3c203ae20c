use Rattle.mig_legacy.proofs.Common.{Result, Ok, Err, rules, OnOk}
use Rattle.mig_legacy.proofs.Tails.{tail_set}
use Rattle.mig_legacy.proofs.tail.set_tail.Goals as goal

-- what follows of a value follows where there is one
on : {T E : Type 0} {P Q : Type 0} (r : Result T E) → (P → Q) → OnOk r P → OnOk r Q
on (Ok x) f h = f h
on (Err e) f h = tt

pub returns : goal.returns
returns c = record {
  ok = on c.read_context.result (tail_set c.args.frames.now c.args.context.now c.args.guest.now c.set_part.new.self c.set_part-2.new.self c.set_part-3.new.self c.read_context.new.guest _ _ _ (search rules) c.requires.chain c.param_key.ensures c.param_key-2.ensures c.param_key-3.ensures c.in_ok-set_part.ensures.ok c.in_ok-set_part-2.ensures.ok c.in_ok-set_part-3.ensures.ok) c.read_context.ensures.ok;
}
