use Rattle.mig_relay_bodies.proofs.Common.{◌≡◌, ◌+◌, ◌-◌, None, drop, length, sym, ap, ◌∙◌, arith, length-drop, fault_of_entry, fault_of_entries, HvmParam, params, rules}
use Rattle.mig_records.proofs.Reading.{fault_here, fault_next}
use Rattle.mig_relay_bodies.proofs.front.params_fault.Goals as goal

pub returns-in-Some : goal.returns-in-Some
returns-in-Some c = λ n size.
    fault_here HvmParam params c.loop-i.rest.now (n - c.loop-i.i) (n - (c.loop-i.i + 1)) (omega (arith, c.loop-i-test.true, size)) c.in-Some.cause (sym c.in-Some.is ∙ c.param_fault.ensures)
    ∙ c.loop-i.invariant.same n size

pub loop-i-preserved : goal.loop-i-preserved
loop-i-preserved c =
    let rest = c.loop-i.rest.now in
    let behind : c.split_at.result.1.now ≡ drop 16 rest = search rules in
    let fine : fault_of_entry HvmParam params rest ≡ None = search rules in
    let whole = c.loop-i.invariant.whole in
    record {
      whole = omega (arith, ap length behind, length-drop 16 rest, whole, c.loop-i-test.true);
      same = λ n size.
          ap (fault_of_entries HvmParam params (n - (c.loop-i.i + 1))) behind
          ∙ fault_next HvmParam params rest (n - c.loop-i.i) (n - (c.loop-i.i + 1)) (omega (arith, c.loop-i-test.true, size)) fine
          ∙ c.loop-i.invariant.same n size;
    }
