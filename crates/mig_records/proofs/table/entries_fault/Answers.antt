use Rattle.mig_records.proofs.Common.{◌≡◌, ◌+◌, ◌-◌, length, None, ap, sym, ◌∙◌, arith, rules, entry_width, fault_of_entries, fault_of_entry}
use Rattle.std.specs.Prelude.{drop}
use Rattle.mig_records.proofs.Reading.{shorter, fault_here, fault_next}
use Rattle.mig_records.proofs.table.entries_fault.Goals as goal

pub returns-in-Some : goal.returns-in-Some
returns-in-Some c =
    fault_here c.args.code c.args.layout c.loop-i.rest.now (c.args.count - c.loop-i.i) (c.args.count - (c.loop-i.i + 1)) (omega (arith, c.loop-i-test.true)) c.in-Some.cause
    (sym c.in-Some.is ∙ c.entry_fault.ensures) ∙ c.loop-i.invariant.same

pub loop-i-preserved : goal.loop-i-preserved
loop-i-preserved c =
    let code = c.args.code in let layout = c.args.layout in let rest = c.loop-i.rest.now in
    let n = c.args.count - c.loop-i.i in let m = c.args.count - (c.loop-i.i + 1) in
    let one_less : n ≡ m + 1 = omega (arith, c.loop-i-test.true) in
    let behind : c.behind-rest.result.now ≡ drop (entry_width layout) rest = search rules in
    let fine : fault_of_entry code layout rest ≡ None = search rules in
    record {
      whole = ap length behind ∙ shorter code layout rest n m one_less c.loop-i.invariant.whole;
      same = ap (fault_of_entries code layout m) behind ∙ fault_next code layout rest n m one_less fine ∙ c.loop-i.invariant.same;
    }
