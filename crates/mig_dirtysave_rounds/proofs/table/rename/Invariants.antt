use Rattle.mig_dirtysave_rounds.proofs.Common.{◌≡◌}
use Rattle.mig_dirtysave_rounds.proofs.Tables.{Front}
use Rattle.mig_dirtysave_rounds.proofs.table.rename.Given as goal

abbrev pub invariant-loop-slot : goal.invariant-loop-slot
invariant-loop-slot g l = record {
  front : Front (g.M.Machine.state l.fn.machine) (g.M.Machine.state l.machine) l.fn.pfn l.fn.kind l.fn.level l.fn.page l.slot l.page;
  later : g.M.Machine.Later l.fn.machine l.machine;
  quiet : g.M.Machine.faults l.machine ≡ g.M.Machine.faults l.fn.machine;
}
