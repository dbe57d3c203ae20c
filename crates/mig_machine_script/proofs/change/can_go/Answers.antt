use Rattle.std.specs.FinMap as maps
use Rattle.mig_machine_script.proofs.LinesApplied.{own_unnamed}
use Rattle.mig_machine_script.proofs.change.can_go.Goals as goal

pub returns-in-Some : goal.returns-in-Some
returns-in-Some c = let h = c.args.host.now.host in own_unnamed h.frames (maps.get h.frames c.args.pfn) c.in-Some.own c.is_named.result c.in-Some.ensures.value c.is_named.ensures
