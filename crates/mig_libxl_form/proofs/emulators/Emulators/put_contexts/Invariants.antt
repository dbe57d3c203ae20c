use Rattle.mig_libxl_form.proofs.Common.{◌≡◌, length, put_parts, ArePartsBefore, parts_behind}
use Rattle.std.specs.FinMap as maps
use Rattle.mig_libxl_form.proofs.emulators.Emulators.put_contexts.Given as goal

-- what is still to be set leads to all of them set, and all else is set
abbrev pub invariant-loop-key : goal.invariant-loop-key
invariant-loop-key l = record {
  leads : record l.guest { parts = put_parts l.guest.parts (parts_behind l.after (maps.entries l.self.contexts)) } ≡ record l.fn.guest { parts = put_parts l.fn.guest.parts (maps.entries l.self.contexts) };
  begun : ArePartsBefore l.fn.guest l.guest (parts_behind l.after (maps.entries l.self.contexts)) (maps.entries l.self.contexts);
}

abbrev pub decreases-loop-key : goal.decreases-loop-key
decreases-loop-key l = length (parts_behind l.after (maps.entries l.self.contexts))
