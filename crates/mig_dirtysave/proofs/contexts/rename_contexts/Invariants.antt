use Rattle.mig_dirtysave.proofs.Common.{◌≡◌, length, pfn_in, parts_after, first_some, is_used_somewhere, in_fields, in_contexts, renamed_context, names_ill, standing_seen, OnlyLooksUp, ChangedUpTo}
use Rattle.std.specs.FinMap as maps
use Rattle.mig_dirtysave.proofs.contexts.rename_contexts.Given as goal

abbrev pub invariant-loop-key : goal.invariant-loop-key
invariant-loop-key g l = record {
  changed : ChangedUpTo 4 (λ k. renamed_context is_used_somewhere (pfn_in (g.M.Machine.state l.fn.machine).host.frames) k.key1) l.fn.guest l.after l.guest;
  so : first_some (in_fields (names_ill (standing_seen (g.M.Machine.state l.fn.machine).host l.types))) (parts_after 4 l.after (maps.entries l.guest.parts))
      ≡ in_contexts (in_fields (names_ill (standing_seen (g.M.Machine.state l.fn.machine).host l.types))) l.fn.guest.parts;
  looks : OnlyLooksUp (g.M.Machine.state l.fn.machine) (g.M.Machine.state l.machine);
  later : g.M.Machine.Later l.fn.machine l.machine;
  quiet : g.M.Machine.faults l.machine ≡ g.M.Machine.faults l.fn.machine;
}

abbrev pub decreases-loop-key : goal.decreases-loop-key
decreases-loop-key g l = length (parts_after 4 l.after (maps.entries l.fn.guest.parts))
