use Rattle.mig_dirtysave.proofs.Common.{◌≡◌, option_and_then, pfn_in, is_used_somewhere, FieldsRenamed, types_seen, OnlyLooksUp, NoneMisses}
use Rattle.mig_dirtysave.proofs.contexts.rename_context.Given as goal

abbrev pub invariant-loop-field : goal.invariant-loop-field
invariant-loop-field g l = record {
  renamed : FieldsRenamed is_used_somewhere (pfn_in (g.M.Machine.state l.fn.machine).host.frames) l.id l.fn.context l.field l.context;
  none : NoneMisses is_used_somewhere (λ mfn. option_and_then (types_seen l.types) (pfn_in (g.M.Machine.state l.fn.machine).host.frames mfn)) l.id l.fn.context l.field;
  looks : OnlyLooksUp (g.M.Machine.state l.fn.machine) (g.M.Machine.state l.machine);
  later : g.M.Machine.Later l.fn.machine l.machine;
  quiet : g.M.Machine.faults l.machine ≡ g.M.Machine.faults l.fn.machine;
}
