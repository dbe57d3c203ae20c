use Rattle.mig_pvtables.proofs.Common.{◌≡◌, length, IfSome, parts_after, misses}
use Rattle.mig_pvtables.proofs.Walks.{in_fields, IsSoBehind}
use Rattle.std.specs.FinMap as maps
use Rattle.mig_pvtables.proofs.fields.bad_field.Given as goal

abbrev pub invariant-loop-key : goal.invariant-loop-key
invariant-loop-key g l = record {
  code : IfSome l.after (λ k. k.code ≡ 4);
  so : IsSoBehind (in_fields (misses (g.S.FieldFrames.used l.said) (g.S.FieldFrames.types l.said))) l.fn.parts l.after;
}

abbrev pub decreases-loop-key : goal.decreases-loop-key
decreases-loop-key g l = length (parts_after 4 l.after (maps.entries l.fn.parts))
