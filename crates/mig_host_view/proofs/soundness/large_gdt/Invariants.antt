use Rattle.mig_host_view.proofs.Common.{◌≡◌, length, IfSome, parts_after, large_in, IsSoBehind}
use Rattle.std.specs.FinMap as maps
use Rattle.mig_host_view.proofs.soundness.large_gdt.Given as goal

abbrev pub invariant-loop-key : goal.invariant-loop-key
invariant-loop-key l = record {
  code : IfSome l.after (λ k. k.code ≡ 4);
  so : IsSoBehind large_in l.fn.parts l.after;
}

abbrev pub decreases-loop-key : goal.decreases-loop-key
decreases-loop-key l = length (parts_after 4 l.after (maps.entries l.fn.parts))
