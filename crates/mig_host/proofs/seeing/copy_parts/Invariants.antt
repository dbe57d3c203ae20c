use Rattle.mig_host.proofs.Common.{◌≡◌, length, parts_behind, IsOfBytes, part_seen}
use Rattle.mig_host.proofs.Copies.{IsCopied}
use Rattle.std.specs.FinMap as maps
use Rattle.mig_host.proofs.seeing.copy_parts.Given as goal

abbrev pub invariant-loop-key : goal.invariant-loop-key
invariant-loop-key l = record {
  others : l.guest ≡ record l.fn.guest { parts = l.guest.parts };
  copied : IsCopied part_seen l.host.host.parts l.guest.parts (parts_behind l.after (maps.entries l.host.host.parts));
  bytes : IsOfBytes l.guest;
}

abbrev pub decreases-loop-key : goal.decreases-loop-key
decreases-loop-key l = length (parts_behind l.after (maps.entries l.host.host.parts))
