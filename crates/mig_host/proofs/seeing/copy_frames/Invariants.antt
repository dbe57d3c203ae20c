use Rattle.mig_host.proofs.Common.{◌≡◌, length, entries_from, IsOfBytes, without_machine}
use Rattle.mig_host.proofs.Copies.{IsCopied}
use Rattle.std.specs.FinMap as maps
use Rattle.mig_host.proofs.seeing.copy_frames.Given as goal

abbrev pub invariant-loop-pfn : goal.invariant-loop-pfn
invariant-loop-pfn l = record {
  others : l.guest ≡ record l.fn.guest { frames = l.guest.frames };
  copied : IsCopied (λ _ frame. without_machine frame) l.host.host.frames l.guest.frames (entries_from l.from (maps.entries l.host.host.frames));
  bytes : IsOfBytes l.guest;
}

abbrev pub decreases-loop-pfn : goal.decreases-loop-pfn
decreases-loop-pfn l = length (entries_from l.from (maps.entries l.host.host.frames))
