-- The view of an HVM host.
use Rattle.mig_host_view.proofs.Common.{◌≡◌, ap, Hvm, each_value, HostOf, pfn_in, normalised_of, without_machine, top_of, view, hvm_view}

pub hvm_viewed : (h : HostOf) → h.kind ≡ Hvm → view h ≡ hvm_view h
hvm_viewed h hvm = ap (λ k. normalised_of k (pfn_in h.frames) (record { kind = h.kind; top = top_of k h.width; frames = each_value (λ pfn f. without_machine f) h.frames; parts = h.parts })) hvm
