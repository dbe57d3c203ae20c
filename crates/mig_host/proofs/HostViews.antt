-- The host that a whole HVM guest becomes holds no machine frames but those of its frames, and is seen as this guest.
use Rattle.mig_host.proofs.Common.{◌≡◌, ℕ, ◌+◌, sym, ap, subst, ◌∙◌, Kind, Hvm, HostOf, IsTop, with_machines, rank_in, least_width, hosted, GuestOf, IsWhole, localised_of, mfn_in, hosted_width, hvm_view, parts_stay}
use Rattle.mig_host.proofs.HostMaps.{without_machines}
use Rattle.std.specs.FinMap as maps

-- what an HVM guest becomes
abbrev pub hvm_hosted : GuestOf → ℕ → HostOf
hvm_hosted g base = record { kind = g.kind; width = least_width (maps.entries g.frames); frames = with_machines g.frames (λ pfn. base + rank_in g.frames pfn); parts = g.parts }

pub hosted_as_hvm : (g : GuestOf) (base : ℕ) → g.kind ≡ Hvm → hosted g base ≡ hvm_hosted g base
hosted_as_hvm g base hvm =
    ap (λ (k : Kind). record {
      kind = g.kind;
      width = hosted_width k g;
      frames = with_machines (localised_of k (mfn_in g.frames base) g).frames (λ pfn. base + rank_in g.frames pfn);
      parts = (localised_of k (mfn_in g.frames base) g).parts;
    }) hvm

pub hosted_seen : (guest : GuestOf) (base : ℕ) → IsWhole guest → guest.kind ≡ Hvm → hvm_view (hosted guest base) ≡ guest
hosted_seen g base whole hvm =
    let top : g.top ≡ 0 = subst (λ (k : Kind). IsTop k g.top) hvm whole.formed.top in
    let frames = without_machines g.frames (λ pfn. base + rank_in g.frames pfn) in
    let parts = parts_stay g whole in
    ap hvm_view (hosted_as_hvm g base hvm) ∙ (λ j. record { kind = g.kind; top = sym top j; frames = frames j; parts = parts j })
