-- The P2M frames of the host that a whole PV guest becomes.
use Rattle.mig_host.proofs.Common.{◌≡◌, ℕ, Some, ap, option_map, nat_cmp_total, nat_cmp-IsAntisymmetric, Pv, FrameOf, HostFrame, with_machine, hosted, GuestOf, IsWhole, to_each, localised, mfn_in, listed}
use Rattle.mig_pvtables.specs.P2mPages.{p2m_page}
use Rattle.mig_host_view.proofs.ListedPages.{listed_page}
use Rattle.mig_host.proofs.HostedGuests.{machine_of}
use Rattle.std.specs.FinMap as maps

pub hosted_page : (guest : GuestOf) (base k pfn : ℕ) → IsWhole guest → guest.kind ≡ Pv → listed guest.parts k ≡ Some pfn
    → (frame : HostFrame) × (maps.get (hosted guest base).frames pfn ≡ Some frame) × (frame.page ≡ Some (p2m_page (mfn_in guest.frames base) k))
hosted_page g base k pfn whole pv at =
    let (x, found, page) = listed_page g whole pv (mfn_in g.frames base) (λ n none. ap (option_map (λ _. machine_of g base n)) none) k pfn at in
    (with_machine x (machine_of g base pfn), to_each nat_cmp_total nat_cmp-IsAntisymmetric (λ (p : ℕ) (f : FrameOf). with_machine f (machine_of g base p)) (localised (mfn_in g.frames base) g).frames pfn x found, page)
