-- What a valid and sound host is seen as is a whole guest in blank form.
use Rattle.mig_host_view.proofs.Common.{◌≡◌, refl, subst, Pv, Hvm, blank, blank_of, IsWhole, Kind, HostOf, IsValid, pfn_in, normalised_of, IsSound, guest_in, view, hvm_blank}
use Rattle.mig_pvtables.proofs.BlankAgain.{blank_again}
use Rattle.mig_host_view.proofs.ViewedHvm.{cut, hvm_viewed}
use Rattle.mig_host_view.proofs.ViewedPv.{there, pv_viewed}

module _ (h : HostOf) (valid : IsValid h) (sound : IsSound h) where
  viewed_case : (k : Kind) → h.kind ≡ k → IsWhole (view h)
  viewed_case Pv is = pv_viewed h valid sound is
  viewed_case Hvm is = hvm_viewed h valid sound is

  pub viewed_whole : IsWhole (view h)
  viewed_whole = viewed_case h.kind refl

  -- and in blank form
  blank_case : (k : Kind) → h.kind ≡ k → blank (normalised_of k (pfn_in h.frames) (guest_in h)) ≡ normalised_of k (pfn_in h.frames) (guest_in h)
  blank_case Hvm hvm = hvm_blank (cut h valid sound hvm) hvm
  blank_case Pv pv = subst (λ k. blank (blank_of k (there h valid sound pv)) ≡ blank_of k (there h valid sound pv)) pv (blank_again (there h valid sound pv))

  pub viewed_blank : blank (view h) ≡ view h
  viewed_blank = blank_case h.kind refl
