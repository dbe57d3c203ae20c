-- What is found in the tables of a valid HVM host while it is read: nothing, since it has none.
use Rattle.mig_dirtysave.proofs.Common.{Unsound, HostOf, HostFrame, IsValid, footprint_of, footprint, table_in, superpage_in, superpage_slot, lost_in, lost_slot, IsUnsound, no_level, hvm_type}
use Rattle.mig_host_view.proofs.Common.{◌≡◌, ℕ, Option, Some, None, refl, sym, ap, ◌∙◌, option_map, Hvm}
use Rattle.std.specs.FinMap as maps
use Rattle.mig_headers.specs.declared.unsound.Unsound.TheVariants as unsounds

module _ (h : HostOf) (valid : IsValid h) (hvm : h.kind ≡ Hvm) where
  no_superpage : (pfn : ℕ) → superpage_slot (footprint h.frames pfn) ≡ None
  no_superpage pfn = by (maps.get h.frames pfn) refl
    where
      by : (o : Option HostFrame) → maps.get h.frames pfn ≡ o → superpage_slot (option_map (footprint_of h.frames) o) ≡ None
      by None is = refl
      by (Some f) is = ap (λ l. superpage_in (table_in l f.page)) (no_level f.type (hvm_type h valid hvm pfn f is))

  no_lost : (pfn : ℕ) → lost_slot (footprint h.frames pfn) ≡ None
  no_lost pfn = by (maps.get h.frames pfn) refl
    where
      by : (o : Option HostFrame) → maps.get h.frames pfn ≡ o → lost_slot (option_map (footprint_of h.frames) o) ≡ None
      by None is = refl
      by (Some f) is = ap (λ l. lost_in (table_in l f.page) (footprint_of h.frames f).names) (no_level f.type (hvm_type h valid hvm pfn f is))

  never : (u : Unsound) → IsUnsound h.frames u → ⊥
  never (unsounds.Superpage pfn slot) is = let no : ◌≡◌ {A = Option ℕ} None (Some slot) = sym (no_superpage pfn) ∙ is in absurd (cc)
  never (unsounds.NoFrame pfn slot) is = let no : ◌≡◌ {A = Option ℕ} None (Some slot) = sym (no_lost pfn) ∙ is in absurd (cc)
  never _ is = is

  -- nothing that is wrong in it is found there
  pub no_table_fault : (answer : Option Unsound) → ((u : Unsound) → answer ≡ Some u → IsUnsound h.frames u) → answer ≡ None
  no_table_fault None named = refl
  no_table_fault (Some u) named = absurd (never u (named u refl))
