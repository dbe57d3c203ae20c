-- The PFN that has a machine frame, where no two have the same.
use Rattle.mig_host.proofs.Common.{◌≡◌, ◌≢◌, ℕ, Bool, true, false, cond, ◌==◌, ◌||◌, List, [], ◌∷◌, Some, None, refl, ap, ◌∙◌, All, All-head, All-weaker, list_any, or_parts, option_map, eqb-true, eq-eqb, ne_eqb, nat_cmp, nat_cmp_total, nat_cmp-IsAntisymmetric, FinMap, HostFrame, HostFrames, IsOneToOne, All-tail, pfn_in}
use Rattle.mig_host.proofs.InOrder.{all_there, some_entry, no_entry}
use Rattle.std.specs.List as list
use Rattle.std.specs.FinMap as maps

-- what is kept at a PFN says its machine frame
module _ {X : Type 0} (said : X → ℕ) (m : ℕ) where
  abbrev has_this : ℕ × X → Bool
  has_this e = said e.1 == m

  -- where only p has the machine frame, and some entry has it, p is found
  found : (p : ℕ) (es : List (ℕ × X)) → All (λ e. said e.1 ≡ m → e.0 ≡ p) es → list_any has_this es ≡ true → option_map (λ (e : ℕ × X). e.0) (list.find has_this es) ≡ Some p
  found p [] only some = let no : false ≡ true = some in cc
  found p (e ∷ es) only some = elim (has_this e) as (λ b. has_this e ≡ b → (b || list_any has_this es) ≡ true → option_map (λ (e : ℕ × X). e.0) (cond b (Some e) (list.find has_this es)) ≡ Some p) [
    | true ↦ λ t _. ap Some (All-head (λ (e : ℕ × X). said e.1 ≡ m → e.0 ≡ p) e es only (eqb-true (said e.1) m t))
    | false ↦ λ t later. found p es (All-tail (λ (e : ℕ × X). said e.1 ≡ m → e.0 ≡ p) e es only) later
  ] refl some

  -- where no entry has it, none is found
  none_found : (es : List (ℕ × X)) → list_any has_this es ≡ false → option_map (λ (e : ℕ × X). e.0) (list.find has_this es) ≡ None
  none_found [] none = refl
  none_found (e ∷ es) none =
      let (this, others) = or_parts (has_this e) (list_any has_this es) none in
      ap (λ b. option_map (λ (e : ℕ × X). e.0) (cond b (Some e) (list.find has_this es))) this ∙ none_found es others

  module _ (there : FinMap nat_cmp X) where
    pub only_pfn : (p : ℕ) (x : X) → maps.get there p ≡ Some x → said x ≡ m → ((q : ℕ) (y : X) → maps.get there q ≡ Some y → said y ≡ m → q ≡ p) → option_map (λ (e : ℕ × X). e.0) (list.find has_this (maps.entries there)) ≡ Some p
    only_pfn p x is says only =
        found p (maps.entries there)
        (All-weaker _ (λ (e : ℕ × X). said e.1 ≡ m → e.0 ≡ p) (λ e at same. only e.0 e.1 at same) (maps.entries there) (all_there nat_cmp_total nat_cmp-IsAntisymmetric there))
        (some_entry nat_cmp_total nat_cmp-IsAntisymmetric has_this there p x is (eq-eqb (said x) m says))

    pub no_pfn : ((q : ℕ) (y : X) → maps.get there q ≡ Some y → said y ≢ m) → option_map (λ (e : ℕ × X). e.0) (list.find has_this (maps.entries there)) ≡ None
    no_pfn none = none_found (maps.entries there) (no_entry nat_cmp_total nat_cmp-IsAntisymmetric has_this there (λ q y is. ne_eqb (said y) m (none q y is)))

pub pfn_of_machine : (frames : HostFrames) → IsOneToOne frames → (p : ℕ) (f : HostFrame) → maps.get frames p ≡ Some f → pfn_in frames f.machine ≡ Some p
pfn_of_machine frames one p f is = only_pfn (λ (f : HostFrame). f.machine) f.machine frames p f is refl (λ q g at same. one q p g f at is same)
