-- The way of an address, level by level: to one frame at each level, and on to the next level as long as an entry names one.
use Rattle.mig_walk.proofs.Common.{◌≡◌, ℕ, ◌+◌, ◌<◌, ◌≤◌, zero, suc, List, Some, IsSome, is_some, refl, sym, ap, subst, ◌∙◌, inl, inr, arith, ◌⊎◌, cases_eq, Entry, Frame, vcpu_key, Root, said_by, Standing, slot_of, IsTableOf, NamesNothing, Reach, by_root, by_entry, cases_order}
use Rattle.std.specs.FinMap as maps

-- the root of a vCPU names the frame of a PFN
pub record IsRoot (s : Standing) (vcpu pfn : ℕ) : Type 0 where
  pub context : List ℕ
  pub there : maps.get s.parts (vcpu_key vcpu) ≡ Some context
  pub names : s.names (said_by Root context) ≡ Some pfn

module _ (s : Standing) (vcpu address : ℕ) where
  -- the frame of a PFN is reached from the table above
  pub record IsNamedAbove (level pfn : ℕ) : Type 0 where
    pub table : ℕ
    pub number : ℕ
    pub way : Reach s vcpu address (level + 1) table
    pub is : IsTableOf s (level + 1) table
    pub says : s.says table (slot_of address (level + 1)) ≡ Frame number
    pub names : s.names number ≡ Some pfn

  pub came : (level pfn : ℕ) → Reach s vcpu address level pfn → ((level ≡ 4) × IsRoot s vcpu pfn) ⊎ IsNamedAbove level pfn
  came _ _ (by_root context pfn there names) = inl (refl, record { context = context; there = there; names = names })
  came _ _ (by_entry level table number pfn way is says names) = inr (record { table = table; number = number; way = way; is = is; says = says; names = names })

  pub no_higher : (level pfn : ℕ) → Reach s vcpu address level pfn → level ≤ 4
  no_higher _ _ (by_root context pfn there names) = omega arith
  no_higher _ _ (by_entry level table number pfn way is says names) = omega (arith, no_higher (level + 1) table way)

  -- there is such a vCPU
  pub has_vcpu : (level pfn : ℕ) → Reach s vcpu address level pfn → IsSome (maps.get s.parts (vcpu_key vcpu))
  has_vcpu _ _ (by_root context pfn there names) = ap is_some there
  has_vcpu _ _ (by_entry level table number pfn way is says names) = has_vcpu (level + 1) table way

  one_root : (p q : ℕ) → IsRoot s vcpu p → IsRoot s vcpu q → p ≡ q
  one_root p q a b =
      let same : Some a.context ≡ Some b.context = sym a.there ∙ b.there in
      let context : a.context ≡ b.context = cc in
      let pfn : Some p ≡ Some q = sym a.names ∙ ap (λ c. s.names (said_by Root c)) context ∙ b.names in
      cc

  -- an address comes to one frame at each level
  pub one_pfn : (level p q : ℕ) → Reach s vcpu address level p → Reach s vcpu address level q → p ≡ q
  one_pfn _ _ q (by_root context pfn there names) other = elim (came 4 q other) [
    | inl root ↦ one_root pfn q (record { context = context; there = there; names = names }) root.1
    | inr above ↦ absurd (omega (arith, no_higher 5 above.table above.way))
  ]
  one_pfn _ _ q (by_entry level table number pfn way is says names) other = elim (came level q other) [
    | inl root ↦ absurd (omega (arith, no_higher (level + 1) table way, root.0))
    | inr above ↦
        let same : table ≡ above.table = one_pfn (level + 1) table above.table way above.way in
        let entry : Frame number ≡ Frame above.number = sym says ∙ ap (λ t. s.says t (slot_of address (level + 1))) same ∙ above.says in
        let named : number ≡ above.number = cc in
        let found : Some pfn ≡ Some q = sym names ∙ ap s.names named ∙ above.names in
        cc
  ]

  -- a way that comes down to a level comes through each level above
  pub through : (level pfn : ℕ) → Reach s vcpu address level pfn → (above : ℕ) → level ≤ above → above ≤ 4 → (q : ℕ) × Reach s vcpu address above q
  through _ _ (by_root context pfn there names) above low high = let e : 4 ≡ above = omega arith in (pfn, subst (λ l. Reach s vcpu address l pfn) e (by_root context pfn there names))
  through _ _ (by_entry level table number pfn way is says names) above low high = elim (cases_eq level above) [
    | inl e ↦ (pfn, subst (λ l. Reach s vcpu address l pfn) e (by_entry level table number pfn way is says names))
    | inr ne ↦ through (level + 1) table way above (omega arith) high
  ]

  -- ---- where a way ends

  -- the way comes to this frame, and not on from it
  pub record EndsAt (level pfn : ℕ) : Type 0 where
    pub way : Reach s vcpu address level pfn
    pub stops : 0 < level → IsTableOf s level pfn → NamesNothing (s.says pfn (slot_of address level))

  -- from the frame at which it ends it doesn't come to the level below
  not_on : (below pfn q : ℕ) → EndsAt (below + 1) pfn → Reach s vcpu address below q → ⊥
  not_on below pfn q ends way = elim (came below q way) [
    | inl root ↦ omega (arith, no_higher (below + 1) pfn ends.way, root.0)
    | inr above ↦
        let same : above.table ≡ pfn = one_pfn (below + 1) above.table pfn above.way ends.way in
        let is : IsTableOf s (below + 1) pfn = subst (λ t. IsTableOf s (below + 1) t) same above.is in
        let says : s.says pfn (slot_of address (below + 1)) ≡ Frame above.number = subst (λ t. s.says t (slot_of address (below + 1)) ≡ Frame above.number) same above.says in
        names_nothing (s.says pfn (slot_of address (below + 1))) above.number (ends.stops (omega arith) is) says
  ]
    where
      names_nothing : (e : Entry) (n : ℕ) → NamesNothing e → e ≡ Frame n → ⊥
      names_nothing e n none some = elim none [
        | inl blank ↦ cc
        | inr absent ↦ cc
      ]

  no_lower : (level pfn lower q : ℕ) → EndsAt level pfn → lower < level → Reach s vcpu address lower q → ⊥
  no_lower zero pfn lower q ends less way = omega arith
  no_lower (suc below) pfn lower q ends less way =
      let (r, comes) = through lower q way below (omega arith) (omega (arith, no_higher (suc below) pfn ends.way)) in
      let e : suc below ≡ below + 1 = omega arith in
      not_on below pfn r (subst (λ l. EndsAt l pfn) e ends) comes

  -- a way ends once
  pub one_end : (level p other q : ℕ) → EndsAt level p → EndsAt other q → (level ≡ other) × (p ≡ q)
  one_end level p other q a b = elim (cases_order level other) [
    | inl e ↦ (e, one_pfn other p q (subst (λ l. Reach s vcpu address l p) e a.way) b.way)
    | inr apart ↦ elim apart [
      | inl lt ↦ absurd (no_lower other q level p b lt a.way)
      | inr gt ↦ absurd (no_lower level p other q a gt b.way)
    ]
  ]
