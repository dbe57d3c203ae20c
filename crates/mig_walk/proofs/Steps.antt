-- An address is walked, level by level, as far as the entries name frames.
use Rattle.mig_walk.proofs.Common.{◌≡◌, ℕ, ◌+◌, ◌<◌, ◌≤◌, Some, refl, sym, subst, ◌∙◌, arith, inl, inr, Entry, PageType, some_value, Standing, Absent, NotTable, IsCanonical, IsTableOf, NamesNothing, Reach, IsWalked, CanBeWalked, IsReached, by_entry, absent, not_table, frame, cases_lt}
use Rattle.mig_walk.specs.declared.walk.Walked.TheVariants.{Frame}
use Rattle.mig_walk.specs.Walks.{slot_of}
use Rattle.mig_guest.specs.declared.table.Entry.TheVariants as entries

pub slot_small : (address level : ℕ) → slot_of address level < 512
unfolding slot_of
slot_small address level = omega arith

-- an entry that names no frame, and is no superpage, names nothing
nothing_named : (e : Entry) → (e ≡ entries.Superpage → ⊥) → ((n : ℕ) → e ≡ entries.Frame n → ⊥) → NamesNothing e
nothing_named entries.Blank small none = inl refl
nothing_named entries.NotPresent small none = inr refl
nothing_named entries.Superpage small none = absurd (small refl)
nothing_named (entries.Frame n) small none = absurd (none n refl)

module _ {s : Standing} {vcpu address : ℕ} (ready : CanBeWalked s vcpu) where
  -- the frame that a number names is the one that is reached
  reached_pfn : (level number pfn : ℕ) → IsReached s vcpu address level number → s.names number ≡ Some pfn → Reach s vcpu address level pfn × (level ≡ 4 → IsTableOf s 4 pfn)
  reached_pfn level number pfn at names =
      let found : Some at.pfn ≡ Some pfn = sym at.named ∙ names in
      let same : at.pfn ≡ pfn = cc in
      (subst (λ p. Reach s vcpu address level p) same at.reached, λ top. subst (λ p. IsTableOf s 4 p) same (at.top top))

  module _ (canonical : IsCanonical address) where
    pub ends_at_other : (level number pfn : ℕ) → 0 < level → level ≤ 4 → IsReached s vcpu address level number → s.names number ≡ Some pfn → (IsTableOf s level pfn → ⊥) → IsWalked s vcpu address (NotTable level)
    ends_at_other level number pfn some most at names other =
        let (way, top) = reached_pfn level number pfn at names in
        not_table canonical level pfn (omega arith) (below level most (λ is. other (subst (λ l. IsTableOf s l pfn) (sym is) (top is)))) way other
      where
        below : (l : ℕ) → l ≤ 4 → (l ≡ 4 → ⊥) → l ≤ 3
        below l most ne = elim (cases_lt l 4) [ inl lt ↦ omega arith | inr ge ↦ absurd (ne (omega arith)) ]

    pub ends_absent : (level number pfn : ℕ) (e : Entry) → IsReached s vcpu address level number → s.names number ≡ Some pfn → IsTableOf s level pfn → s.says pfn (slot_of address level) ≡ e
        → ((n : ℕ) → e ≡ entries.Frame n → ⊥) → IsWalked s vcpu address (Absent level)
    ends_absent level number pfn e at names is says none =
        absent canonical level pfn (reached_pfn level number pfn at names).0 is
        (subst NamesNothing (sym says) (nothing_named e (λ large. ready.small pfn (slot_of address level) (slot_small address level) (says ∙ large)) none))

    pub ends_at_frame : (number pfn : ℕ) (kind : PageType) → IsReached s vcpu address 0 number → s.names number ≡ Some pfn → s.types pfn ≡ Some kind → IsWalked s vcpu address (Frame number kind)
    ends_at_frame number pfn kind at names has = frame canonical number pfn kind (reached_pfn 0 number pfn at names).0 names has

  pub goes_down : (level below number pfn named : ℕ) → below + 1 ≡ level → level ≤ 4 → IsReached s vcpu address level number → s.names number ≡ Some pfn → IsTableOf s level pfn
      → s.says pfn (slot_of address level) ≡ entries.Frame named → IsReached s vcpu address below named
  goes_down level below number pfn named e most at names is says =
      let (q, there) = some_value (s.names named) (ready.known pfn (slot_of address level) named (slot_small address level) says) in
      let way : Reach s vcpu address (below + 1) pfn = subst (λ l. Reach s vcpu address l pfn) (sym e) (reached_pfn level number pfn at names).0 in
      record {
        pfn = q;
        named = there;
        reached = by_entry below pfn named q way (subst (λ l. IsTableOf s l pfn) (sym e) is) (subst (λ l. s.says pfn (slot_of address l) ≡ entries.Frame named) (sym e) says) there;
        top = λ is_top. absurd (omega arith);
      }
