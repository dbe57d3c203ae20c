-- Two answers that hold of one address are equal.
use Rattle.mig_walk.proofs.Common.{◌≡◌, inl, inr, zero, suc, List, ℕ, ◌<◌, Option, Some, None, IsSome, refl, sym, subst, ◌∙◌, arith, PageType, vcpu_key, Standing, Walked, NoVcpu, NotCanonical, Absent, NotTable, IsCanonical, IsTableOf, IsWalked, no_vcpu, not_canonical, absent, not_table, frame}
use Rattle.mig_walk.proofs.AddressBits.{no_table_0}
use Rattle.std.proofs.Common.{◌⊎◌}
use Rattle.mig_walk.specs.declared.walk.Walked.TheVariants.{Frame}
use Rattle.mig_walk.proofs.Reaching.{EndsAt, one_end, has_vcpu}
use Rattle.std.specs.FinMap as maps

module _ (s : Standing) (vcpu address : ℕ) (one_name : (n m pfn : ℕ) → s.names n ≡ Some pfn → s.names m ≡ Some pfn → n ≡ m) where
  -- what is answered of a way that ends here
  pub data Tells (level pfn : ℕ) : Walked → Type 0 where
    tells_absent : 0 < level → IsTableOf s level pfn → Tells level pfn (Absent level)
    tells_other : 0 < level → (IsTableOf s level pfn → ⊥) → Tells level pfn (NotTable level)
    tells_frame : level ≡ 0 → (number : ℕ) (kind : PageType) → s.names number ≡ Some pfn → s.types pfn ≡ Some kind → Tells level pfn (Frame number kind)

  pub record Ended (answer : Walked) : Type 0 where
    pub level : ℕ
    pub pfn : ℕ
    pub ends : EndsAt s vcpu address level pfn
    pub tells : Tells level pfn answer

  absent_ends : (level pfn : ℕ) → EndsAt s vcpu address level pfn → IsTableOf s level pfn → Ended (Absent level)
  absent_ends zero pfn ends is = absurd (no_table_0 (s.types pfn) is)
  absent_ends (suc l) pfn ends is = record { level = suc l; pfn = pfn; ends = ends; tells = tells_absent (omega arith) is }

  told_once : (level pfn : ℕ) (a b : Walked) → Tells level pfn a → Tells level pfn b → a ≡ b
  told_once level pfn _ _ (tells_absent some is) (tells_absent _ _) = refl
  told_once level pfn _ _ (tells_absent some is) (tells_other _ isnt) = absurd (isnt is)
  told_once level pfn _ _ (tells_absent some is) (tells_frame none n k names has) = absurd (omega arith)
  told_once level pfn _ _ (tells_other some isnt) (tells_absent _ is) = absurd (isnt is)
  told_once level pfn _ _ (tells_other some isnt) (tells_other _ _) = refl
  told_once level pfn _ _ (tells_other some isnt) (tells_frame none n k names has) = absurd (omega arith)
  told_once level pfn _ _ (tells_frame none n k names has) (tells_absent some is) = absurd (omega arith)
  told_once level pfn _ _ (tells_frame none n k names has) (tells_other some isnt) = absurd (omega arith)
  told_once level pfn _ _ (tells_frame none n k names has) (tells_frame _ m j also gets) =
      let number : n ≡ m = one_name n m pfn names also in
      let type : Some k ≡ Some j = sym has ∙ gets in
      let kind : k ≡ j = cc in
      λ i. Frame (number i) (kind i)

  ended_once : (a b : Walked) → Ended a → Ended b → a ≡ b
  ended_once a b x y =
      let (level, pfn) = one_end s vcpu address x.level x.pfn y.level y.pfn x.ends y.ends in
      told_once y.level y.pfn a b (subst (λ l. Tells l y.pfn a) level (subst (λ p. Tells x.level p a) pfn x.tells)) y.tells

  -- what an answer comes to
  abbrev Sums : Walked → Type 0
  Sums answer = ((answer ≡ NoVcpu) × (maps.get s.parts (vcpu_key vcpu) ≡ None)) ⊎ (IsSome (maps.get s.parts (vcpu_key vcpu)) × (((answer ≡ NotCanonical) × (IsCanonical address → ⊥)) ⊎ (IsCanonical address × Ended answer)))

  summed : (answer : Walked) → IsWalked s vcpu address answer → Sums answer
  summed _ (no_vcpu none) = inl (refl, none)
  summed _ (not_canonical some isnt) = inr (some, inl (refl, isnt))
  summed _ (absent is level pfn way table nothing) = inr (has_vcpu s vcpu address level pfn way, inr (is, absent_ends level pfn (record { way = way; stops = λ _ _. nothing }) table))
  summed _ (not_table is level pfn least most way other) =
      inr (has_vcpu s vcpu address level pfn way, inr (is, record { level = level; pfn = pfn; ends = record { way = way; stops = λ _ table. absurd (other table) }; tells = tells_other (omega arith) other }))
  summed _ (frame is number pfn kind way names has) =
      inr (has_vcpu s vcpu address 0 pfn way, inr (is, record { level = 0; pfn = pfn; ends = record { way = way; stops = λ some _. absurd (omega arith) }; tells = tells_frame refl number kind names has }))

  apart : (o : Option (List ℕ)) → o ≡ None → IsSome o → ⊥
  apart None none some = cc
  apart (Some x) none some = cc

  pub one_answer : (a b : Walked) → IsWalked s vcpu address a → IsWalked s vcpu address b → a ≡ b
  one_answer a b x y = elim (summed a x) [
    | inl none ↦ elim (summed b y) [
      | inl also ↦ none.0 ∙ sym also.0
      | inr some ↦ absurd (apart _ none.1 some.0)
    ]
    | inr some ↦ elim (summed b y) [
      | inl none ↦ absurd (apart _ none.1 some.0)
      | inr also ↦ elim some.1 [
        | inl isnt ↦ elim also.1 [
          | inl again ↦ isnt.0 ∙ sym again.0
          | inr is ↦ absurd (isnt.1 is.0)
        ]
        | inr is ↦ elim also.1 [
          | inl isnt ↦ absurd (isnt.1 is.0)
          | inr again ↦ ended_once a b is.1 again.1
        ]
      ]
    ]
  ]
