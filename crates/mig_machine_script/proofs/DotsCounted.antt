-- The lines before a dot: how many dots are among them, and what follows.
use Rattle.mig_machine_script.proofs.Common.{◌≡◌, ℕ, zero, suc, ◌+◌, ◌≤◌, ◌⊎◌, Bool, true, false, cond, List, [], ◌∷◌, ◌++◌, length, take, drop, inl, inr, refl, sym, ap, subst, ◌∙◌, arith, append_assoc, take-add, length-drop, length-append, drop_of_length-le, LineOf, Dot, ends_group, first_group, first_length, lines_up_to, ran, filter, take-append-drop, filter-append, dots_in}

is_dot : (line : LineOf) → ends_group line ≡ true → line ≡ Dot
is_dot Dot e = refl
is_dot _ e = cc

dots_joined : (a b : List LineOf) → dots_in (a ++ b) ≡ dots_in a + dots_in b
dots_joined a b = ap length (filter-append ends_group a b) ∙ length-append (filter ends_group a) (filter ends_group b)

no_dots : (lines : List LineOf) → dots_in (first_group lines) ≡ 0
no_dots [] = refl
no_dots (line ∷ lines) = go (ends_group line) refl (no_dots lines)
  where
    go : (b : Bool) → ends_group line ≡ b → dots_in (first_group lines) ≡ 0 → dots_in (cond b [] (line ∷ first_group lines)) ≡ 0
    go true e others = refl
    go false e others = ap (λ b. length (cond b (line ∷ filter ends_group (first_group lines)) (filter ends_group (first_group lines)))) e ∙ others

-- the first group, and a dot behind it, or nothing
abbrev Splits : List LineOf → Type 0
Splits lines = ((more : List LineOf) × (lines ≡ first_group lines ++ Dot ∷ more) × (take (first_length lines) lines ≡ first_group lines ++ Dot ∷ [])) ⊎ ((lines ≡ first_group lines) × (length lines ≤ first_length lines))

splits : (lines : List LineOf) → Splits lines
splits [] = inr (refl, omega arith)
splits (line ∷ lines) = go (ends_group line) refl (splits lines)
  where
    go : (b : Bool) → ends_group line ≡ b → Splits lines → Splits (line ∷ lines)
    go true e others = inl (
      lines,
      ap (λ x. x ∷ lines) (is_dot line e) ∙ sym (ap (λ b. cond b [] (line ∷ first_group lines) ++ Dot ∷ lines) e),
      ap (λ b. take (cond b 1 (first_length lines + 1)) (line ∷ lines)) e ∙ ap (λ x. x ∷ []) (is_dot line e) ∙ sym (ap (λ b. cond b [] (line ∷ first_group lines) ++ Dot ∷ []) e),
    )
    go false e (inl (more, is, front)) = inl (
      more,
      ap (λ l. line ∷ l) is ∙ sym (ap (λ b. cond b [] (line ∷ first_group lines) ++ Dot ∷ more) e),
      ap (λ b. take (cond b 1 (first_length lines + 1)) (line ∷ lines)) e ∙ ap (λ n. take n (line ∷ lines)) (let s : first_length lines + 1 ≡ suc (first_length lines) = omega arith in s) ∙ ap (λ l. line ∷ l) front
          ∙ sym (ap (λ b. cond b [] (line ∷ first_group lines) ++ Dot ∷ []) e),
    )
    go false e (inr (is, all)) = inr (
      ap (λ l. line ∷ l) is ∙ sym (ap (λ b. cond b [] (line ∷ first_group lines)) e),
      let long = ap (λ b. cond b 1 (first_length lines + 1)) e in omega (arith, long, all),
    )

abbrev Counted : List LineOf → ℕ → Type 0
Counted lines c = (dots_in (take (lines_up_to lines c) lines) ≡ c) ⊎ ((length lines ≤ lines_up_to lines c) × (dots_in lines ≤ c))

module _ (lines : List LineOf) where
  all_dots : (p : ℕ) → dots_in lines ≡ dots_in (take p lines) + dots_in (drop p lines)
  all_dots p = ap dots_in (sym (take-append-drop p lines)) ∙ dots_joined (take p lines) (drop p lines)

  counted : (c : ℕ) → Counted lines c
  counted zero = inl refl
  counted (suc c) = elim (counted c) [
    | inl is ↦ elim (splits (drop (lines_up_to lines c) lines)) [
      | inl (more, whole, front) ↦
          let p = lines_up_to lines c in
          let rest = drop (lines_up_to lines c) lines in
          let joined = ap dots_in (take-add p (first_length rest) lines ∙ ap (λ l. take p lines ++ l) front) ∙ dots_joined (take p lines) (first_group rest ++ Dot ∷ []) in
          let group = dots_joined (first_group rest) (Dot ∷ []) in
          let none = no_dots rest in
          inl (omega (arith, joined, group, none, is))
      | inr (whole, all) ↦
          let p = lines_up_to lines c in
          let rest = drop (lines_up_to lines c) lines in
          let long = length-drop p lines in
          let sum = all_dots p in
          let none = ap dots_in whole ∙ no_dots rest in
          inr (omega (arith, long, all), omega (arith, sum, none, is))
    ]
    | inr (all, few) ↦ inr (omega (arith, all), omega (arith, few))
  ]

  abbrev pub IsBefore : ℕ → ℕ → Type 0
  IsBefore c n = ((rest : List LineOf) × (lines ≡ ran lines n ++ Dot ∷ rest) × (dots_in (ran lines n) ≡ c)) ⊎ ((lines ≡ ran lines n) × (dots_in lines ≤ c))

  before_next : (c : ℕ) → IsBefore c (suc c)
  before_next c = elim (counted c) [
    | inl is ↦ elim (splits (drop (lines_up_to lines c) lines)) [
      | inl (more, whole, front) ↦
          let p = lines_up_to lines c in
          let rest = drop (lines_up_to lines c) lines in
          let joined = dots_joined (take p lines) (first_group rest) in
          let none = no_dots rest in inl (
            more,
            sym (take-append-drop p lines) ∙ ap (λ l. take p lines ++ l) whole ∙ sym (append_assoc (take p lines) (first_group rest) (Dot ∷ more)),
            omega (arith, joined, none, is),
          )
      | inr (whole, all) ↦
          let p = lines_up_to lines c in
          let rest = drop (lines_up_to lines c) lines in
          let sum = all_dots p in
          let none = ap dots_in whole ∙ no_dots rest in
          inr (sym (take-append-drop p lines) ∙ ap (λ l. take p lines ++ l) whole, omega (arith, sum, none, is))
    ]
    | inr (all, few) ↦
        let p = lines_up_to lines c in
        let nothing = drop_of_length-le lines all in
        inr (sym (take-append-drop p lines) ∙ ap (λ l. take p lines ++ l) nothing ∙ sym (ap (λ l. take p lines ++ first_group l) nothing), few)
  ]

  pub before : (c : ℕ) → IsBefore c (c + 1)
  before c = subst (IsBefore c) (let e : suc c ≡ c + 1 = omega arith in e) (before_next c)
