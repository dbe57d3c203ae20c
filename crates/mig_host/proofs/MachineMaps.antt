-- Maps from numbers to numbers, and a map with a function that is its inverse.
use Rattle.mig_host.proofs.Common.{subst, ◌≢◌, ◌≡◌, ℕ, ◌<◌, IfSome, Option, Some, None, refl, sym, ap, ◌∙◌, inl, inr, nat_cmp, nat_cmp_total, FinMap, nat_cmp-IsAntisymmetric, get-empty, none-some, same_Some, MachineMap, AreInverse, pfn_of_machine_in, AreBelowLimit, insert_holds, remove_holds, machine_limit, inserted, inserted_other, removed, removed_other, is_inserted, cases_eq, is_removed}
use Rattle.mig_host.proofs.Machines.{only_pfn, no_pfn}
use Rattle.std.specs.FinMap as maps

-- what isn't there, taken
pub taken_none : {X : Type 0} (m : FinMap nat_cmp X) (k : ℕ) → maps.get m k ≡ None → maps.remove m k ≡ m
taken_none m k none = sym (is_removed m m k none (λ q ne. refl))

-- ---- a map and its inverse

pub inverse_empty : (there back : MachineMap) → there ≡ maps.empty → back ≡ maps.empty → AreInverse there (maps.get back)
inverse_empty there back a b = (λ p m is. absurd (none-some m (sym (get-empty nat_cmp p) ∙ ap (λ x. maps.get x p) (sym a) ∙ is)), λ m p is. absurd (none-some p (sym (get-empty nat_cmp m) ∙ ap (λ x. maps.get x m) (sym b) ∙ is)))

module _ (there : MachineMap) (back after : ℕ → Option ℕ) (p m : ℕ) (inverse : AreInverse there back) where
  -- a pair more, of two numbers that had none
  module _ (absent : maps.get there p ≡ None) (unused : (q : ℕ) → maps.get there q ≡ Some m → ⊥) (same : after m ≡ Some p) (others : (n : ℕ) → m ≢ n → after n ≡ back n) where
    put_there : (q n : ℕ) → maps.get (maps.insert there p m) q ≡ Some n → after n ≡ Some q
    put_there q n is = elim (cases_eq q p) [
      | inl e ↦
          let value = same_Some m n (sym (inserted there p q m e) ∙ is) in
          ap after (sym value) ∙ same ∙ ap Some (sym e)
      | inr ne ↦
          let was = sym (inserted_other there p q m ne) ∙ is in
          others n (λ e. unused q (was ∙ ap Some (sym e))) ∙ inverse.0 q n was
    ]

    put_back : (n q : ℕ) → after n ≡ Some q → maps.get (maps.insert there p m) q ≡ Some n
    put_back n q is = elim (cases_eq m n) [
      | inl e ↦
          let value = same_Some p q (sym same ∙ ap after e ∙ is) in
          inserted there p q m (sym value) ∙ ap Some e
      | inr ne ↦
          let was = inverse.1 n q (sym (others n ne) ∙ is) in
          inserted_other there p q m (λ e. none-some n (sym absent ∙ ap (maps.get there) (sym e) ∙ was)) ∙ was
    ]

    pub inverse_put : AreInverse (maps.insert there p m) after
    inverse_put = (put_there, put_back)

  -- a pair less
  module _ (has : maps.get there p ≡ Some m) (same : after m ≡ None) (others : (n : ℕ) → m ≢ n → after n ≡ back n) where
    taken_there : (q n : ℕ) → maps.get (maps.remove there p) q ≡ Some n → after n ≡ Some q
    taken_there q n is = elim (cases_eq q p) [
      | inl e ↦ absurd (none-some n (sym (removed there p q e) ∙ is))
      | inr ne ↦
          let was = sym (removed_other there p q ne) ∙ is in
          others n (λ e. ne (same_Some q p (sym (inverse.0 q n was) ∙ ap back (sym e) ∙ inverse.0 p m has))) ∙ inverse.0 q n was
    ]

    taken_back : (n q : ℕ) → after n ≡ Some q → maps.get (maps.remove there p) q ≡ Some n
    taken_back n q is = elim (cases_eq m n) [
      | inl e ↦ absurd (none-some q (sym same ∙ ap after e ∙ is))
      | inr ne ↦
          let was = inverse.1 n q (sym (others n ne) ∙ is) in
          removed_other there p q (λ e. ne (same_Some m n (sym has ∙ ap (maps.get there) (sym e) ∙ was))) ∙ was
    ]

    pub inverse_taken : AreInverse (maps.remove there p) after
    inverse_taken = (taken_there, taken_back)

-- a PFN with another machine frame
module _ (there : MachineMap) (back : MachineMap) (p old m : ℕ) (inverse : AreInverse there (maps.get back)) (has : maps.get there p ≡ Some old) (unused : (q : ℕ) → maps.get there q ≡ Some m → ⊥) where
  abbrev gone : MachineMap
  gone = maps.remove there p

  abbrev back_gone : MachineMap
  back_gone = maps.remove back old

  unused_left : (q : ℕ) → maps.get gone q ≡ Some m → ⊥
  unused_left q is = elim (cases_eq q p) [
    | inl e ↦ none-some m (sym (removed there p q e) ∙ is)
    | inr ne ↦ unused q (sym (removed_other there p q ne) ∙ is)
  ]

  put_anew : maps.insert gone p m ≡ maps.insert there p m
  put_anew = is_inserted (maps.insert gone p m) there p m (inserted gone p p m refl) (λ q ne. inserted_other gone p q m ne ∙ removed_other there p q ne)

  pub inverse_moved : AreInverse (maps.insert there p m) (maps.get (maps.insert back_gone m p))
  inverse_moved =
      let less : AreInverse gone (maps.get back_gone) = inverse_taken there (maps.get back) (maps.get back_gone) p old inverse has (removed back old old refl) (λ n ne. removed_other back old n (λ e. ne (sym e))) in
      subst (λ x. AreInverse x (maps.get (maps.insert back_gone m p))) put_anew
      (inverse_put gone (maps.get back_gone) (maps.get (maps.insert back_gone m p)) p m less (removed there p p refl) unused_left (inserted back_gone m m p refl) (λ n ne. inserted_other back_gone m n p (λ e. ne (sym e))))

-- ---- the PFN that has a machine frame

module _ (there : MachineMap) (back : ℕ → Option ℕ) (inverse : AreInverse there back) where
  goes_back : (pfn machine : ℕ) → maps.get there pfn ≡ Some machine → pfn_of_machine_in there machine ≡ Some pfn
  goes_back pfn machine is =
      only_pfn (λ (m : ℕ). m) machine there pfn machine is refl (λ q m at same. same_Some q pfn (sym (inverse.0 q m at) ∙ ap back same ∙ inverse.0 pfn machine is))

  pub machine_back : (pfn : ℕ) (r : Option ℕ) → r ≡ maps.get there pfn → IfSome r (λ machine. pfn_of_machine_in there machine ≡ Some pfn)
  machine_back pfn None is = tt
  machine_back pfn (Some machine) is = goes_back pfn machine (sym is)

  pub pfn_looked_up : (machine : ℕ) (r : Option ℕ) → r ≡ back machine → r ≡ pfn_of_machine_in there machine
  pfn_looked_up machine (Some pfn) is = sym (goes_back pfn machine (inverse.1 machine pfn (sym is)))
  pfn_looked_up machine None is = sym (no_pfn (λ (m : ℕ). m) machine there (λ q m at same. none-some q (is ∙ ap back (sym same) ∙ inverse.0 q m at)))

-- ---- machine frames below the limit

pub below_empty : (there : MachineMap) → there ≡ maps.empty → AreBelowLimit there
below_empty there e p m is = absurd (none-some m (sym (get-empty nat_cmp p) ∙ ap (λ x. maps.get x p) (sym e) ∙ is))

pub below_put : (there : MachineMap) (pfn machine : ℕ) → AreBelowLimit there → machine < machine_limit → AreBelowLimit (maps.insert there pfn machine)
below_put there pfn machine below small = insert_holds nat_cmp_total nat_cmp-IsAntisymmetric (λ p m. m < machine_limit) there pfn machine below small

pub below_taken : (there : MachineMap) (pfn : ℕ) → AreBelowLimit there → AreBelowLimit (maps.remove there pfn)
below_taken there pfn below = remove_holds nat_cmp_total nat_cmp-IsAntisymmetric (λ p m. m < machine_limit) there pfn below
