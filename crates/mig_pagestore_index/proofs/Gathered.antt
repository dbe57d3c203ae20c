-- What a map that is gathered from values finds, and what a new value does to it.
use Rattle.mig_pagestore_index.proofs.Common.{◌≡◌, ◌≢◌, ℕ, zero, suc, ◌<◌, ◌≤◌, true, false, Option, Some, None, IsSome, is_some, refl, sym, ap, ◌∙◌, inl, inr, arith, eq-eqb, ne_eqb, cases_eq, Becomes, ValueMap, nat_cmp, eq_by_cmp, unsigned_tied, nat_cmp_total, nat_cmp-IsAntisymmetric, same_map, get-empty, get-insert, get-remove, cases_lt}
use Rattle.std.specs.FinMap as maps
use Rattle.mig_pagestore_index.specs.Indexed.{valued, gathered}

-- a value as an answer; 0 is none
unfoldable pub some_value : ℕ → Option ℕ
some_value zero = None
some_value (suc v) = Some (suc v)

pub no_value : (v : ℕ) → v ≡ 0 → some_value v ≡ None
unfolding some_value
no_value zero e = refl
no_value (suc v) e = absurd (omega (arith, e))

pub a_value : (v : ℕ) → 0 < v → some_value v ≡ Some v
unfolding some_value
a_value zero lt = absurd (omega (arith, lt))
a_value (suc v) lt = refl

pub differs : (q x : ℕ) → q ≢ x → eq_by_cmp nat_cmp q x ≡ false
differs q x ne = unsigned_tied q x ∙ ne_eqb q x ne

pub ties : (q x : ℕ) → q ≡ x → eq_by_cmp nat_cmp q x ≡ true
ties q x e = unsigned_tied q x ∙ eq-eqb q x e

valued_other : (m : ValueMap) (n v q : ℕ) → q ≢ n → maps.get (valued m n v) q ≡ maps.get m q
unfolding valued
valued_other m n zero q ne = refl
valued_other m n (suc v) q ne = get-insert nat_cmp_total m n (suc v) q ∙ rw (differs q n ne) refl

valued_here : (m : ValueMap) (n v q : ℕ) → q ≡ n → maps.get m n ≡ None → maps.get (valued m n v) q ≡ some_value v
unfolding valued some_value
valued_here m n zero q e none = ap (maps.get m) e ∙ none
valued_here m n (suc v) q e none = get-insert nat_cmp_total m n (suc v) q ∙ rw (ties q n e) refl

pub none_is_not_some : (o : Option ℕ) → o ≡ None → IsSome o → ⊥
none_is_not_some o none some = let e = ap is_some none in cc

module _ (f : ℕ → ℕ) where
  pub outside : (n q : ℕ) → n ≤ q → maps.get (gathered f n) q ≡ None
  unfolding gathered
  outside zero q le = get-empty nat_cmp q
  outside (suc n) q le = valued_other (gathered f n) n (f n) q (λ e. omega (arith, le, e)) ∙ outside n q (omega (arith, le))

  pub inside : (n q : ℕ) → q < n → maps.get (gathered f n) q ≡ some_value (f q)
  unfolding gathered
  inside zero q lt = absurd (omega (arith, lt))
  inside (suc n) q lt = elim (cases_eq q n) [
    | inl e ↦ valued_here (gathered f n) n (f n) q e (outside n n (omega arith)) ∙ ap (λ k. some_value (f k)) (sym e)
    | inr ne ↦ valued_other (gathered f n) n (f n) q ne ∙ inside n q (omega (arith, lt, ne))
  ]

  pub none_at : (n q : ℕ) → (q < n → f q ≡ 0) → maps.get (gathered f n) q ≡ None
  none_at n q none = elim (cases_lt q n) [
    | inl lt ↦ inside n q lt ∙ no_value (f q) (none lt)
    | inr le ↦ outside n q le
  ]

  pub some_at : (n q : ℕ) → q < n → 0 < f q → maps.get (gathered f n) q ≡ Some (f q)
  some_at n q lt some = inside n q lt ∙ a_value (f q) some

  pub some_below : (n q : ℕ) → IsSome (maps.get (gathered f n) q) → q < n
  some_below n q some = elim (cases_lt q n) [
    | inl lt ↦ lt
    | inr le ↦ let none = outside n q le in absurd (none_is_not_some _ none some)
  ]

pub gathered_none : (f : ℕ → ℕ) (n : ℕ) → ((q : ℕ) → f q ≡ 0) → gathered f n ≡ maps.empty
gathered_none f n none = same_map nat_cmp_total nat_cmp-IsAntisymmetric _ _ (λ q. none_at f n q (λ _. none q) ∙ sym (get-empty nat_cmp q))

module _ (f g : ℕ → ℕ) (n k v : ℕ) (lt : k < n) (b : Becomes f g k v) where
  elsewhere : (q : ℕ) → q ≢ k → maps.get (gathered g n) q ≡ maps.get (gathered f n) q
  elsewhere q ne = elim (cases_lt q n) [
    | inl lt ↦ inside g n q lt ∙ ap some_value (b.there q ne) ∙ sym (inside f n q lt)
    | inr le ↦ outside g n q le ∙ sym (outside f n q le)
  ]

  at_k : (q : ℕ) → q ≡ k → maps.get (gathered g n) q ≡ some_value v
  at_k q e = ap (maps.get (gathered g n)) e ∙ inside g n k lt ∙ ap some_value b.here

  pub gathered_put : 0 < v → gathered g n ≡ maps.insert (gathered f n) k v
  gathered_put some = same_map nat_cmp_total nat_cmp-IsAntisymmetric _ _ (λ q. sym (get-insert nat_cmp_total (gathered f n) k v q ∙ elim (cases_eq q k) [
    | inl e ↦ rw (ties q k e) (sym (at_k q e ∙ a_value v some))
    | inr ne ↦ rw (differs q k ne) (sym (elsewhere q ne))
  ]))

  pub gathered_out : v ≡ 0 → gathered g n ≡ maps.remove (gathered f n) k
  gathered_out none = same_map nat_cmp_total nat_cmp-IsAntisymmetric _ _ (λ q. sym (get-remove nat_cmp_total (gathered f n) k q ∙ elim (cases_eq q k) [
    | inl e ↦ rw (ties q k e) (sym (at_k q e ∙ no_value v none))
    | inr ne ↦ rw (differs q k ne) (sym (elsewhere q ne))
  ]))
