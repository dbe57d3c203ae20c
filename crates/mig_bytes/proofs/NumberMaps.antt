-- Maps from numbers, with one number put or taken.
use Rattle.mig_bytes.proofs.Common.{◌≡◌, ℕ, cond, Some, None, sym, ap, ◌∙◌, inl, inr, ◌≢◌, cases_eq, eq-eqb, ne_eqb}
use Rattle.std.specs.Cmp.{nat_cmp_total, unsigned_tied}
use Rattle.std.specs.FinMap.{FinMap, get-insert, get-remove, nat_cmp-IsAntisymmetric, same_map}
use Rattle.std.specs.Ordering.{nat_cmp}
use Rattle.std.specs.FinMap as maps

module _ {X : Type 0} where
  pub inserted : (m : FinMap nat_cmp X) (k q : ℕ) (v : X) → q ≡ k → maps.get (maps.insert m k v) q ≡ Some v
  inserted m k q v e = get-insert nat_cmp_total m k v q ∙ ap (λ b. cond b (Some v) (maps.get m q)) (unsigned_tied q k ∙ eq-eqb q k e)

  pub inserted_other : (m : FinMap nat_cmp X) (k q : ℕ) (v : X) → q ≢ k → maps.get (maps.insert m k v) q ≡ maps.get m q
  inserted_other m k q v ne = get-insert nat_cmp_total m k v q ∙ ap (λ b. cond b (Some v) (maps.get m q)) (unsigned_tied q k ∙ ne_eqb q k ne)

  pub removed : (m : FinMap nat_cmp X) (k q : ℕ) → q ≡ k → maps.get (maps.remove m k) q ≡ None
  removed m k q e = get-remove nat_cmp_total m k q ∙ ap (λ b. cond b None (maps.get m q)) (unsigned_tied q k ∙ eq-eqb q k e)

  pub removed_other : (m : FinMap nat_cmp X) (k q : ℕ) → q ≢ k → maps.get (maps.remove m k) q ≡ maps.get m q
  removed_other m k q ne = get-remove nat_cmp_total m k q ∙ ap (λ b. cond b None (maps.get m q)) (unsigned_tied q k ∙ ne_eqb q k ne)

  -- m is n but at k, where it has v, or nothing
  pub is_inserted : (m n : FinMap nat_cmp X) (k : ℕ) (v : X) → maps.get m k ≡ Some v → ((q : ℕ) → q ≢ k → maps.get m q ≡ maps.get n q) → m ≡ maps.insert n k v
  is_inserted m n k v here there = same_map nat_cmp_total nat_cmp-IsAntisymmetric m (maps.insert n k v) (λ q. elim (cases_eq q k) [
    | inl e ↦ ap (maps.get m) e ∙ here ∙ sym (inserted n k q v e)
    | inr ne ↦ there q ne ∙ sym (inserted_other n k q v ne)
  ])

  pub is_removed : (m n : FinMap nat_cmp X) (k : ℕ) → maps.get m k ≡ None → ((q : ℕ) → q ≢ k → maps.get m q ≡ maps.get n q) → m ≡ maps.remove n k
  is_removed m n k here there = same_map nat_cmp_total nat_cmp-IsAntisymmetric m (maps.remove n k) (λ q. elim (cases_eq q k) [
    | inl e ↦ ap (maps.get m) e ∙ here ∙ sym (removed n k q e)
    | inr ne ↦ there q ne ∙ sym (removed_other n k q ne)
  ])
