-- How many numbers have a value, and what is found beyond the limit.
use Rattle.mig_pagestore_index.proofs.Common.{◌≡◌, ℕ, zero, suc, ◌+◌, ◌-◌, ◌<◌, ◌≤◌, inl, inr, Bool, true, false, cond, None, IsSome, is_some, refl, sym, ap, ◌∙◌, subst, arith, Becomes, ValueMap, cases_eq, nat_cmp, nat_cmp_total, len-empty, len-insert, len-remove, empty_of_len, get-empty, same_map, get-remove, nat_cmp-IsAntisymmetric}
use Rattle.std.specs.FinMap as maps
use Rattle.mig_pagestore_index.specs.Indexed.{valued, gathered}
use Rattle.mig_pagestore_index.proofs.Fans.{none_or_some}
use Rattle.mig_pagestore_index.proofs.Gathered.{outside, none_at, some_at, gathered_none, none_is_not_some, gathered_put, gathered_out, ties, differs}

one_more : (b : Bool) (n : ℕ) → cond b n (n + 1) ≤ n + 1
one_more true n = omega arith
one_more false n = omega arith

valued_len : (m : ValueMap) (n v : ℕ) → maps.len (valued m n v) ≤ maps.len m + 1
unfolding valued
valued_len m n zero = omega arith
valued_len m n (suc v) = subst (λ k. k ≤ maps.len m + 1) (sym (len-insert nat_cmp_total m n (suc v))) (one_more (maps.contains_key m n) (maps.len m))

-- there are no more values than numbers
pub few : (f : ℕ → ℕ) (n : ℕ) → maps.len (gathered f n) ≤ n
unfolding gathered
few f zero = subst (λ k. k ≤ 0) (sym (len-empty nat_cmp ℕ)) (omega arith)
few f (suc n) = omega (arith, valued_len (gathered f n) n (f n), few f n)

pub made_empty : (f : ℕ → ℕ) (n : ℕ) → ((q : ℕ) → f q ≡ 0) → 0 ≡ maps.len (gathered f n)
made_empty f n none = sym (ap maps.len (gathered_none f n none) ∙ len-empty nat_cmp ℕ)

pub beyond : (f : ℕ → ℕ) (n q : ℕ) → n ≤ q → None ≡ maps.get (gathered f n) q
beyond f n q le = sym (outside f n q le)

-- what is put where there was nothing, and what is taken away, is counted
module _ (m : ValueMap) (k : ℕ) where
  pub counted_more : (v : ℕ) → maps.get m k ≡ None → maps.len (maps.insert m k v) ≡ maps.len m + 1
  counted_more v none = len-insert nat_cmp_total m k v ∙ rw none refl

  pub counted_same : (v : ℕ) → IsSome (maps.get m k) → maps.len (maps.insert m k v) ≡ maps.len m
  counted_same v some = len-insert nat_cmp_total m k v ∙ rw some refl

  pub counted_less : IsSome (maps.get m k) → maps.len (maps.remove m k) ≡ maps.len m - 1
  counted_less some = len-remove nat_cmp_total m k ∙ rw some refl

  pub some_counted : IsSome (maps.get m k) → 0 < maps.len m
  some_counted some = elim (none_or_some (maps.len m)) [
    | inl e ↦ absurd (none_is_not_some _ (ap (λ (x : ValueMap). maps.get x k) (empty_of_len m e) ∙ get-empty nat_cmp k) some)
    | inr lt ↦ lt
  ]

-- nothing is taken away where there is nothing
pub nothing_out : (m : ValueMap) (k : ℕ) → maps.get m k ≡ None → m ≡ maps.remove m k
nothing_out m k none = same_map nat_cmp_total nat_cmp-IsAntisymmetric _ _ (λ q. sym (get-remove nat_cmp_total m k q ∙ elim (cases_eq q k) [
  | inl e ↦ rw (ties q k e) (sym (ap (maps.get m) e ∙ none))
  | inr ne ↦ rw (differs q k ne) refl
]))

module _ (f g : ℕ → ℕ) (n k v : ℕ) (lt : k < n) (b : Becomes f g k v) where
  there_is : 0 < f k → IsSome (maps.get (gathered f n) k)
  there_is old = ap is_some (some_at f n k lt old)

  pub put_in_place : 0 < v → 0 < f k → maps.len (gathered g n) ≡ maps.len (gathered f n)
  put_in_place some old = ap maps.len (gathered_put f g n k v lt b some) ∙ counted_same (gathered f n) k v (there_is old)

  pub put_anew : 0 < v → f k ≡ 0 → maps.len (gathered g n) ≡ maps.len (gathered f n) + 1
  put_anew some none = ap maps.len (gathered_put f g n k v lt b some) ∙ counted_more (gathered f n) k v (none_at f n k (λ _. none))

  pub put_out : v ≡ 0 → 0 < f k → maps.len (gathered g n) ≡ maps.len (gathered f n) - 1
  put_out none old = ap maps.len (gathered_out f g n k v lt b none) ∙ counted_less (gathered f n) k (there_is old)

  pub some_left : 0 < f k → 0 < maps.len (gathered f n)
  some_left old = some_counted (gathered f n) k (there_is old)
