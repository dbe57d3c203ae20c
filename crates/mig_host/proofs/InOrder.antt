-- Entries in the order of their keys, tests of them, and maps that grow behind all entries.
use Rattle.mig_host.proofs.Common.{◌≡◌, ℕ, ◌+◌, ◌<◌, ◌≤◌, Bool, true, false, cond, List, [], ◌∷◌, ◌++◌, Option, Some, refl, sym, ap, subst, ◌∙◌, length, arith, ◌⊎◌, inl, inr, T, ◌||◌, All, AllByRecursion, list_any, or_parts, All-weaker, none-some, same_Some, IsTotalOrder, is_lt, eq_by_cmp, Ordering, FinMap, IsAntisymmetric, find, is_sorted, below_all, nat_cmp, tied, both_of, nil_from_length, not, or_left, or_right, or_from, false_from_ne_true, true≢false, not-false, recursion_from_All, is_eq, ordering_reverse, put, by_order, all_found, less, true_of}
use Rattle.std.specs.declared.cmp.Ordering.TheVariants.{Less, Greater}
use Rattle.std.proofs.lemmas.Grind.{common_steps}
use Rattle.std.proofs.lemmas.Cmp.{eq_by_cmp_equiv}
use Rattle.std.proofs.lemmas.List.Folds.{list_any_none}
use Rattle.std.specs.List as list
use Rattle.std.specs.FinMap as maps

-- numbers in their order
pub nat_rises : (a b : ℕ) → T (is_lt (nat_cmp a b)) → a < b
nat_rises a b h = grind (arith, common_steps)

-- what is found passes the test
pub found_passes : {A : Type 0} (p : A → Bool) (xs : List A) (x : A) → list.find p xs ≡ Some x → p x ≡ true
found_passes p [] x is = absurd (none-some x is)
found_passes p (y ∷ ys) x is = by (p y) refl is (found_passes p ys x)
  where
    by : (b : Bool) → p y ≡ b → cond b (Some y) (list.find p ys) ≡ Some x → (list.find p ys ≡ Some x → p x ≡ true) → p x ≡ true
    by true passes same later = subst (λ z. p z ≡ true) (same_Some y x same) passes
    by false passes same later = later same

behind : {K : Type 0} {R : K → K → Ordering} → IsTotalOrder R → (x k : K) → R x k ≡ Less → R k x ≡ Greater
behind total x k less = total.antisymm k x ∙ ap ordering_reverse less

module _ {K X : Type 0} {R : K → K → Ordering} (total : IsTotalOrder R) where
  -- some entry has this key or a greater one
  abbrev pub has_from : List (K × X) → K → Bool
  has_from es k = list_any (λ e. not (is_lt (R e.0 k))) es

  put_behind : (k : K) (v : X) (es : List (K × X)) → has_from es k ≡ false → put R k v es ≡ es ++ (k, v) ∷ []
  put_behind k v [] h = refl
  put_behind k v (e ∷ es) h =
      let p = or_parts (not (is_lt (R e.0 k))) (has_from es k) h in
      ap (λ r. by_order r ((k, v) ∷ e ∷ es) ((e.0, v) ∷ es) (e ∷ put R k v es)) (behind total e.0 k (less (R e.0 k) (not-false (is_lt (R e.0 k)) p.0))) ∙ ap (λ l. e ∷ l) (put_behind k v es p.1)

  -- a new key behind all others
  pub entries_behind : (m : FinMap R X) (k : K) (v : X) → has_from (maps.entries m) k ≡ false → maps.entries (maps.insert m k v) ≡ maps.entries m ++ (k, v) ∷ []
  entries_behind m k v h = maps.entries-insert total m k v ∙ put_behind k v (maps.entries m) h

  below_at : (x : K) (es : List (K × X)) (f : K × X) (fs : List (K × X)) → T (below_all R x (es ++ f ∷ fs)) → R x f.0 ≡ Less
  below_at x [] f fs h = less (R x f.0) (true_of (is_lt (R x f.0)) (both_of (is_lt (R x f.0)) (below_all R x fs) h).0)
  below_at x (e ∷ es) f fs h = below_at x es f fs (both_of (is_lt (R x e.0)) (below_all R x (es ++ f ∷ fs)) h).1

  -- the entries before one have smaller keys
  pub front_below : (es : List (K × X)) (f : K × X) (fs : List (K × X)) → T (is_sorted R (es ++ f ∷ fs)) → has_from es f.0 ≡ false
  front_below [] f fs s = refl
  front_below (e ∷ es) f fs s =
      let (first, others) = both_of (below_all R e.0 (es ++ f ∷ fs)) (is_sorted R (es ++ f ∷ fs)) s in
      or_from (not (is_lt (R e.0 f.0))) (has_from es f.0) (ap (λ r. not (is_lt r)) (below_at e.0 es f fs first)) (front_below es f fs others)

  found_at : (es : List (K × X)) (f : K × X) (fs : List (K × X)) → T (is_sorted R (es ++ f ∷ fs)) → find R f.0 (es ++ f ∷ fs) ≡ Some f.1
  found_at [] f fs s = ap (λ b. cond b (Some f.1) (find R f.0 fs)) ((eq_by_cmp_equiv total).refl f.0)
  found_at (e ∷ es) f fs s =
      let (first, others) = both_of (below_all R e.0 (es ++ f ∷ fs)) (is_sorted R (es ++ f ∷ fs)) s in
      ap (λ r. cond (is_eq r) (Some e.1) (find R f.0 (es ++ f ∷ fs))) (behind total e.0 f.0 (below_at e.0 es f fs first)) ∙ found_at es f fs others

  -- every entry is found
  pub get_at : (m : FinMap R X) (es : List (K × X)) (f : K × X) (fs : List (K × X)) → maps.entries m ≡ es ++ f ∷ fs → maps.get m f.0 ≡ Some f.1
  get_at m es f fs is = maps.get-entries m f.0 ∙ ap (find R f.0) is ∙ found_at es f fs (subst (λ l. T (is_sorted R l)) is (maps.entries_sorted m))

  -- what is found in a front is found
  find_front : (q : K) (es fs : List (K × X)) (v : X) → find R q es ≡ Some v → find R q (es ++ fs) ≡ Some v
  find_front q [] fs v is = absurd (none-some v is)
  find_front q (e ∷ es) fs v is = by (eq_by_cmp R q e.0) is (find_front q es fs v)
    where
      by : (b : Bool) → cond b (Some e.1) (find R q es) ≡ Some v → (find R q es ≡ Some v → find R q (es ++ fs) ≡ Some v) → cond b (Some e.1) (find R q (es ++ fs)) ≡ Some v
      by true is later = is
      by false is later = later is

  pub get_front : (m g : FinMap R X) (fs : List (K × X)) → maps.entries g ≡ maps.entries m ++ fs → (q : K) (v : X) → maps.get m q ≡ Some v → maps.get g q ≡ Some v
  get_front m g fs is q v found = maps.get-entries g q ∙ ap (find R q) is ∙ find_front q (maps.entries m) fs v (sym (maps.get-entries m q) ∙ found)

-- ---- what holds of all entries, and tests of them

module _ {K X : Type 0} {R : K → K → Ordering} (total : IsTotalOrder R) (exact : IsAntisymmetric R) where
  -- all entries are found
  pub all_there : (m : FinMap R X) → All (λ (e : K × X). maps.get m e.0 ≡ Some e.1) (maps.entries m)
  all_there m = all_found total exact (λ e. maps.get m e.0 ≡ Some e.1) (maps.entries m) (maps.entries_sorted m) (λ q v is. maps.get-entries m q ∙ is)

  -- what holds of all that is found holds of all entries
  pub each_entry : (P : K → X → Type 0) (m : FinMap R X) → ((k : K) (v : X) → maps.get m k ≡ Some v → P k v) → AllByRecursion (λ e. P e.0 e.1) (maps.entries m)
  each_entry P m go = recursion_from_All (λ e. P e.0 e.1) (maps.entries m) (All-weaker _ (λ e. P e.0 e.1) (λ e is. go e.0 e.1 is) (maps.entries m) (all_there m))

  -- what is found in a map with one value more: this value, or what was found before
  pub found_more : (m : FinMap R X) (k : K) (x : X) (q : K) (v : X) → maps.get (maps.insert m k x) q ≡ Some v → ((q ≡ k) × (x ≡ v)) ⊎ (maps.get m q ≡ Some v)
  found_more m k x q v is = by (eq_by_cmp R q k) refl (sym (maps.get-insert total m k x q) ∙ is)
    where
      by : (b : Bool) → eq_by_cmp R q k ≡ b → cond b (Some x) (maps.get m q) ≡ Some v → ((q ≡ k) × (x ≡ v)) ⊎ (maps.get m q ≡ Some v)
      by true tie found = inl (exact q k (tied (R q k) tie), same_Some x v found)
      by false tie found = inr found

  module _ (p : K × X → Bool) where
    passes_case : (q : K) (e : K × X) (v : X) (b rest : Bool) (o : Option X) → eq_by_cmp R q e.0 ≡ b → p (q, v) ≡ true → cond b (Some e.1) o ≡ Some v → (o ≡ Some v → rest ≡ true) → (p e || rest) ≡ true
    passes_case q e v true rest o tie passes is go =
        let same : e ≡ (q, v) = λ i. (sym (exact q e.0 (tied (R q e.0) tie)) i, same_Some e.1 v is i) in or_left (p e) rest (ap p same ∙ passes)
    passes_case q e v false rest o tie passes is go = or_right (p e) rest (go is)

    some_passes : (es : List (K × X)) (q : K) (v : X) → p (q, v) ≡ true → find R q es ≡ Some v → list_any p es ≡ true
    some_passes [] q v passes is = absurd (none-some v is)
    some_passes (e ∷ es) q v passes is = passes_case q e v (eq_by_cmp R q e.0) _ (find R q es) refl passes is (some_passes es q v passes)

    -- an entry that passes
    pub some_entry : (m : FinMap R X) (q : K) (v : X) → maps.get m q ≡ Some v → p (q, v) ≡ true → list_any p (maps.entries m) ≡ true
    some_entry m q v is passes = some_passes (maps.entries m) q v passes (sym (maps.get-entries m q) ∙ is)

    -- no entry passes
    pub no_entry : (m : FinMap R X) → ((k : K) (v : X) → maps.get m k ≡ Some v → p (k, v) ≡ false) → list_any p (maps.entries m) ≡ false
    no_entry m none = list_any_none p (maps.entries m) (All-weaker _ (λ e. p e ≡ false) (λ e is. none e.0 e.1 is) (maps.entries m) (all_there m))

    -- where no entry passes
    pub none_passes : (m : FinMap R X) (q : K) (v : X) → list_any p (maps.entries m) ≡ false → maps.get m q ≡ Some v → p (q, v) ≡ false
    none_passes m q v none is = false_from_ne_true (p (q, v)) (λ passes. true≢false (sym (some_entry m q v is passes) ∙ none))

-- the entries of a map without any
pub no_entries : {K : Type 0} (R : K → K → Ordering) (X : Type 0) → maps.entries (maps.empty {X = X} {R = R}) ≡ []
no_entries R X = nil_from_length (maps.entries (maps.empty {X = X} {R = R})) (sym (maps.len-entries (maps.empty {X = X} {R = R})) ∙ maps.len-empty R X)

-- ---- how many entries there are

pub entries_counted : {K X : Type 0} {R : K → K → Ordering} (m : FinMap R X) → maps.len m ≡ length (maps.entries m)
entries_counted m = maps.len-entries m

-- no more than there are ranks, where the ranks rise with the keys
module _ {K X : Type 0} (R : K → K → Ordering) (rank : K → ℕ) (n : ℕ) (Good : K → Type 0) (rises : (k l : K) → Good k → T (is_lt (R k l)) → rank k < rank l) where
  -- each of a rank from lo on
  abbrev Ranked : ℕ → List (K × X) → Type 0
  Ranked lo es = AllByRecursion (λ (e : K × X). Good e.0 × (lo ≤ rank e.0) × (rank e.0 < n)) es

  above : (k : K) (lo : ℕ) (es : List (K × X)) → Good k → T (below_all R k es) → Ranked lo es → Ranked (rank k + 1) es
  above k lo [] good below all = tt
  above k lo (e ∷ es) good below all =
      let (first, others) = both_of (is_lt (R k e.0)) (below_all R k es) below in
      let less = rises k e.0 good first in
      ((all.0.0, (let high : rank k + 1 ≤ rank e.0 = omega (arith, less) in high), all.0.2), above k lo es good others all.1)

  pub few_ranks : (lo : ℕ) (es : List (K × X)) → lo ≤ n → T (is_sorted R es) → Ranked lo es → length es + lo ≤ n
  few_ranks lo [] le sorted all = omega arith
  few_ranks lo (e ∷ es) le sorted all =
      let (below, others) = both_of (below_all R e.0 es) (is_sorted R es) sorted in
      let later = few_ranks (rank e.0 + 1) es (let high : rank e.0 + 1 ≤ n = omega (arith, all.0.2) in high) others (above e.0 lo es all.0.0 below all.1) in
      omega (arith, later, all.0.1)
