-- The entries of an ordered map seen as a finite map, each value through f, which may look at its key.
use Rattle.mig_guest.proofs.Common.{◌≡◌, ◌+◌, ◌≤◌, Bool, true, false, cond, List, [], ◌∷◌, map, Option, Some, None, is_some, refl, sym, ap, subst, ◌∙◌, arith, T, ◌&&◌, Ordering, Less, Equal, Greater, eq_by_cmp, is_eq, is_lt, option_map, IsTotalOrder, AllByRecursion, lookup, keys_of, FinMap, find, is_sorted, IsAntisymmetric, same_map, get-from_entries, get-from_sorted, entries-from_sorted, get-insert, get-retain_keys, len-insert, below_all, eq_by_cmp_equiv, is_at, lookup-filter-keys}
use Rattle.std.specs.List.{filter}
use Rattle.std.specs.List.Sorted.{IsStrictlySortedBy}
use Rattle.std.specs.FinMap as maps

-- an entry, with its value as it is seen
abbrev pub shown : {K X Y : Type 0} → (K → X → Y) → K × X → K × Y
shown f e = (e.0, f e.0 e.1)

abbrev pub seen : {K X Y : Type 0} (R : K → K → Ordering) (f : K → X → Y) → List (K × X) → FinMap R Y
seen R f es = maps.from_entries (map (shown f) es)

pub tied : (r : Ordering) → is_eq r ≡ true → r ≡ Equal
tied Less t = cc
tied Equal t = refl
tied Greater t = cc

pub is_some-mapped : {X Y : Type 0} (f : X → Y) (r : Option X) → is_some (option_map f r) ≡ is_some r
is_some-mapped f None = refl
is_some-mapped f (Some x) = refl

pub both : (a b : Bool) → T a → T b → T (a && b)
both true b p q = q
both false b p q = p

-- ---- one key set or taken away

module _ {K X : Type 0} {R : K → K → Ordering} (o : IsTotalOrder R) (m : FinMap R X) (k : K) where
  pub insert_gives : (v : X) → maps.get (maps.insert m k v) k ≡ Some v
  insert_gives v = get-insert o m k v k ∙ ap (λ b. cond b (Some v) (maps.get m k)) ((eq_by_cmp_equiv o).refl k)

  pub insert_leaves : (v : X) (q : K) → eq_by_cmp R q k ≡ false → maps.get (maps.insert m k v) q ≡ maps.get m q
  insert_leaves v q other = get-insert o m k v q ∙ ap (λ b. cond b (Some v) (maps.get m q)) other

  pub insert_len : (v : X) → maps.len (maps.insert m k v) ≤ maps.len m + 1
  insert_len v = subst (λ n. n ≤ maps.len m + 1) (sym (len-insert o m k v)) (elim (maps.contains_key m k) as (λ b. cond b (maps.len m) (maps.len m + 1) ≤ maps.len m + 1) [ true ↦ omega arith | false ↦ omega arith ])

-- ---- what is seen

module _ {K X Y : Type 0} {R : K → K → Ordering} (o : IsTotalOrder R) (exact : IsAntisymmetric R) where
  module _ (f : K → X → Y) where
    pub find_seen : (es : List (K × X)) (q : K) → find R q (map (shown f) es) ≡ option_map (f q) (find R q es)
    find_seen [] q = refl
    find_seen (e ∷ es) q = elim (eq_by_cmp R q e.0) as (λ b. eq_by_cmp R q e.0 ≡ b → cond b (Some (f e.0 e.1)) (find R q (map (shown f) es)) ≡ option_map (f q) (cond b (Some e.1) (find R q es))) [
      | true ↦ λ t. ap (λ k. Some (f k e.1)) (sym (exact q e.0 (tied _ t)))
      | false ↦ λ t. find_seen es q
    ] refl

    find_lookup : (es : List (K × X)) (q : K) → find R q es ≡ lookup (is_at (R q)) es
    find_lookup [] q = refl
    find_lookup (e ∷ es) q = ap (cond (eq_by_cmp R q e.0) (Some e.1)) (find_lookup es q)

    pub get_seen : (es : List (K × X)) (q : K) → maps.get (seen R f es) q ≡ option_map (f q) (lookup (is_at (R q)) es)
    get_seen es q = get-from_entries o (map (shown f) es) q ∙ find_seen es q ∙ ap (option_map (f q)) (find_lookup es q)

    same_below : (k : K) (es : List (K × X)) → below_all R k (map (shown f) es) ≡ below_all R k es
    same_below k [] = refl
    same_below k (e ∷ es) = ap (λ b. is_lt (R k e.0) && b) (same_below k es)

    same_sorted : (es : List (K × X)) → is_sorted R (map (shown f) es) ≡ is_sorted R es
    same_sorted [] = refl
    same_sorted (e ∷ es) = ap (λ b. b && is_sorted R (map (shown f) es)) (same_below e.0 es) ∙ ap (λ b. below_all R e.0 es && b) (same_sorted es)

    -- where the keys rise, the entries stand in the order of the list
    pub entries_shown : (es : List (K × X)) → T (is_sorted R es) → maps.entries (seen R f es) ≡ map (shown f) es
    entries_shown es rises =
        let fs = map (shown f) es in let s = subst T (sym (same_sorted es)) rises in
        ap maps.entries (same_map o exact (maps.from_entries fs) (maps.from_sorted fs) (λ q. get-from_entries o fs q ∙ sym (get-from_sorted R fs q s)))
        ∙ entries-from_sorted R fs s

    below : (x : K) (es : List (K × X)) → AllByRecursion (λ y. R x y ≡ Less) (keys_of es) → T (below_all R x es)
    below x [] h = tt
    below x (e ∷ es) h = both _ _ (subst (λ r. T (is_lt r)) (sym h.0) tt) (below x es h.1)

    sorted : (es : List (K × X)) → IsStrictlySortedBy R (keys_of es) → T (is_sorted R es)
    unfolding IsStrictlySortedBy
    sorted [] h = tt
    sorted (e ∷ es) h = both _ _ (below e.0 es h.0) (sorted es h.1)

    pub entries_seen : (es : List (K × X)) → IsStrictlySortedBy R (keys_of es) → maps.entries (seen R f es) ≡ map (shown f) es
    entries_seen es order = entries_shown es (sorted es order)

    pub kept_shown : (p : K → Bool) (es : List (K × X)) → filter (λ e. p e.0) (map (shown f) es) ≡ map (shown f) (filter (λ e. p e.0) es)
    kept_shown p [] = refl
    kept_shown p (e ∷ es) = elim (p e.0) as (λ b. cond b (shown f e ∷ filter (λ e. p e.0) (map (shown f) es)) (filter (λ e. p e.0) (map (shown f) es)) ≡ map (shown f) (cond b (e ∷ filter (λ e. p e.0) es) (filter (λ e. p e.0) es))) [
      | true ↦ ap (λ l. shown f e ∷ l) (kept_shown p es)
      | false ↦ kept_shown p es
    ]

    -- the entries that pass a test of the keys
    pub seen_filter : (p : K → Bool) (es : List (K × X)) → seen R f (filter (λ e. p e.0) es) ≡ maps.retain_keys (seen R f es) p
    seen_filter p es = same_map o exact _ _ (λ q.
        let alike = λ (k : K) (e : R q k ≡ Equal). ap p (sym (exact q k e)) in
        get_seen _ q ∙ ap (option_map (f q)) (lookup-filter-keys (is_at (R q)) p (p q) (λ k t. alike k (tied (R q k) t)) es)
        ∙ elim (p q) as (λ b. option_map (f q) (cond b (lookup (is_at (R q)) es) None) ≡ cond b (option_map (f q) (lookup (is_at (R q)) es)) None) [ true ↦ refl | false ↦ refl ]
        ∙ ap (λ r. cond (p q) r None) (sym (get_seen es q)) ∙ sym (get-retain_keys (seen R f es) p q alike))

  -- one key listed with another value
  pub seen_insert : (f : K → X → Y) (es fs : List (K × X)) (k : K) (v : X) → ((q : K) → lookup (is_at (R q)) fs ≡ cond (is_at (R k) q) (Some v) (lookup (is_at (R q)) es)) → seen R f fs ≡ maps.insert (seen R f es) k (f k v)
  seen_insert f es fs k v is = same_map o exact _ _ (λ q.
      let here = lookup (is_at (R q)) es in
      get_seen f fs q ∙ ap (option_map (f q)) (is q ∙ ap (λ b. cond b (Some v) here) ((eq_by_cmp_equiv o).symm k q))
      ∙ elim (eq_by_cmp R q k) as (λ b. eq_by_cmp R q k ≡ b → option_map (f q) (cond b (Some v) here) ≡ cond b (Some (f k v)) (maps.get (seen R f es) q)) [
        | true ↦ λ t. ap (λ z. Some (f z v)) (exact q k (tied _ t))
        | false ↦ λ t. sym (get_seen f es q)
      ] refl
      ∙ sym (get-insert o (seen R f es) k (f k v) q))
