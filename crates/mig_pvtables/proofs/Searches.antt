-- Searches in ranges, among entries and along rows of causes: when nothing is found.
use Rattle.mig_pvtables.proofs.Common.{◌≡◌, ℕ, ◌+◌, ◌<◌, ◌≤◌, Bool, true, false, cond, List, [], ◌∷◌, get_or, nat_lt, Option, Some, None, is_none, is_some, IsSome, refl, sym, ap, ◌∙◌, inl, inr, arith, cases_eq, or_from, or_parts, ◌↔◌, find, ⊤, ◌||◌, range_with_len, list_any, option_map, option_or, eq_by_cmp, Ordering, IsTotalOrder, FinMap, IsAntisymmetric, get-entries, entries_sorted, false_from_ne_true, ltb-false, le-ltb, TooManyFrames, most_frames, tied, first_some, first_cause, list_any_at, length-range_with_len, get_or-range_with_len, both_none, All, all_found, All-head, All-tail}
use Rattle.std.proofs.lemmas.List.Recursion.{or_from_places}
use Rattle.std.specs.FinMap as maps

pub none_of : {X : Type 0} (o : Option X) → is_some o ≡ false → o ≡ None
none_of None is = refl
none_of (Some x) is = let no : true ≡ false = is in cc

pub cond_none : {A : Type 0} (b : Bool) (x : A) → cond b (Some x) None ≡ None → b ≡ false
cond_none true x is = let no : Some x ≡ None = is in cc
cond_none false x is = refl

-- ---- in a range

module _ (p : ℕ → Bool) where
  pub any_in_range : (n : ℕ) → (list_any p (range_with_len 0 n) ≡ false) ↔ ((k : ℕ) → k < n → p k ≡ false)
  any_in_range n =
      let at : (k : ℕ) → k < n → p (get_or (range_with_len 0 n) k 0) ≡ p k = λ k lt. ap p (get_or-range_with_len 0 n k 0 lt ∙ omega arith) in
      let len = length-range_with_len 0 n in (
        (λ none k lt. false_from_ne_true (p k) (λ passes. let no : false ≡ true = sym none ∙ list_any_at p (range_with_len 0 n) k 0 (omega (arith, lt, len)) (at k lt ∙ passes) in cc)),
        (λ fails. or_from_places (list_any p) p refl (λ x xs. refl) (range_with_len 0 n) 0 (λ k lt. let low : k < n = omega (arith, lt, len) in at k low ∙ fails k low)),
      )

  find_any : (xs : List ℕ) → is_some (find p xs) ≡ list_any p xs
  find_any [] = refl
  find_any (x ∷ xs) = elim (p x) as (λ b. is_some (cond b (Some x) (find p xs)) ≡ (b || list_any p xs)) [ true ↦ refl | false ↦ find_any xs ]

  pub find_in_range : (n : ℕ) → (find p (range_with_len 0 n) ≡ None) ↔ ((k : ℕ) → k < n → p k ≡ false)
  find_in_range n = (
    λ none. (any_in_range n).0 (sym (find_any (range_with_len 0 n)) ∙ ap is_some none),
    λ fails. none_of (find p (range_with_len 0 n)) (find_any (range_with_len 0 n) ∙ (any_in_range n).1 fails),
  )

-- two tests that fail alike
pub alike_false : (a b : Bool) → (a ≡ false → b ≡ false) → (b ≡ false → a ≡ false) → a ≡ b
alike_false true true go back = refl
alike_false true false go back = back refl
alike_false false b go back = sym (go refl)

-- a range that is longer by one
pub any_more : (p : ℕ → Bool) (k : ℕ) → list_any p (range_with_len 0 (k + 1)) ≡ (list_any p (range_with_len 0 k) || p k)
any_more p k = alike_false _ _
    (λ none. or_from _ _ ((any_in_range p k).1 (λ j lt. (any_in_range p (k + 1)).0 none j (omega (arith, lt)))) ((any_in_range p (k + 1)).0 none k (omega arith)))
    (λ none. let both = or_parts _ _ none in (any_in_range p (k + 1)).1 (λ j lt. elim (cases_eq j k) [
      | inl e ↦ ap p e ∙ both.1
      | inr ne ↦ (any_in_range p k).0 both.0 j (omega (arith, lt, ne))
    ]))

-- an option given anew, whatever it was before
pub overwritten : {A B C : Type 0} (f : A → B) (c : C) (o : Option A) → option_map (λ _. c) (option_map f o) ≡ option_map (λ _. c) o
overwritten f c None = refl
overwritten f c (Some a) = refl

-- ---- among the entries of a map

module _ {K X C : Type 0} {R : K → K → Ordering} (o : IsTotalOrder R) (exact : IsAntisymmetric R) (f : K × X → Option C) where
  none_list : (es : List (K × X)) → All (λ e. f e ≡ None) es → first_some f es ≡ None
  none_list [] h = refl
  none_list (e ∷ es) h = ap (λ r. option_or r (first_some f es)) (All-head (λ e. f e ≡ None) e es h) ∙ none_list es (All-tail (λ e. f e ≡ None) e es h)

  not_list : (es : List (K × X)) → first_some f es ≡ None → (q : K) (v : X) → maps.find R q es ≡ Some v → f (q, v) ≡ None
  not_list [] is q v at = cc
  not_list (e ∷ es) is q v at =
      let both = both_none (f e) (first_some f es) is in
      elim (eq_by_cmp R q e.0) as (λ b. eq_by_cmp R q e.0 ≡ b → cond b (Some e.1) (maps.find R q es) ≡ Some v → f (q, v) ≡ None) [
        | true ↦ λ t at. let same : e.1 ≡ v = cc in let key = exact q e.0 (tied _ t) in (λ i. f (key i, sym same i)) ∙ both.0
        | false ↦ λ t at. not_list es both.1 q v at
      ] refl at

  pub first_found : (m : FinMap R X) → (first_some f (maps.entries m) ≡ None) ↔ ((q : K) (v : X) → maps.get m q ≡ Some v → f (q, v) ≡ None)
  first_found m = (
    λ none q v at. not_list (maps.entries m) none q v (sym (get-entries m q) ∙ at),
    λ fails. none_list (maps.entries m) (all_found o exact (λ e. f e ≡ None) (maps.entries m) (entries_sorted m) (λ q v is. fails q v (get-entries m q ∙ is))),
  )

-- ---- along rows of causes

-- no row finds anything
abbrev pub AllNone : {C : Type 0} → List (Option C) → Type 0
AllNone [] = ⊤
AllNone (row ∷ rows) = (row ≡ None) × AllNone rows

pub all_none : {C : Type 0} (rows : List (Option C)) → (first_cause rows ≡ None) ↔ AllNone rows
all_none [] = (λ _. tt, λ _. refl)
all_none (row ∷ rows) = (
  λ is. let both = both_none row (first_cause rows) is in (both.0, (all_none rows).0 both.1),
  λ all. ap (λ o. option_or o (first_cause rows)) all.0 ∙ (all_none rows).1 all.1,
)

pub none_mapped : {A C : Type 0} (f : A → C) (o : Option A) → (option_map f o ≡ None) ↔ (o ≡ None)
none_mapped f None = (λ is. refl, λ is. refl)
none_mapped f (Some a) = (λ is. let no : Some (f a) ≡ None = is in cc, λ is. let no : Some a ≡ None = is in cc)

-- the row of a part that has to be there
pub is_there : {C : Type 0} (o : Option (List ℕ)) (c : C) → (cond (is_none o) (Some c) None ≡ None) ↔ IsSome o
is_there None c = (λ is. let no : Some c ≡ None = is in cc, λ has. let no : false ≡ true = has in cc)
is_there (Some x) c = (λ is. refl, λ has. refl)

-- the row of how many frames there are
pub are_few : (n : ℕ) → (cond (nat_lt most_frames n) (Some TooManyFrames) None ≡ None) ↔ (n ≤ most_frames)
are_few n = (
  elim (nat_lt most_frames n) as (λ b. nat_lt most_frames n ≡ b → cond b (Some TooManyFrames) None ≡ None → n ≤ most_frames) [
    | true ↦ λ t is. let no : Some TooManyFrames ≡ None = is in cc
    | false ↦ λ t is. ltb-false most_frames n t
  ] refl,
  λ few. ap (λ b. cond b (Some TooManyFrames) None) (le-ltb most_frames n few),
)

three_rows : {C : Type 0} (a b c : Option C) → option_or (option_or a b) c ≡ first_cause (a ∷ b ∷ c ∷ [])
three_rows (Some x) b c = refl
three_rows None (Some x) c = refl
three_rows None None (Some x) = refl
three_rows None None None = refl

-- the first of three causes, tried one after another
pub first_of_three : {C : Type 0} {a b c x y z either r : Option C} → x ≡ a → y ≡ b → z ≡ c → either ≡ option_or x y → r ≡ option_or either z → r ≡ first_cause (a ∷ b ∷ c ∷ [])
first_of_three {a = a} {b = b} {c = c} e f g h is = is ∙ (rw (h, e, f, g) (three_rows a b c))
