-- What it does to all values that a leaf is taken into use or a value is written.
use Rattle.mig_pagestore_index.proofs.Common.{[], ◌∷◌, ◌++◌, ◌≡◌, ◌≢◌, replicate, ℕ, zero, suc, ◌+◌, ◌-◌, ◌*◌, ◌/◌, ◌%◌, ◌<◌, ◌≤◌, ◌⊎◌, List, length, get_or, set, slice_index, refl, sym, ap, ◌∙◌, inl, inr, arith, get_or-set_same, get_or-set_other, cases_eq, under, IsLevel, IsFan, Becomes, IsTree, cases_lt}
use Rattle.mig_pagestore_index.specs.Leaves.{step}

same_number : (q k : ℕ) → q / 512 ≡ k / 512 → q % 512 ≡ k % 512 → q ≡ k
same_number q k a b = omega (arith, a, b)

small_place : (k : ℕ) → k % 512 < 512
small_place k = omega arith

same_node : (m n i j : ℕ) → i < 512 → j < 512 → m * 512 + i ≡ n * 512 + j → m ≡ n
same_node m n i j a b e = omega (arith, a, b, e)

pub none_or_some : (n : ℕ) → (n ≡ 0) ⊎ (0 < n)
none_or_some zero = inl refl
none_or_some (suc n) = inr (omega arith)

pub step_none : (cells : List ℕ) (n j : ℕ) → n ≡ 0 → step cells n j ≡ 0
unfolding step
step_none cells zero j e = refl
step_none cells (suc n) j e = absurd (omega (arith, e))

pub step_some : (cells : List ℕ) (n j : ℕ) → 0 < n → step cells n j ≡ slice_index cells ((n - 1) * 512 + j)
unfolding step
step_some cells zero j lt = absurd (omega (arith, lt))
step_some cells (suc n) j lt = let e : n ≡ suc n - 1 = omega arith in ap (λ m. slice_index cells (m * 512 + j)) e

module _ (F : ℕ → ℕ) (cells : List ℕ) (used : ℕ) (fan : IsFan F used) (level : IsLevel cells used) (k v : ℕ) (way : 0 < F (k / 512)) where
  abbrev at : ℕ
  at = (F (k / 512) - 1) * 512 + k % 512

  pub in_use : at < used * 512
  in_use = omega (arith, way, fan.known (k / 512), small_place k)

  there : (q : ℕ) → q ≢ k → under F (set cells at v) q ≡ under F cells q
  there q ne = elim (none_or_some (F (q / 512))) [
    | inl e ↦ step_none (set cells at v) (F (q / 512)) (q % 512) e ∙ sym (step_none cells (F (q / 512)) (q % 512) e)
    | inr lt ↦
        let apart : (F (q / 512) - 1) * 512 + q % 512 ≢ at = λ e.
        let node : F (q / 512) - 1 ≡ F (k / 512) - 1 = same_node (F (q / 512) - 1) (F (k / 512) - 1) (q % 512) (k % 512) (small_place q) (small_place k) e in
        let same : F (q / 512) ≡ F (k / 512) = omega (arith, node, lt, way) in
        ne (same_number q k (fan.apart (q / 512) (k / 512) same way) (omega (arith, e, node))) in
        step_some (set cells at v) (F (q / 512)) (q % 512) lt ∙ get_or-set_other cells at ((F (q / 512) - 1) * 512 + q % 512) v 0 apart ∙ sym (step_some cells (F (q / 512)) (q % 512) lt)
  ]

  -- a cell is written: the value of k changes, and no other
  pub written : Becomes (under F cells) (under F (set cells at v)) k v
  written = record {
    here = step_some (set cells at v) (F (k / 512)) (k % 512) way ∙ get_or-set_same cells at v 0 (omega (arith, in_use, level.in_range));
    there = there;
  }

-- a spare leaf is taken into use, G leads to it from j, and no value changes
pub leaf_same : (F : ℕ → ℕ) (cells : List ℕ) (used : ℕ) → IsTree F cells used → (G : ℕ → ℕ) (j : ℕ) → F j ≡ 0 → Becomes F G j (used + 1) → (q : ℕ) → under G cells q ≡ under F cells q
leaf_same F cells used tree G j none b q = elim (cases_eq (q / 512) j) [
  | inl e ↦
      let node : G (q / 512) ≡ used + 1 = ap G e ∙ b.here in
      step_some cells (G (q / 512)) (q % 512) (omega (arith, node))
      ∙ tree.level.empty ((G (q / 512) - 1) * 512 + q % 512) (omega (arith, node))
      ∙ sym (step_none cells (F (q / 512)) (q % 512) (ap F e ∙ none))
  | inr ne ↦ ap (λ n. step cells n (q % 512)) (b.there (q / 512) ne)
]

-- an item that is there, whatever stands for one that isn't
pub item_is : (xs : List ℕ) (i d x : ℕ) → i < length xs → x ≡ get_or xs i d → slice_index xs i ≡ x
item_is [] i d x lt e = absurd (omega arith)
item_is (y ∷ xs) zero d x lt e = sym e
item_is (y ∷ xs) (suc i) d x lt e = item_is xs i d x (omega arith) e

pub none_under : (F : ℕ → ℕ) (cells : List ℕ) (k : ℕ) → F (k / 512) ≡ 0 → under F cells k ≡ 0
none_under F cells k e = step_none cells (F (k / 512)) (k % 512) e

-- more spare leaves change nothing
pub same_step : (cs ds : List ℕ) → ((i : ℕ) → slice_index ds i ≡ slice_index cs i) → (n j : ℕ) → step ds n j ≡ step cs n j
same_step cs ds same n j = elim (none_or_some n) [
  | inl e ↦ step_none ds n j e ∙ sym (step_none cs n j e)
  | inr lt ↦ step_some ds n j lt ∙ same ((n - 1) * 512 + j) ∙ sym (step_some cs n j lt)
]

-- nothing leads to a leaf
pub none_in_empty : (F : ℕ → ℕ) → ((k : ℕ) → F k ≡ 0) → (cells : List ℕ) (q : ℕ) → under F cells q ≡ 0
none_in_empty F none cells q = none_under F cells q (none (q / 512))

-- a value has a leaf
pub way_to : (F : ℕ → ℕ) (cells : List ℕ) (k : ℕ) → 0 < under F cells k → 0 < F (k / 512)
way_to F cells k some = elim (none_or_some (F (k / 512))) [
  | inl e ↦ let none = none_under F cells k e in absurd (omega (arith, none, some))
  | inr lt ↦ lt
]

zeros : (n k : ℕ) → slice_index (replicate n 0) k ≡ 0
zeros zero k = refl
zeros (suc n) zero = refl
zeros (suc n) (suc k) = zeros n k

-- zeros behind a list change nothing
pub widened : (xs : List ℕ) (n i : ℕ) → slice_index (xs ++ replicate n 0) i ≡ slice_index xs i
widened [] n i = zeros n i
widened (x ∷ xs) n zero = refl
widened (x ∷ xs) n (suc i) = widened xs n i

-- a number by its leaf and its place there
pub at_place : (F : ℕ → ℕ) (cells : List ℕ) (key place : ℕ) → place < 512 → under F cells (key * 512 + place) ≡ step cells (F key) place
at_place F cells key place lt =
    let e : (key * 512 + place) / 512 ≡ key = omega (arith, lt) in let f : (key * 512 + place) % 512 ≡ place = omega (arith, lt) in
    ap (λ n. step cells (F n) ((key * 512 + place) % 512)) e ∙ ap (step cells (F key)) f

-- where no leaf stands between, and a leaf has nothing up to a place, nothing is found so far
pub passed : (F : ℕ → ℕ) (cells : List ℕ) (from key last : ℕ) → from / 512 ≤ key → last ≤ 512 → ((k : ℕ) → from / 512 ≤ k → k < key → F k ≡ 0)
    → ((j : ℕ) → from - key * 512 ≤ j → j < last → step cells (F key) j ≡ 0) → (k : ℕ) → from ≤ k → k < key * 512 + last → under F cells k ≡ 0
passed F cells from key last to few before here k le lt = elim (cases_lt (k / 512) key) [
  | inl less ↦ none_under F cells k (before (k / 512) (omega (arith, le)) less)
  | inr more ↦ let e : k / 512 ≡ key = omega (arith, more, lt, few) in
      ap (λ n. step cells (F n) (k % 512)) e ∙ here (k % 512) (omega (arith, le, e)) (omega (arith, lt, e))
]
