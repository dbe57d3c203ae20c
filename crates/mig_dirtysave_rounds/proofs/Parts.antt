-- Parts of a set.
use Rattle.mig_dirtysave_rounds.proofs.Common.{arith, ◌≡◌, ℕ, zero, suc, ◌+◌, ◌-◌, ◌<◌, ◌≤◌, Bool, true, false, cond, nat_lt, sym, ap, subst, ◌∙◌, inl, inr, ◌&&◌, ◌||◌, ◌==◌, ◌⊎◌, cases_lt, nat_tests, fun_ext, Pfns, no_pfns, joined, with_pfn, IsBelow, put_pfn, front, rest}

-- ---- those below a number, and those from it on

pub nothing_before : (set : Pfns) → no_pfns ≡ front 0 set
nothing_before set = fun_ext (λ q. let e : nat_lt q 0 ≡ false = grind (arith, nat_tests) in sym (ap (λ b. b && set q) e))

front_more_at : (set : Pfns) (i q : ℕ) → set i ≡ true → with_pfn i (front i set) q ≡ front (i + 1) set q
front_more_at set i q is = grind (arith, nat_tests)

pub front_more : (set : Pfns) (i : ℕ) → set i ≡ true → with_pfn i (front i set) ≡ front (i + 1) set
front_more set i is = λ j q. front_more_at set i q is j

front_skip_at : (set : Pfns) (i q : ℕ) → set i ≡ false → front i set q ≡ front (i + 1) set q
front_skip_at set i q is = grind (arith, nat_tests)

pub front_skip : (set : Pfns) (i : ℕ) → set i ≡ false → front i set ≡ front (i + 1) set
front_skip set i is = λ j q. front_skip_at set i q is j

pub not_itself : (set : Pfns) (i : ℕ) → front i set i ≡ false
not_itself set i = let e : nat_lt i i ≡ false = grind (arith, nat_tests) in ap (λ b. b && set i) e

-- what isn't unread now is the number just read, or wasn't before
pub rest_more : (set : Pfns) (i q : ℕ) → rest (i + 1) set q ≡ false → (q ≡ i) ⊎ (rest i set q ≡ false)
rest_more set i q h = grind (arith, nat_tests)

pub rest_skip : (set : Pfns) (i q : ℕ) → set i ≡ false → rest (i + 1) set q ≡ false → rest i set q ≡ false
rest_skip set i q is h = grind (arith, nat_tests)

pub rest_all : (set : Pfns) (q : ℕ) → rest 0 set q ≡ set q
rest_all set q = grind (arith, nat_tests)

-- ---- past numbers that aren't in the set

skip_on : (P : ℕ → Type 0) (set : Pfns) → ((k : ℕ) → set k ≡ false → P k → P (k + 1)) → (i d : ℕ) → ((q : ℕ) → i ≤ q → q < i + d → set q ≡ false) → P i → P (i + d)
skip_on P set step i zero out h = subst P (let e : i ≡ i + zero = omega arith in e) h
skip_on P set step i (suc d) out h =
    subst P (let e : i + d + 1 ≡ i + suc d = omega arith in e) (step (i + d) (out (i + d) (omega arith) (omega arith)) (skip_on P set step i d (λ q low high. out q low (omega arith)) h))

-- what is so of i, and goes on past a number that isn't in the set, is so of j
pub skip_to : (P : ℕ → Type 0) (set : Pfns) → ((k : ℕ) → set k ≡ false → P k → P (k + 1)) → (i j : ℕ) → i ≤ j → ((q : ℕ) → i ≤ q → q < j → set q ≡ false) → P i → P j
skip_to P set step i j le out h =
    subst P (let e : i + (j - i) ≡ j = omega arith in e) (skip_on P set step i (j - i) (λ q low high. out q low (omega arith)) h)

-- ---- sets below a width

pub members_below : (width : ℕ) (set : Pfns) (p : ℕ) → IsBelow width set → set p ≡ true → p < width
members_below width set p below inside = elim (cases_lt p width) [
  | inl less ↦ less
  | inr past ↦ absurd (let no : false ≡ true = sym (below p past) ∙ inside in cc)
]

pub joined_below : (width : ℕ) (a b : Pfns) → IsBelow width a → IsBelow width b → IsBelow width (joined a b)
joined_below width a b in_a in_b = λ p past. ap (λ x. x || b p) (in_a p past) ∙ in_b p past

-- where a number below the width is put
pub put_below : (width p : ℕ) (inside : Bool) (set : Pfns) → p < width → IsBelow width set → IsBelow width (put_pfn p inside set)
put_below width p inside set less below = λ q past.
    let other : (q == p) ≡ false = grind (arith, nat_tests) in ap (λ t. cond t inside (set q)) other ∙ below q past
