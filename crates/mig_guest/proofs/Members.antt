-- The members of a set are those below the width, and they ascend.
use Rattle.mig_guest.proofs.Common.{All, range_with_len, cases_lt, lt-ltb, All-contains, All-filter, filter_passes, Contains-append_right, length-range_with_len, get_or-range_with_len, Pfns, all_below, members}
use Rattle.std.proofs.Common.{◌≡◌, ℕ, zero, suc, ◌+◌, ◌<◌, ◌≤◌, Bool, true, false, cond, List, [], ◌∷◌, get_or, refl, ap, subst, ◌∙◌, arith, inl, inr, nat_lt}
use Rattle.std.specs.Prelude.{filter, Contains}
use Rattle.std.specs.List.Sorted.{IsStrictlyIncreasing}
use Rattle.std.proofs.lemmas.List.Kept.{IsStrictlyIncreasing-filter}

pub ascending : (width : ℕ) (set : Pfns) → IsStrictlyIncreasing (members width set)
ascending width set =
    IsStrictlyIncreasing-filter set (range_with_len 0 width) (λ k less.
    let n = length-range_with_len 0 width in
    let here : k < width = omega (arith, n) in
    let next : k + 1 < width = omega (arith, n) in
    let at : get_or (range_with_len 0 width) k 0 ≡ 0 + k = get_or-range_with_len 0 width k 0 here in
    let behind : get_or (range_with_len 0 width) (k + 1) 0 ≡ 0 + (k + 1) = get_or-range_with_len 0 width (k + 1) 0 next in
    omega (arith, at, behind))

in_range : (width : ℕ) → All (λ p. p < width) (range_with_len 0 width)
in_range width k d less =
    let here : k < width = omega (arith, length-range_with_len 0 width) in
    let at : get_or (range_with_len 0 width) k d ≡ 0 + k = get_or-range_with_len 0 width k d here in
    omega (arith, at, here)

pub inside : (width p : ℕ) (set : Pfns) → Contains (members width set) p → (p < width) × (set p ≡ true)
inside width p set h = (
  All-contains (λ q. q < width) (members width set) p (All-filter set (λ q. q < width) (range_with_len 0 width) (in_range width)) h,
  All-contains (λ q. set q ≡ true) (members width set) p (filter_passes set (range_with_len 0 width)) h,
)

behind_one : (b : Bool) (a : ℕ) (others : List ℕ) (p : ℕ) → Contains others p → Contains (cond b (a ∷ others) others) p
behind_one true a others p h = Contains-append_right (a ∷ []) others p h
behind_one false a others p h = h

at_front : (b : Bool) (a : ℕ) (others : List ℕ) → b ≡ true → Contains (cond b (a ∷ others) others) a
at_front true a others e = (0, omega arith, refl)
at_front false a others e = cc

found : (set : Pfns) (a n p : ℕ) → a ≤ p → p < a + n → set p ≡ true → Contains (filter set (range_with_len a n)) p
found set a zero p low high is = absurd (omega arith)
found set a (suc n) p low high is =
    let others = filter set (range_with_len (a + 1) n) in
    elim (cases_lt a p) [
      | inl less ↦ behind_one (set a) a others p (found set (a + 1) n p (omega arith) (omega arith) is)
      | inr top ↦
          let same : a ≡ p = omega arith in
          subst (λ (q : ℕ). Contains (cond (set a) (a ∷ others) others) q) same (at_front (set a) a others (ap set same ∙ is))
    ]

pub are_members : (width p : ℕ) (set : Pfns) → (p < width) × (set p ≡ true) → Contains (members width set) p
are_members width p set h = found set 0 width p (omega arith) (omega (arith, h.0)) h.1

-- ---- all below the width

stays : (b : Bool) (a : ℕ) (others : List ℕ) → b ≡ true → cond b (a ∷ others) others ≡ a ∷ others
stays true a others e = refl
stays false a others e = cc

all_stay : (width a n : ℕ) → a + n ≤ width → filter (all_below width) (range_with_len a n) ≡ range_with_len a n
all_stay width a zero h = refl
all_stay width a (suc n) h =
    stays (nat_lt a width) a (filter (all_below width) (range_with_len (a + 1) n)) (lt-ltb a width (omega arith))
    ∙ ap (λ l. a ∷ l) (all_stay width (a + 1) n (omega arith))

pub all_members : (width : ℕ) → members width (all_below width) ≡ range_with_len 0 width
all_members width = all_stay width 0 width (omega arith)
