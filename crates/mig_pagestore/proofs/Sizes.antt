-- Which slab a place is in.
use Rattle.mig_pagestore.proofs.Common.{◌≡◌, ℕ, zero, suc, ◌+◌, ◌-◌, ◌*◌, ◌/◌, ◌%◌, ◌<◌, ◌≤◌, ◌^◌, List, [], ◌∷◌, refl, sym, ap, ◌∙◌, subst, arith, inl, inr, cases_eq}
use Rattle.std.proofs.Math.Nat.{pow-le-pow_right}
use lib.Dec.{lit<}
use Rattle.mig_pagestore.specs.Packed.{IsFound, LieInOne, AreLaid, places_before, places_after}

-- where the place lies in slabs of these sizes
unfoldable pub IsAt : List ℕ → ℕ → ℕ → ℕ → Type 0
IsAt [] slab at p = p < 0
IsAt (k ∷ ks) zero at p = (at ≡ p) × (at < k)
IsAt (k ∷ ks) (suc slab) at p = (k ≤ p) × IsAt ks slab at (p - k)

next_first : (i : ℕ) → places_before (suc i) ≡ places_before i + places_after (places_before i)
unfolding places_before
next_first i = refl

first_over : (d i : ℕ) → places_before i ≤ places_before (d + i)
first_over zero i = let same : 0 + i ≡ i = omega arith in omega (arith, ap places_before same)
first_over (suc d) i = let same : suc d + i ≡ suc (d + i) = omega arith in omega (arith, first_over d i, ap places_before same, next_first (d + i))

first_up : (i q : ℕ) → i ≤ q → places_before i ≤ places_before q
first_up i q le = let same : q - i + i ≡ q = omega arith in subst (λ k. places_before i ≤ places_before k) same (first_over (q - i) i)

not_before : (place slab at other there : ℕ) → IsFound place slab at → IsFound place other there → slab < other → ⊥
not_before place slab at other there found again lt = omega (arith, found.is, found.small, again.is, first_up (suc slab) other (omega (arith, lt)), next_first slab)

-- a place lies in one slab alone
found_once : (place slab at other there : ℕ) → IsFound place slab at → IsFound place other there → slab ≡ other
found_once place slab at other there found again = elim (cases_eq slab other) [
  | inl e ↦ e
  | inr ne ↦ absurd (not_before place other there slab at again found (omega (arith, ne, not_before place slab at other there found again)))
]

-- so many places from a place on, wherever it's found
pub lie_from : (place n slab at : ℕ) → LieInOne place n → IsFound place slab at → at + n ≤ places_after (places_before slab)
lie_from place n slab at lie found =
    let same : lie.slab ≡ slab = found_once place lie.slab lie.at slab at lie.found found in let first = ap places_before same in omega (arith, lie.fits, lie.found.is, found.is, first)

pub at_found : (ks : List ℕ) (from to i slab q at p place : ℕ) → AreLaid ks from to → from ≡ places_before i → q ≡ i + slab → place ≡ from + p → place < to → IsFound place q at → IsAt ks slab at p
unfolding AreLaid IsAt
at_found [] from to i slab q at p place laid starts which behind lt found = absurd (omega (arith, laid, behind, lt))
at_found (k ∷ ks) from to i zero q at p place laid starts which behind lt found =
    let same : q ≡ i = omega (arith, which) in
    let first : places_before q ≡ from = ap places_before same ∙ sym starts in
    (omega (arith, found.is, first, behind), subst (λ n. at < n) (ap places_after first ∙ sym laid.0) found.small)
at_found (k ∷ ks) from to i (suc slab) q at p place laid starts which behind lt found =
    let next : from + k ≡ places_before (suc i) = (λ j. starts j + laid.0 j) ∙ ap (λ n. places_before i + places_after n) starts ∙ sym (next_first i) in
    let up = first_up (suc i) q (omega (arith, which)) in
    let over : k ≤ p = omega (arith, next, up, found.is, behind) in
    (over, at_found ks (from + k) to (suc i) slab q at (p - k) place laid.1 next (omega (arith, which)) (omega (arith, behind, over)) lt found)

powers : (k : ℕ) → k < 8 → places_before k + 64 ≡ 2 ^ (k + 6)
unfolding places_before
powers zero lt = refl
powers (suc zero) lt = refl
powers (suc (suc zero)) lt = refl
powers (suc (suc (suc zero))) lt = refl
powers (suc (suc (suc (suc zero)))) lt = refl
powers (suc (suc (suc (suc (suc zero))))) lt = refl
powers (suc (suc (suc (suc (suc (suc zero)))))) lt = refl
powers (suc (suc (suc (suc (suc (suc (suc zero))))))) lt = refl
powers (suc (suc (suc (suc (suc (suc (suc (suc k)))))))) lt = absurd (omega (arith, lt))

large : (m : ℕ) → places_before (m + 8) ≡ 16320 + 16384 * m
unfolding places_before
large zero = refl
large (suc m) = let same : suc m + 8 ≡ suc (m + 8) = omega arith in omega (arith, large m, ap places_before same, next_first (m + 8))

least_power : (place power : ℕ) → place + 64 < 2 * 2 ^ power → 6 ≤ power
least_power place power high = let below : power ≤ 5 → 2 ^ power ≤ 2 ^ 5 = λ le. pow-le-pow_right (lit< tt) le in grind (arith, high, below)

most_power : (place power : ℕ) → 2 ^ power ≤ place + 64 → place < 16320 → power < 14
most_power place power low few = let above : 14 ≤ power → 2 ^ 14 ≤ 2 ^ power = λ le. pow-le-pow_right (lit< tt) le in grind (arith, low, few, above)

pub power_over : (place power : ℕ) → place + 64 < 2 * 2 ^ power → place < 16320 → 2 ^ power ≤ place + 64 → (6 ≤ power) × (power < 64)
power_over place power high few low = (least_power place power high, let most = most_power place power low few in omega (arith, most))

pub found_small : (place power : ℕ) → 2 ^ power ≤ place + 64 → place + 64 < 2 * 2 ^ power → place < 16320 → IsFound place (power - 6) (place + 64 - 2 ^ power)
found_small place power low high few =
    let from : 6 ≤ power = least_power place power high in
    let to : power < 14 = most_power place power low few in
    let same : power - 6 + 6 ≡ power = omega (arith, from) in
    let first : places_before (power - 6) + 64 ≡ 2 ^ power = powers (power - 6) (omega (arith, to)) ∙ ap (λ k. 2 ^ k) same in
    record { is = omega (arith, first, low); small = omega (arith, first, low, high, few) }

pub found_large : (place : ℕ) → 16320 ≤ place → IsFound place ((place - 16320) / 16384 + 8) ((place - 16320) % 16384)
found_large place le =
    let m = (place - 16320) / 16384 in
    let first : places_before (m + 8) ≡ 16320 + 16384 * m = large m in
    record { is = omega (arith, first, le); small = omega (arith, first) }
