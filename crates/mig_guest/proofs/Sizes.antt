-- How many members sets have.
use Rattle.mig_guest.proofs.Common.{range_with_len, map-id, filter_of_map_range_with_len_more, length-range_with_len, cases_lt, Pfns, members, size, IsBelow, arith, ◌≡◌, ℕ, zero, suc, ◌+◌, ◌-◌, ◌≤◌, ◌<◌, [], ◌∷◌, ◌++◌, length, filter, Bool, true, false, cond, refl, sym, ap, ◌∙◌, inl, inr, append-nil, length-append}
use Rattle.std.proofs.lemmas.List.Sums.{length-filter, count_by-le-length}

members_more : (set : Pfns) (i : ℕ) → members (i + 1) set ≡ members i set ++ cond (set i) (i ∷ []) []
members_more set i =
    ap (filter set) (sym (map-id (range_with_len 0 (i + 1)))) ∙ filter_of_map_range_with_len_more set (λ x. x) 0 i i (omega arith) ∙ ap (λ l. filter set l ++ cond (set i) (i ∷ []) []) (map-id (range_with_len 0 i))

pub members_yes : (set : Pfns) (i : ℕ) → set i ≡ true → members (i + 1) set ≡ members i set ++ i ∷ []
members_yes set i is = members_more set i ∙ ap (λ b. members i set ++ cond b (i ∷ []) []) is

pub members_no : (set : Pfns) (i : ℕ) → set i ≡ false → members (i + 1) set ≡ members i set
members_no set i is = members_more set i ∙ ap (λ b. members i set ++ cond b (i ∷ []) []) is ∙ append-nil (members i set)

pub size-le : (set : Pfns) (i : ℕ) → size i set ≤ i
size-le set i = omega (arith, length-filter set (range_with_len 0 i), count_by-le-length set (range_with_len 0 i), length-range_with_len 0 i)

pub size_more : (set : Pfns) (i : ℕ) → set i ≡ true → size (i + 1) set ≡ size i set + 1
size_more set i inside = ap length (members_yes set i inside) ∙ length-append (members i set) (i ∷ [])

pub size_stays : (set : Pfns) (i : ℕ) → set i ≡ false → size (i + 1) set ≡ size i set
size_stays set i outside = ap length (members_no set i outside)

pub next : (set : Pfns) (n : ℕ) → size (suc n) set ≡ size (n + 1) set
next set n = ap (λ k. size k set) (let e : suc n ≡ n + 1 = omega arith in e)

same_more : (a b : Pfns) (n : ℕ) (x : Bool) → a n ≡ x → b n ≡ x → size n a ≡ size n b → size (suc n) a ≡ size (suc n) b
same_more a b n true e f h = next a n ∙ size_more a n e ∙ ap (λ k. k + 1) h ∙ sym (size_more b n f) ∙ sym (next b n)
same_more a b n false e f h = next a n ∙ size_stays a n e ∙ h ∙ sym (size_stays b n f) ∙ sym (next b n)

pub same_size : (a b : Pfns) (n : ℕ) → ((q : ℕ) → q < n → a q ≡ b q) → size n a ≡ size n b
same_size a b zero same = refl
same_size a b (suc n) same = same_more a b n (b n) (same n (omega arith)) refl (same_size a b n (λ q less. same q (omega arith)))

-- where nothing from i on is in the set
size_wide : (set : Pfns) (i d : ℕ) → ((q : ℕ) → i ≤ q → set q ≡ false) → size (i + d) set ≡ size i set
size_wide set i zero out = ap (λ k. size k set) (let e : i + zero ≡ i = omega arith in e)
size_wide set i (suc d) out = ap (λ k. size k set) (let e : i + suc d ≡ i + d + 1 = omega arith in e) ∙ size_stays set (i + d) (out (i + d) (omega arith)) ∙ size_wide set i d out

-- below any width that the set is below
pub same_width : (set : Pfns) (a b : ℕ) → IsBelow a set → IsBelow b set → size a set ≡ size b set
same_width set a b in_a in_b = elim (cases_lt a b) [
  | inl less ↦ sym (size_wide set a (b - a) in_a) ∙ ap (λ k. size k set) (let e : a + (b - a) ≡ b = omega arith in e)
  | inr more ↦ ap (λ k. size k set) (let e : a ≡ b + (a - b) = omega arith in e) ∙ size_wide set b (a - b) in_b
]
