-- Which members parts of sets have.
use Rattle.mig_dirtysave_rounds.proofs.Common.{arith, ◌≡◌, ℕ, zero, suc, ◌+◌, ◌-◌, ◌≤◌, ◌<◌, [], ◌∷◌, ◌++◌, Bool, true, false, refl, sym, ap, ◌∙◌, nat_tests, Pfns, members, members_yes, members_no, front}

front_below : (set : Pfns) (i q : ℕ) → q < i → front i set q ≡ set q
front_below set i q less = grind (arith, nat_tests)

front_beyond : (set : Pfns) (i q : ℕ) → i ≤ q → front i set q ≡ false
front_beyond set i q past = grind (arith, nat_tests)

same_more : (a b : Pfns) (n : ℕ) (x : Bool) → a n ≡ x → b n ≡ x → members n a ≡ members n b → members (n + 1) a ≡ members (n + 1) b
same_more a b n true e f h = members_yes a n e ∙ ap (λ l. l ++ n ∷ []) h ∙ sym (members_yes b n f)
same_more a b n false e f h = members_no a n e ∙ h ∙ sym (members_no b n f)

-- sets that are alike below a number have the same members there
same_members : (a b : Pfns) (n : ℕ) → ((q : ℕ) → q < n → a q ≡ b q) → members n a ≡ members n b
same_members a b zero same = refl
same_members a b (suc n) same =
    let up : suc n ≡ n + 1 = omega arith in
    ap (λ k. members k a) up ∙ same_more a b n (b n) (same n (omega arith)) refl (same_members a b n (λ q less. same q (omega arith))) ∙ ap (λ k. members k b) (sym up)

front_wide : (set : Pfns) (i d : ℕ) → members (i + d) (front i set) ≡ members i set
front_wide set i zero = ap (λ k. members k (front i set)) (let e : i + zero ≡ i = omega arith in e) ∙ same_members (front i set) set i (front_below set i)
front_wide set i (suc d) =
    ap (λ k. members k (front i set)) (let e : i + suc d ≡ i + d + 1 = omega arith in e) ∙ members_no (front i set) (i + d) (front_beyond set i (i + d) (omega arith)) ∙ front_wide set i d

pub members_front : (set : Pfns) (i width : ℕ) → i ≤ width → members width (front i set) ≡ members i set
members_front set i width le = ap (λ k. members k (front i set)) (let e : width ≡ i + (width - i) = omega arith in e) ∙ front_wide set i (width - i)
