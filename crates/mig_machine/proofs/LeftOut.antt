-- A set without the numbers of a list, one number after another.
use Rattle.mig_machine.proofs.Common.{[], ◌∷◌, map, ◌≡◌, ℕ, ◌+◌, ◌/◌, ◌<◌, ◌≤◌, Bool, true, false, cond, List, length, take, refl, sym, ap, ◌∙◌, arith, ◌==◌, list_any, All, LogTook, fun_ext, Pfns, pfns_of_words, without_pfns, nat_eq, ◌%◌, get_or, ◌||◌, Contains, eqb-true, log_forgotten}
use Rattle.std.specs.Int.{bit_at}
use Rattle.std.proofs.lemmas.List.Elements.{All-nil, All-cons}
use Rattle.std.proofs.lemmas.Map.Views.{Contains-from_any, list_any-from_Contains}
use Rattle.std.specs.Cmp.{nat_eq_equiv}
use Rattle.std.proofs.lemmas.List.{get_or_past}
use Rattle.std.proofs.lemmas.List.Folds.{list_any_more}
use Rattle.std.proofs.lemmas.Nat.Bits.{bit_at-zero}
use Rattle.mig_guest.specs.Changes.{without_pfn}

-- one number more is left out
one_by : (a b x : Bool) → cond b false (cond a false x) ≡ cond (a || b) false x
one_by true true x = refl
one_by true false x = refl
one_by false true x = refl
one_by false false x = refl

one_more_out : (list : List ℕ) (i : ℕ) (set : Pfns) → i < length list → without_pfn (get_or list i 0) (without_pfns (take i list) set) ≡ without_pfns (take (i + 1) list) set
one_more_out list i set within = fun_ext (λ p.
    one_by (list_any (λ q. p == q) (take i list)) (p == get_or list i 0) (set p) ∙ sym (ap (λ b. cond b false (set p)) (list_any_more (λ q. p == q) list i 0 within)))

pub left_out : (list : List ℕ) (i : ℕ) (set before now : Pfns) → i < length list → before ≡ without_pfns (take i list) set → now ≡ without_pfn (get_or list i 0) before → now ≡ without_pfns (take (i + 1) list) set
left_out list i set before now within so_far one = one ∙ ap (without_pfn (get_or list i 0)) so_far ∙ one_more_out list i set within

-- a number behind the last word is none of the set
past : (words : List ℕ) (p : ℕ) → length words ≤ p / 64 → pfns_of_words words p ≡ false
past words p high = ap (λ w. bit_at w (p % 64) == 1) (get_or_past words (p / 64) 0 high) ∙ ap (λ b. b == 1) (bit_at-zero (p % 64))

passed_by : (words : List ℕ) (n p : ℕ) (b : Bool) → (p == n) ≡ b → length words ≤ n / 64 → cond b false (pfns_of_words words p) ≡ pfns_of_words words p
passed_by words n p true is high = sym (past words p (let e : p ≡ n = eqb-true p n is in let same : p / 64 ≡ n / 64 = ap (λ (k : ℕ). k / 64) e in omega arith))
passed_by words n p false is high = refl

pub passed : (words : List ℕ) (n : ℕ) → length words ≤ n / 64 → without_pfn n (pfns_of_words words) ≡ pfns_of_words words
passed words n high = fun_ext (λ p. passed_by words n p (p == n) refl high)

-- ---- which numbers are in what is left

pub listed : (list : List ℕ) (set : Pfns) (p : ℕ) → Contains list p → without_pfns list set p ≡ false
listed list set p there = ap (λ b. cond b false (set p)) (list_any-from_Contains nat_eq_equiv p list there)

others_by : (list : List ℕ) (set : Pfns) (p : ℕ) (b : Bool) → list_any (nat_eq p) list ≡ b → ¬ Contains list p → cond b false (set p) ≡ set p
others_by list set p true is out = absurd (out (Contains-from_any eqb-true p list is))
others_by list set p false is out = refl

pub others : (list : List ℕ) (set : Pfns) (p : ℕ) → ¬ Contains list p → without_pfns list set p ≡ set p
others list set p out = others_by list set p (list_any (nat_eq p) list) refl out

pub none_took : (list : List ℕ) (p : ℕ) → Contains list p → (logs : List LogTook) → All (λ (took : LogTook). took.log p ≡ false) (map (log_forgotten list) logs)
none_took list p there [] = All-nil (λ (took : LogTook). took.log p ≡ false)
none_took list p there (took ∷ before) = All-cons (λ (took : LogTook). took.log p ≡ false) (log_forgotten list took) (map (log_forgotten list) before) (listed list took.log p there) (none_took list p there before)
