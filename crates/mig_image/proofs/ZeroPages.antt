-- Pages that are all zero.
use Rattle.mig_image.proofs.Common.{◌≡◌, ℕ, zero, suc, ◌+◌, ◌<◌, Bool, true, false, nat_eq, List, [], ◌∷◌, length, take, replicate, Some, refl, sym, ap, ◌∙◌, arith, ◌&&◌, list_all, and_parts, eqb-true, eqb-false, ne_eqb, GuestImageVersion, is_all_zero, is_left_out, get_or, le_or_l}
use Rattle.mig_image.specs.GuestImage.{page_left_out}
use Rattle.std.specs.Int.RustNames.{bit_or}
use Rattle.std.specs.Int.Bits.{or_zero_l}
use Rattle.std.proofs.lemmas.List.Folds.{list_all_more}

-- ---- bytes joined by or

or_none : (a b : ℕ) → nat_eq (bit_or a b) 0 ≡ (nat_eq a 0 && nat_eq b 0)
or_none a b = by (nat_eq a 0) refl
  where
    by : (c : Bool) → nat_eq a 0 ≡ c → nat_eq (bit_or a b) 0 ≡ (c && nat_eq b 0)
    by true is = ap (λ n. nat_eq (bit_or n b) 0) (eqb-true a 0 is) ∙ ap (λ n. nat_eq n 0) (or_zero_l b)
    by false is = let some = eqb-false a 0 is in let above = le_or_l a b in ne_eqb (bit_or a b) 0 (λ e. absurd (some (omega (arith, above, e))))

-- no bit is set in the first so many bytes, and then in one more
pub none_set : (page : List ℕ) (i set : ℕ) → i < length page → nat_eq set 0 ≡ list_all (λ b. nat_eq b 0) (take i page) → nat_eq (bit_or set (get_or page i 0)) 0 ≡ list_all (λ b. nat_eq b 0) (take (i + 1) page)
none_set page i set less before =
    or_none set (get_or page i 0) ∙ ap (λ c. c && nat_eq (get_or page i 0) 0) before ∙ sym (list_all_more (λ b. nat_eq b 0) page i 0 less)

-- ---- zeros

pub all_zero : (n : ℕ) → list_all (λ b. nat_eq b 0) (replicate n 0) ≡ true
all_zero zero = refl
all_zero (suc n) = all_zero n

pub only_zeros : (xs : List ℕ) → list_all (λ b. nat_eq b 0) xs ≡ true → xs ≡ replicate (length xs) 0
only_zeros [] h = refl
only_zeros (x ∷ xs) h =
    let p = and_parts (nat_eq x 0) (list_all (λ b. nat_eq b 0) xs) h in
    ap (λ y. y ∷ xs) (eqb-true x 0 p.0) ∙ ap (λ l. 0 ∷ l) (only_zeros xs p.1)

-- ---- the page that is left out

pub zeros_are_zero : is_all_zero page_left_out ≡ true
unfolding page_left_out
zeros_are_zero = all_zero 4096

pub zeros_whole : length page_left_out ≡ 4096
unfolding page_left_out
zeros_whole = refl

pub left_out_is_zeros : (version : GuestImageVersion) (page : List ℕ) → is_left_out version (Some page) ≡ true → length page ≡ 4096 → page ≡ page_left_out
unfolding page_left_out
left_out_is_zeros version page left_out size =
    let p = and_parts _ (is_all_zero page) left_out in only_zeros page p.1 ∙ ap (λ n. replicate n 0) size
