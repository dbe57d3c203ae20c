-- Bytes are texts that zeros end, and a rest; so cut, they are the texts between zeros.
use Rattle.mig_policy.proofs.Common.{◌≡◌, ◌<◌, ℕ, zero, suc, ◌+◌, ◌%◌, Bool, true, false, not, List, [], ◌∷◌, ◌++◌, length, nat_eq, nat_lt, Some, None, refl, sym, ap, ◌∙◌, arith, append_assoc, ◌||◌, ◌⊎◌, if◌then◌else◌, inl, inr, All, flat_map, common_steps, slice_split_at, slice_split_none, All-weaker, All-nil, All-cons, All-head, texts_in, HasNoZero, ended, torn_at, All-tail}
use Rattle.mig_policy.proofs.TextSteps.{torn_cons, is_zero}
use Rattle.mig_headers.proofs.PairTexts.{not_zero}

pub no_zero : (t : List ℕ) → HasNoZero t → All (λ b. is_zero b ≡ false) t
no_zero t h = All-weaker (λ b. 0 < b) (λ b. is_zero b ≡ false) not_zero t h

-- texts and their zeros are cut again
pub cut_texts : (texts : List (List ℕ)) (rest : List ℕ) → All HasNoZero texts → HasNoZero rest → texts_in (flat_map ended texts ++ rest) ≡ texts ++ rest ∷ []
cut_texts [] rest each open_text = slice_split_none is_zero rest (no_zero rest open_text)
cut_texts (t ∷ ts) rest each open_text =
    ap texts_in (append_assoc (ended t) (flat_map ended ts) rest ∙ append_assoc t (0 ∷ []) (flat_map ended ts ++ rest))
    ∙ slice_split_at is_zero t 0 (flat_map ended ts ++ rest) (no_zero t (All-head HasNoZero t ts each)) refl
    ∙ ap (λ s. t ∷ s) (cut_texts ts rest (All-tail HasNoZero t ts each) open_text)

-- all bytes are such
pub record IsCut (bytes : List ℕ) : Type 0 where
  pub texts : List (List ℕ)
  pub rest : List ℕ
  pub each : All HasNoZero texts
  pub open_text : HasNoZero rest
  pub spelled : flat_map ended texts ++ rest ≡ bytes

onto : (b : ℕ) (bs : List ℕ) → 0 < b → (texts : List (List ℕ)) (rest : List ℕ) → All HasNoZero texts → HasNoZero rest → flat_map ended texts ++ rest ≡ bs → IsCut (b ∷ bs)
onto b bs other [] rest each open_text spelled = record { texts = []; rest = b ∷ rest; each = each; open_text = All-cons (λ b. 0 < b) b rest other open_text; spelled = ap (λ s. b ∷ s) spelled }
onto b bs other (t ∷ ts) rest each open_text spelled = record {
  texts = (b ∷ t) ∷ ts;
  rest = rest;
  each = All-cons HasNoZero (b ∷ t) ts (All-cons (λ b. 0 < b) b t other (All-head HasNoZero t ts each)) (All-tail HasNoZero t ts each);
  open_text = open_text;
  spelled = ap (λ s. b ∷ s) spelled;
}

pub cut_of : (bytes : List ℕ) → IsCut bytes
cut_of [] = record { texts = []; rest = []; each = All-nil HasNoZero; open_text = All-nil (λ b. 0 < b); spelled = refl }
cut_of (zero ∷ bs) = let h = cut_of bs in record {
  texts = [] ∷ h.texts;
  rest = h.rest;
  each = All-cons HasNoZero [] h.texts (All-nil (λ b. 0 < b)) h.each;
  open_text = h.open_text;
  spelled = ap (λ s. 0 ∷ s) h.spelled;
}
cut_of (suc b ∷ bs) = let h = cut_of bs in onto (suc b) bs (omega arith) h.texts h.rest h.each h.open_text h.spelled

pub cut_is : (bytes : List ℕ) (h : IsCut bytes) → texts_in bytes ≡ h.texts ++ h.rest ∷ []
cut_is bytes h = ap texts_in (sym h.spelled) ∙ cut_texts h.texts h.rest h.each h.open_text

-- ---- a text without its end

abbrev pub odd_after : Bool → List (List ℕ) → Bool
odd_after odd [] = odd
odd_after odd (t ∷ ts) = odd_after (not odd) ts

more : (ts : List (List ℕ)) (rest : List ℕ) → 0 < length (ts ++ rest ∷ [])
more [] rest = omega arith
more (t ∷ ts) rest = omega arith

sums : (at t f : ℕ) → (at + t + 1) + f ≡ at + ((t + 1) + f)
sums at t f = omega arith

len_ended : (t : List ℕ) (ts : List (List ℕ)) → (length t + 1) + length (flat_map ended ts) ≡ length (flat_map ended (t ∷ ts))
len_ended t ts = grind (arith, common_steps)

pub torn_whole : (odd : Bool) (at : ℕ) (texts : List (List ℕ)) (rest : List ℕ)
    → torn_at odd at (texts ++ rest ∷ []) ≡ (if odd_after odd texts || nat_lt 0 (length rest) then Some (at + length (flat_map ended texts)) else None)
torn_whole odd at [] rest = let e : at ≡ at + 0 = omega arith in ap (λ n. if odd || nat_lt 0 (length rest) then Some n else None) e
torn_whole odd at (t ∷ ts) rest =
    torn_cons odd at t (ts ++ rest ∷ []) (more ts rest) ∙ torn_whole (not odd) (at + length t + 1) ts rest
    ∙ ap (λ n. if odd_after (not odd) ts || nat_lt 0 (length rest) then Some n else None) (sums at (length t) (length (flat_map ended ts)) ∙ ap (λ n. at + n) (len_ended t ts))

next_odd : (n : ℕ) → nat_eq (n % 2) 1 ≡ nat_eq ((1 + suc n) % 2) 1
next_odd n = let e : n % 2 ≡ (1 + suc n) % 2 = omega arith in ap (λ k. nat_eq k 1) e

pub parity : (ts : List (List ℕ)) → (odd_after false ts ≡ nat_eq (length ts % 2) 1) × (odd_after true ts ≡ nat_eq ((1 + length ts) % 2) 1)
parity [] = (refl, refl)
parity (t ∷ ts) = let h = parity ts in (h.1 ∙ ap (λ n. nat_eq (n % 2) 1) (let e : 1 + length ts ≡ suc (length ts) = omega arith in e), h.0 ∙ next_odd (length ts))

pub is_torn : (a b : Bool) (p q : ℕ) → (if a || b then Some p else None) ≡ Some q → (p ≡ q) × ((b ≡ true) ⊎ (a ≡ true))
is_torn true b p q h = let e : p ≡ q = cc in (e, inr refl)
is_torn false true p q h = let e : p ≡ q = cc in (e, inl refl)
is_torn false false p q h = cc
