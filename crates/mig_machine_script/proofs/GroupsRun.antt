-- A group of lines, line by line, and frame numbers that are logged.
use Rattle.mig_machine_script.proofs.Common.{◌≡◌, ℕ, zero, suc, ◌+◌, ◌<◌, ◌≤◌, ◌/◌, true, false, cond, List, [], ◌∷◌, drop, Some, inl, inr, refl, sym, ap, subst, ◌∙◌, arith, ◌||◌, cases_lt, eq-eqb, HostOf, no_pfns, LineOf, Dot, ends_group, first_group, first_length, logs, with_logged, slice_get, room_of}
use Rattle.mig_machine_script.proofs.LinesLogged.{IsRegular, line_ran}

pub logs_inside : (h : HostOf) (line : LineOf) (pfn : ℕ) → IsRegular h → logs h line ≡ Some pfn → pfn < h.width
logs_inside h line pfn t is = elim (cases_lt pfn h.width) [
  | inl less ↦ less
  | inr high ↦
      let ran = line_ran h line no_pfns t in
      let out : with_logged (logs h line) no_pfns pfn ≡ false = ran.below (λ p le. refl) pfn (subst (λ (w : ℕ). w ≤ pfn) (sym ran.shape.width) high) in
      let no : true ≡ false = sym (ap (λ b. b || false) (eq-eqb pfn pfn refl)) ∙ sym (ap (λ o. with_logged o no_pfns pfn) is) ∙ out in cc
]

pub word_inside : (pfn width words : ℕ) → pfn < width → words ≡ (width + 63) / 64 → pfn / 64 < words
word_inside pfn width words less is = omega arith

pub group_on : (line : LineOf) (lines : List LineOf) → ends_group line ≡ false → first_group (line ∷ lines) ≡ line ∷ first_group lines
group_on line lines is = ap (λ b. cond b [] (line ∷ first_group lines)) is

pub group_ends : (line : LineOf) (lines : List LineOf) → ends_group line ≡ true → first_group (line ∷ lines) ≡ []
group_ends line lines is = ap (λ b. cond b [] (line ∷ first_group lines)) is

pub length_on : (line : LineOf) (lines : List LineOf) → ends_group line ≡ false → first_length (line ∷ lines) ≡ first_length lines + 1
length_on line lines is = ap (λ b. cond b 1 (first_length lines + 1)) is

pub length_ends : (line : LineOf) (lines : List LineOf) → ends_group line ≡ true → first_length (line ∷ lines) ≡ 1
length_ends line lines is = ap (λ b. cond b 1 (first_length lines + 1)) is

pub at_line : (lines : List LineOf) (at : ℕ) (line : LineOf) → Some line ≡ slice_get lines at → drop at lines ≡ line ∷ drop (at + 1) lines
at_line [] at line is = cc
at_line (x ∷ xs) zero line is = let same : line ≡ x = cc in ap (λ y. y ∷ xs) (sym same)
at_line (x ∷ xs) (suc n) line is = at_line xs n line is ∙ ap (λ k. line ∷ drop k (x ∷ xs)) (let e : suc (n + 1) ≡ suc n + 1 = omega arith in e)

pub room_small : (line : LineOf) → room_of line ≤ 1
room_small Dot = omega arith
room_small _ = omega arith
