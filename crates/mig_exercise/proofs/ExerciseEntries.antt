-- The tables of the exercise: what each of their slots says is known, where each frame of the host is.
use Rattle.mig_exercise.proofs.Common.{◌≡◌, ℕ, zero, suc, ◌+◌, ◌/◌, ◌%◌, ◌^◌, ◌<◌, true, false, cond, not, nat_lt, List, Option, Some, None, refl, sym, ap, subst, ◌∙◌, arith, lit<, eq-eqb, ne_eqb, ltb-true, ◌==◌, level_of, Notab, long_of_longs, NamesKnown, first_data, data_count, exercise_type, exercise_machine, table_naming, exercise_page, IsSome, present_entry}
use Rattle.std.specs.Prelude.{min, nat_le, ◌&&◌}
use Rattle.mig_guest.specs.declared.table.Entry.TheVariants.{Blank, NotPresent, Superpage, Frame}
use Rattle.mig_guest.specs.Tables.{is_present, is_large, named_frame, is_blank_slot, entry_of, entry}

-- a machine frame fits into an entry
pub machine_small : (n pfn : ℕ) → n < 65537 → exercise_machine n pfn < 2 ^ 40
machine_small n pfn few = omega arith

-- the frames that the table of level 1 names are frames of the host
data_inside : (n slot : ℕ) → slot < min (data_count n) 512 → first_data n + slot < n
data_inside n slot lt = omega arith

-- ---- entries

-- a number that is present and no superpage says what is known, where the frame that it names is
known_number : (pfn_of : ℕ → Option ℕ) (level slot e : ℕ) → e % 2 ≡ 1 → e / 2 ^ 7 % 2 ≡ 0 → IsSome (pfn_of (named_frame e)) → NamesKnown pfn_of (entry_of level slot e)
unfolding entry_of
known_number pfn_of level slot e odd low there = elim (is_blank_slot level slot) as (λ b. NamesKnown pfn_of (cond b Blank (cond (not (is_present e)) NotPresent (cond (nat_le 2 level && is_large e) Superpage (Frame (named_frame e)))))) [
  | true ↦ tt
  | false ↦
      subst (λ b. NamesKnown pfn_of (cond (not b) NotPresent (cond (nat_le 2 level && is_large e) Superpage (Frame (named_frame e))))) (sym (eq-eqb (e % 2) 1 odd))
      (subst (λ b. NamesKnown pfn_of (cond (nat_le 2 level && (b == 1)) Superpage (Frame (named_frame e)))) (sym low)
      (elim (nat_le 2 level) as (λ b. NamesKnown pfn_of (cond (b && false) Superpage (Frame (named_frame e)))) [ true ↦ there | false ↦ there ]))
]

-- a present entry is such a number, and 0 isn't present
known_present : (pfn_of : ℕ → Option ℕ) (level slot m : ℕ) → m < 2 ^ 40 → IsSome (pfn_of m) → NamesKnown pfn_of (entry_of level slot (present_entry m))
known_present pfn_of level slot m small there =
    let names : named_frame (present_entry m) ≡ m = omega arith in
    known_number pfn_of level slot (present_entry m) (omega arith) (omega arith) (subst (λ k. IsSome (pfn_of k)) (sym names) there)

known_zero : (pfn_of : ℕ → Option ℕ) (level slot : ℕ) → NamesKnown pfn_of (entry_of level slot 0)
unfolding entry_of
known_zero pfn_of level slot = elim (is_blank_slot level slot) as (λ b. NamesKnown pfn_of (cond b Blank NotPresent)) [ true ↦ tt | false ↦ tt ]

-- ---- tables

-- a table whose slots name frames of the host
pub record NamesFrames (n : ℕ) (page : List ℕ) : Type 0 where
  pub count : ℕ
  pub first : ℕ
  pub is : table_naming n count first ≡ page
  pub inside : (slot : ℕ) → slot < count → first + slot < n

module _ (n : ℕ) (few : n < 65537) (pfn_of : ℕ → Option ℕ) (found : (pfn : ℕ) → pfn < n → IsSome (pfn_of (exercise_machine n pfn))) where
  abbrev IsKnownSlot : ℕ → ℕ → ℕ → Type 0
  IsKnownSlot level slot e = (e < 2 ^ 64) × NamesKnown pfn_of (entry_of level slot e)

  -- what each slot says is known, where it is a present entry or 0
  known_machine : (level slot pfn : ℕ) → pfn < n → IsKnownSlot level slot (present_entry (exercise_machine n pfn))
  known_machine level slot pfn lt =
      let small = machine_small n pfn few in
      (omega (arith, small), known_present pfn_of level slot (exercise_machine n pfn) small (found pfn lt))

  known_slot : (level slot count first : ℕ) → (slot < count → first + slot < n) → IsKnownSlot level slot (cond (nat_lt slot count) (present_entry (exercise_machine n (first + slot))) 0)
  known_slot level slot count first inside = elim (nat_lt slot count) as (λ b. nat_lt slot count ≡ b → IsKnownSlot level slot (cond b (present_entry (exercise_machine n (first + slot))) 0)) [
    | true ↦ λ t. known_machine level slot (first + slot) (inside (ltb-true slot count t))
    | false ↦ λ t. (lit< tt, known_zero pfn_of level slot)
  ] refl

  pub known_table : (level : ℕ) (page : List ℕ) → NamesFrames n page → (slot : ℕ) → slot < 512 → NamesKnown pfn_of (entry level page slot)
  known_table level page t slot lt =
      let number : ℕ → ℕ = λ s. cond (nat_lt s t.count) (present_entry (exercise_machine n (t.first + s))) 0 in
      let (small, known) = known_slot level slot t.count t.first (t.inside slot) in
      subst (λ p. NamesKnown pfn_of (entry level p slot)) t.is (subst (λ e. NamesKnown pfn_of (entry_of level slot e)) (sym (long_of_longs 512 number slot lt small)) known)

-- ---- which frames are tables

-- frames 2 to 5, and these name frames of the host
pub no_table : (pfn : ℕ) → 5 < pfn → exercise_type pfn ≡ Notab
no_table pfn more = rw (ne_eqb pfn 2 (λ e. omega (arith, e, more)), ne_eqb pfn 3 (λ e. omega (arith, e, more)), ne_eqb pfn 4 (λ e. omega (arith, e, more)), ne_eqb pfn 5 (λ e. omega (arith, e, more))) refl

pub is_table : (n : ℕ) (contents : ℕ → List ℕ) (pfn level : ℕ) → 7 < n → level_of (exercise_type pfn) ≡ Some level → NamesFrames n (exercise_page n contents pfn)
is_table n contents zero level many has = cc
is_table n contents (suc zero) level many has = cc
is_table n contents (suc (suc zero)) level many has = record { count = 1; first = 3; is = refl; inside = λ slot lt. omega arith }
is_table n contents (suc (suc (suc zero))) level many has = record { count = 1; first = 4; is = refl; inside = λ slot lt. omega arith }
is_table n contents (suc (suc (suc (suc zero)))) level many has = record { count = 1; first = 5; is = refl; inside = λ slot lt. omega arith }
is_table n contents (suc (suc (suc (suc (suc zero))))) level many has = record { count = min (data_count n) 512; first = first_data n; is = refl; inside = data_inside n }
is_table n contents (suc (suc (suc (suc (suc (suc k)))))) level many has =
    let no : None ≡ Some level = sym (ap level_of (no_table (suc (suc (suc (suc (suc (suc k)))))) (omega arith))) ∙ has in cc
