-- Parts of a legacy stream: how they are spelled, and that a length and as many bytes are judged one after the other.
use Rattle.mig_legacy.proofs.Common.{◌≡◌, ℕ, ◌<◌, ◌≤◌, Bool, true, false, List, ◌∷◌, [], length, Option, Some, Result, Ok, Err, inl, inr, refl, sym, ap, subst, ◌∙◌, arith, append-nil, le32, Judged, ◌>>=◌, AgreesWithJudging, Stop, stopped, then_reads, LegacyCause, Truncated, BadToolstack, TooManyPairs, toolstack_fault, option_or, option_map, judged_as, ◌>>>◌, SpelledAs, nothing, one_part, Given, Test, Less, computed, first_named, NoneHolds, said_form, length_causes, length_form, counted_form, toolstack_causes, most_pairs, spelled_with, EmulatorsOf, store_key, pairs_of_toolstack, IsCounted, then_judged, append_named, computed_is, cases_eq, cases_lt, IsErrAnd}

-- ---- what doesn't hold

pub not_less : (a b : ℕ) → (a < b → ⊥) → b ≤ a
not_less a b never = elim (cases_lt a b) [ inl less ↦ absurd (never less) | inr other ↦ other ]

pub not_most : (a b : ℕ) → (a ≤ b → ⊥) → b < a
not_most a b never = elim (cases_lt b a) [ inl less ↦ less | inr other ↦ absurd (never other) ]

pub not_other : (a b : ℕ) → ((a ≡ b → ⊥) → ⊥) → a ≡ b
not_other a b never = elim (cases_eq a b) [ inl same ↦ same | inr other ↦ absurd (never other) ]

pub not_untrue : (b : Bool) → ((b ≡ true → ⊥) → ⊥) → b ≡ true
not_untrue true never = refl
not_untrue false never = absurd (never (λ e. cc))

-- ---- so many bytes

module _ {X : Type 0} (n : ℕ) (rows : List ℕ → List (Test × LegacyCause)) (says : List ℕ → X) where
  pub said_spelled : (bytes : List ℕ) → length bytes ≡ n → NoneHolds (rows bytes) → SpelledAs (said_form Truncated n rows says) bytes (says bytes)
  said_spelled bytes size none =
      subst (λ l. SpelledAs (said_form Truncated n rows says) l (says bytes)) (append-nil bytes) (one_part n Truncated rows (λ b. Given (says b)) bytes [] (says bytes) size none (nothing (says bytes)))

  pub spelled_said : (bytes : List ℕ) (x : X) → SpelledAs (said_form Truncated n rows says) bytes x → (length bytes ≡ n) × NoneHolds (rows bytes) × (says bytes ≡ x)
  spelled_said _ _ (one_part _ _ _ _ bytes _ _ size none (nothing _)) = subst (λ l. (length l ≡ n) × NoneHolds (rows l) × (says l ≡ says bytes)) (sym (append-nil bytes)) (size, none, refl)

-- ---- a length, and as many bytes

pub record Counted {X : Type 0} (most : ℕ) (rows : List ℕ → List (Test × LegacyCause)) (says : List ℕ → X) (text : List ℕ) (x : X) : Type 0 where
  pub bytes : List ℕ
  pub is : IsCounted most text bytes
  pub fine : NoneHolds (rows bytes)
  pub value : says bytes ≡ x

module _ {X : Type 0} (most : ℕ) (rows : List ℕ → List (Test × LegacyCause)) (says : List ℕ → X) where
  -- what stands behind the length
  abbrev pub behind_length : ℕ × List ℕ → Judged LegacyCause X
  behind_length len = judged_as (said_form Truncated len.0 rows says) len.1

  pub counted_is : (i : List ℕ) → judged_as (counted_form most rows says) i ≡ (judged_as (length_form most) i >>= behind_length)
  unfolding ◌>>>◌
  counted_is i = then_judged (λ len. said_form Truncated len rows says) (length_form most) i

  pub spelled_counted : (text : List ℕ) (x : X) → SpelledAs (counted_form most rows says) text x → Counted most rows says text x
  spelled_counted _ x (one_part _ _ _ _ front bytes _ four small behind) =
      let (size, fine, value) = spelled_said (le32 front 0) rows says bytes x behind in
      record { bytes = bytes; is = record { front = front; whole = refl; front_len = four; len = sym size; small = subst (λ m. m ≤ most) (sym size) (not_less most (le32 front 0) small.0) }; fine = fine; value = value }

  pub counted_spelled : (text bytes : List ℕ) → IsCounted most text bytes → NoneHolds (rows bytes) → SpelledAs (counted_form most rows says) text (says bytes)
  counted_spelled text bytes is fine =
      let small : NoneHolds (length_causes most is.front) = (λ (less : most < le32 is.front 0). let fits = is.small in let len = is.len in omega (arith, less, fits, len), tt) in
      subst (λ l. SpelledAs (counted_form most rows says) l (says bytes)) (sym is.whole)
      (one_part 4 Truncated (length_causes most) (λ front. said_form Truncated (le32 front 0) rows says) is.front bytes (says bytes) is.front_len small (said_spelled (le32 is.front 0) rows says bytes (sym is.len) fine))

-- as a reader takes it
module _ {X V : Type 0} (Q : V → X → Type 0) (most : ℕ) (rows : List ℕ → List (Test × LegacyCause)) (says : List ℕ → X) where
  pub counted_stops : (a b : Option (List ℕ)) (e : Stop LegacyCause) (r : Result V (Stop LegacyCause)) → IsErrAnd r (λ d. d ≡ e) → AgreesWithJudging {X = ℕ} (λ len n. n ≡ len) a b (judged_as (length_form most)) (Err e) → AgreesWithJudging Q a b (judged_as (counted_form most rows says)) r
  counted_stops a b e r is told = stopped (λ len n. n ≡ len) Q a b (judged_as (length_form most)) (judged_as (counted_form most rows says)) (behind_length most rows says) e r (counted_is most rows says) is told

  pub counted_reads : (a b d : Option (List ℕ)) (len : ℕ) (r : Result V (Stop LegacyCause)) → AgreesWithJudging {X = ℕ} (λ len n. n ≡ len) a b (judged_as (length_form most)) (Ok len) → AgreesWithJudging Q b d (judged_as (said_form Truncated len rows says)) r → AgreesWithJudging Q a d (judged_as (counted_form most rows says)) r
  counted_reads a b d len r told read =
      then_reads (λ len n. n ≡ len) Q a b d (judged_as (length_form most)) (judged_as (counted_form most rows says)) (behind_length most rows says) len r (counted_is most rows says) told
      (λ n is. subst (λ m. AgreesWithJudging Q b d (λ i. behind_length most rows says (m, i)) r) (sym is) read)

-- ---- the data of a toolstack

module _ (e : EmulatorsOf) (body : List ℕ) where
  abbrev pub too_many : List (Test × LegacyCause)
  too_many = (Less most_pairs (spelled_with e store_key (pairs_of_toolstack body)), TooManyPairs) ∷ []

  pub toolstack_named : first_named (toolstack_causes e body) ≡ option_or (option_map BadToolstack (toolstack_fault body)) (first_named too_many)
  toolstack_named = append_named (computed (option_map BadToolstack (toolstack_fault body))) too_many ∙ ap (λ o. option_or o (first_named too_many)) (computed_is (option_map BadToolstack (toolstack_fault body)))

  pub toolstack_wrong : (offset : ℕ) → toolstack_fault body ≡ Some offset → first_named (toolstack_causes e body) ≡ Some (BadToolstack offset)
  toolstack_wrong offset is = toolstack_named ∙ rw is refl
