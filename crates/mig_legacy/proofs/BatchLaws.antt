-- A batch in numbers.
use Rattle.mig_legacy.proofs.Common.{◌^◌, list_any_none, list_any, LegacyCause, first_place, first_word, batch_rows, IsTyped, IsFirstHigh, BatchesAreJudged}
use Rattle.mig_legacy.proofs.ChunkCommon.{◌≡◌, ℕ, ◌<◌, ◌≤◌, Bool, true, false, List, [], ◌∷◌, Option, Some, None, refl, ap, subst, ◌∙◌, arith, common_steps, All, no_fault, rows_fine, BadPageType, WordHigh, legacy_type, IsFirst, place_is_first, none_pass, is_reserved, is_high, fault_of_batch}
use Rattle.mig_headers.specs.Rows.{first_fault}

typed : (w : ℕ) → is_reserved w ≡ false → IsTyped w
typed w h = grind (arith, common_steps)

not_reserved : (w : ℕ) → IsTyped w → is_reserved w ≡ false
not_reserved w h = grind (arith, common_steps)

below : (w : ℕ) → is_high w ≡ false → w < 2 ^ 32
below w h = grind (arith, common_steps)

not_high : (w : ℕ) → w < 2 ^ 32 → is_high w ≡ false
not_high w h = grind (arith, common_steps)

from : (w : ℕ) → is_high w ≡ true → 2 ^ 32 ≤ w
from w h = grind (arith, common_steps)

module _ (ws : List ℕ) where
  all_typed : list_any is_reserved ws ≡ false → All IsTyped ws
  all_typed none k d lt = typed _ (none_pass is_reserved ws none k d lt)

  none_reserved : All IsTyped ws → list_any is_reserved ws ≡ false
  none_reserved all = list_any_none is_reserved ws (λ k d lt. not_reserved _ (all k d lt))

  fine : fault_of_batch ws ≡ None → All (λ w. IsTyped w × (w < 2 ^ 32)) ws
  fine none = let rows = rows_fine (batch_rows ws) none in λ k d lt. (all_typed rows.0 k d lt, below _ (none_pass is_high ws rows.1.0 k d lt))

  no_faults : All (λ w. IsTyped w × (w < 2 ^ 32)) ws → fault_of_batch ws ≡ None
  no_faults all = no_fault (batch_rows ws) (none_reserved (λ k d lt. (all k d lt).0), (list_any_none is_high ws (λ k d lt. not_high _ (all k d lt).1), tt))

  -- the cause by which of the two stand
  abbrev cause : Bool → Bool → Option LegacyCause
  cause a b = first_fault ((a, BadPageType (first_place is_reserved ws) (legacy_type (first_word is_reserved ws))) ∷ (b, WordHigh (first_place is_high ws)) ∷ [])

  first_high : IsFirst is_high ws (first_place is_high ws) → IsFirstHigh ws (first_place is_high ws)
  first_high h = record { within = h.within; high = from _ h.passes; before = λ k lt. below _ (h.none_before k lt) }

  high_by : (entry : ℕ) (a b : Bool) → list_any is_reserved ws ≡ a → list_any is_high ws ≡ b → cause a b ≡ Some (WordHigh entry) → All IsTyped ws × IsFirstHigh ws entry
  high_by entry true b any some is = cc
  high_by entry false true none some is =
      let same : first_place is_high ws ≡ entry = cc in
      (all_typed none, subst (IsFirstHigh ws) same (first_high (place_is_first is_high ws some)))
  high_by entry false false none nowhere is = cc

  one_first : (p q : ℕ) → IsFirst is_high ws p → IsFirstHigh ws q → p ≡ q
  one_first p q a b =
      let above = from _ a.passes in let high = b.high in
      let not_before : p < q → ⊥ = λ lt. let low = b.before p lt in omega (arith, low, above) in
      let not_behind : q < p → ⊥ = λ lt. let low = below _ (a.none_before q lt) in omega (arith, low, high) in
      omega (arith, not_before, not_behind)

  told_by : (entry : ℕ) (b : Bool) → list_any is_reserved ws ≡ false → list_any is_high ws ≡ b → IsFirstHigh ws entry → cause false b ≡ Some (WordHigh entry)
  told_by entry true none some is = ap (λ p. Some (WordHigh p)) (one_first (first_place is_high ws) entry (place_is_first is_high ws some) is)
  told_by entry false none nowhere is = absurd (let low = below _ (none_pass is_high ws nowhere entry 0 is.within) in let high = is.high in omega (arith, low, high))

pub batches_judged : (ws : List ℕ) → BatchesAreJudged ws
batches_judged ws = record {
  faultless = (fine ws, no_faults ws);
  high = λ entry. (
    high_by ws entry (list_any is_reserved ws) (list_any is_high ws) refl refl,
    λ h. let none = none_reserved ws h.0 in ap (λ a. cause ws a (list_any is_high ws)) none ∙ told_by ws entry (list_any is_high ws) none refl h.1,
  );
}
