-- The causes that are computed in a batch, in the data of a toolstack and in a context stand there in words; and tables of causes are in order.
use Rattle.mig_refusals.proofs.Common.{cond, not, sent, Hvm, common_steps, signature, pairs_of_toolstack, ◌++◌, Names, is_named, ◌≡◌, ◌⊎◌, inl, inr, ℕ, ◌<◌, ◌≤◌, List, [], ◌∷◌, Bool, true, false, Option, Some, None, Result, Ok, Err, refl, sym, ap, subst, arith, and_from, and_parts, both_ways, cases_order, le-leb, leb-true, none-some, same_Some, slice_index, list_any, first_fault, LegacyCause, LegacyChunk, number_of_legacy_cause, option_map, IsEarlier, IsTriedFirst, scan, ContextFault, WordHigh, BadToolstack, legacy_type, first_place, first_word, none_pass, place_is_first, nat_lt, ◌^◌, EmulatorsOf, ChunkKind, BatchTooLarge, negative, negative_causes, place_causes, most_pairs, spelled_with, is_reserved, is_high, fault_of_batch, toolstack_fault, context_fault, store_key, LegacyBadPageType, LegacyBadContext, LegacyTooManyPairs, has_value, image_records, WordsHave, LegacyContextHas, ComputedCausesStand, LegacyCausesAscend, LegacyTestsSay, word_place, computed, is_ascending}
use Rattle.std.proofs.lemmas.Slice.Eq.{bytes_eq-Decides}
use Rattle.std.specs.FinMap as maps
use Rattle.mig_headers.proofs.FirstCauses as firsts
use Rattle.mig_refusals.proofs.ContextEntries.{found_has, reached_chain}
use Rattle.mig_refusals.proofs.LibxcCauses.{scan_finds, scanned}
use Rattle.mig_bytes_form.specs.Tests.Test.{Less}
use Rattle.mig_refusals.specs.Legacy.WordsHave.{reserved_type, not_zero}
use Rattle.mig_refusals.specs.Legacy.LegacyContextHas.{wrong_entry}
use Rattle.mig_refusals.proofs.LegacyToolstacks.{field_found, found_field}

-- what a computed fault is of the causes that stand
abbrev Named : (LegacyCause → Type 0) → Option LegacyCause → Type 0
Named = firsts.Named number_of_legacy_cause word_place

-- a cause that is tried before another, or is that one
abbrev Leads : LegacyCause → LegacyCause → Type 0
Leads c d = IsEarlier number_of_legacy_cause word_place c d ⊎ (d ≡ c)

-- ---- the words of a batch

module _ (ws : List ℕ) where
  abbrev type_at : ℕ → ℕ
  type_at place = legacy_type (slice_index ws place)

  reserved_passes : (place : ℕ) → 5 ≤ type_at place → type_at place ≤ 8 → is_reserved (slice_index ws place) ≡ true
  reserved_passes place low high = and_from _ _ (le-leb _ _ low) (le-leb _ _ high)

  -- one cause at several places is tried first at the least
  least : (say : ℕ → LegacyCause) (k place : ℕ) → (k < place → IsEarlier number_of_legacy_cause word_place (say k) (say place)) → (place < k → ⊥) → Leads (say k) (say place)
  least say k place before never = elim (cases_order k place) [ inl e ↦ inr (ap say (sym e)) | inr other ↦ elim other [ inl below ↦ inl (before below) | inr above ↦ absurd (never above) ] ]

  words_by : (a b : Bool) → list_any is_reserved ws ≡ a → list_any is_high ws ≡ b
      → Named (WordsHave ws) (first_fault ((a, LegacyBadPageType (first_place is_reserved ws) (legacy_type (first_word is_reserved ws))) ∷ (b, WordHigh (first_place is_high ws)) ∷ []))
  words_by true b any some =
      let f = place_is_first is_reserved ws any in
      let t = and_parts _ _ f.passes in
      record { holds = (reserved_type (first_place is_reserved ws) f.within (leb-true _ _ t.0) (leb-true _ _ t.1), others) }
    where
      others : (d : LegacyCause) → WordsHave ws d → Leads (LegacyBadPageType (first_place is_reserved ws) (type_at (first_place is_reserved ws))) d
      others _ (not_zero place less high) = inl (inl (omega arith))
      others _ (reserved_type place less low high) =
          least (λ k. LegacyBadPageType k (type_at k)) (first_place is_reserved ws) place (λ below. inr (refl, below)) (λ above. both_ways _ ((place_is_first is_reserved ws any).none_before place above) (reserved_passes place low high))
  words_by false true none any = let f = place_is_first is_high ws any in record { holds = (not_zero (first_place is_high ws) f.within (leb-true _ _ f.passes), others) }
    where
      others : (d : LegacyCause) → WordsHave ws d → Leads (WordHigh (first_place is_high ws)) d
      others _ (reserved_type place less low high) = absurd (both_ways _ (none_pass is_reserved ws none place 0 less) (reserved_passes place low high))
      others _ (not_zero place less high) = least WordHigh (first_place is_high ws) place (λ below. inr (refl, below)) (λ above. both_ways _ ((place_is_first is_high ws any).none_before place above) (le-leb _ _ high))
  words_by false false none nowhere = record { holds = never }
    where
      never : (d : LegacyCause) → WordsHave ws d → ⊥
      never _ (reserved_type place less low high) = both_ways _ (none_pass is_reserved ws none place 0 less) (reserved_passes place low high)
      never _ (not_zero place less high) = both_ways _ (none_pass is_high ws nowhere place 0 less) (le-leb _ _ high)

  words_named : Named (WordsHave ws) (fault_of_batch ws)
  words_named = words_by (list_any is_reserved ws) (list_any is_high ws) refl refl

-- ---- a context

module _ (body : List ℕ) where
  context_stands : (c : LegacyCause) (r : Result ℕ ContextFault) → scan body ≡ r → context_fault r ≡ Some c → LegacyContextHas body c
  context_stands c (Ok end) is h = absurd (none-some c h)
  context_stands c (Err fault) is h = let s = scanned body fault is in subst (LegacyContextHas body) (same_Some (LegacyBadContext fault) c h) (wrong_entry s.0 fault (reached_chain body s.0 s.1) (found_has body s.0 fault s.2))

  stands_context : (c : LegacyCause) → LegacyContextHas body c → context_fault (scan body) ≡ Some c
  stands_context _ (wrong_entry p fault chain h) = ap context_fault (sym (scan_finds body p fault chain h))

pub computed_stand : ComputedCausesStand
computed_stand = record {
  batch = λ ws c. (named.computed ws c, named.named ws c);
  toolstack = λ body offset. (found_field body offset, field_found body offset);
  context = λ body c. (context_stands body c (scan body) refl, stands_context body c);
}
  where
    named : Names (λ ws. IsTriedFirst number_of_legacy_cause word_place (WordsHave ws)) fault_of_batch
    named = is_named number_of_legacy_cause word_place WordsHave fault_of_batch words_named

-- ---- the order of the tables

pub ascend : LegacyCausesAscend
ascend = record { in_start = λ _. refl; in_type = λ chunks kind n. half chunks kind n (nat_lt n (2 ^ 31)); in_toolstack = λ e body. by e body (toolstack_fault body) }
  where
    half : (chunks : List LegacyChunk) (kind : ChunkKind) (n : ℕ) (low : Bool) → is_ascending number_of_legacy_cause (cond low ((Less 1024 n, BatchTooLarge n) ∷ []) (negative_causes (negative n)) ++ place_causes chunks kind) ≡ true
    half chunks kind n true = refl
    half chunks kind n false = refl

    by : (e : EmulatorsOf) (body : List ℕ) (o : Option ℕ) → is_ascending number_of_legacy_cause (computed (option_map BadToolstack o) ++ (Less most_pairs (spelled_with e store_key (pairs_of_toolstack body)), LegacyTooManyPairs) ∷ []) ≡ true
    by e body None = refl
    by e body (Some offset) = refl

-- ---- what else is computed

differing : (b d : Bool) → (b ≡ d → ⊥) → cond b (not d) d ≡ true
differing b d h = grind (arith, common_steps, h)

unlike : (b d : Bool) → cond b (not d) d ≡ true → b ≡ d → ⊥
unlike b d h e = grind (arith, common_steps, h, e)

pub tests_say : LegacyTestsSay
tests_say = record {
  unpaired = λ chunks. (unlike (has_value 32 chunks) (has_value 33 chunks), differing (has_value 32 chunks) (has_value 33 chunks));
  frames = λ chunks. maps.len-entries (sent Hvm (image_records chunks)).frames;
  signature_is = λ bytes. bytes_eq-Decides bytes signature;
}
