-- The tables of causes of a libxl stream around its image: they are what is judged, and in order; and how long a store becomes.
use Rattle.mig_refusals.proofs.Common.{◌<◌, ◌⊎◌, inl, inr, Bool, false, cond, nat_eq, nat_le, ◌||◌, eqb-false, leb-false, lt-leb, ne_eqb, false≢true, Kind, Pv, Hvm, ◌≡◌, ℕ, List, [], ◌∷◌, ◌++◌, drop, true, Option, Some, None, refl, sym, ap, ◌∙◌, Cause, LibxlRecord, join, fault_of_libxl_head, fault_of_libxl_fields, fault_of_order, fault_of_pairs, fault_of_context, emulators_of, spelled_with, emulator_key, pairs_in, le32, most_pairs, BadEmulator, TooManyPairs, EmulatorIndex, option_or, number_of_cause, allows_length, is_pv, is_pv_kind, ImageOf, length, flat_map, Test, computed, first_named, is_ascending, append_named, computed_is, field_rows, order_rows, PairMap, put_pairs, text_of_map, store_at, head_causes, pairs_causes, context_causes, AreMerged, pairs_with, StoresAreMerged, WrapperCausesAscend, WrapperTestsSay}
use Rattle.mig_refusals.proofs.Tests.{is_one, one_of}
use Rattle.mig_bytes_form.specs.Tests.Test.{Less, AtMost}
use Rattle.mig_headers.specs.Pairs.{Pair, text_of_pair, texts_in}
use Rattle.mig_policy.specs.PairFaults.{bad_key_at, first_of, pairs_fault, torn_at}
use Rattle.mig_policy.proofs.LastValues.{map_pairs, map_pairs_rise, map_pairs_values, one_text}
use Rattle.mig_libxl_form.proofs.EmulatorMeaning.{last_value_with}

-- ---- what is judged

pub head_named : (records : List LibxlRecord) (type len : ℕ) → first_named (head_causes records type len) ≡ fault_of_libxl_head records type len
unfolding fault_of_libxl_fields fault_of_order
head_named records type len = sym (join (field_rows type len) (order_rows records type))

-- the causes behind those of the text
abbrev others : List LibxlRecord → List ℕ → List (Test × Cause)
others records body = (AtMost 3 (le32 body 0), BadEmulator (le32 body 0)) ∷ (Less most_pairs (spelled_with (emulators_of records) (emulator_key 258 body) (pairs_in (drop 8 body))), TooManyPairs) ∷ (AtMost 256 (le32 body 4), EmulatorIndex (le32 body 4)) ∷ []

pub pairs_named : (records : List LibxlRecord) (body : List ℕ) → first_named (pairs_causes records body) ≡ fault_of_pairs (emulators_of records) body
unfolding fault_of_pairs
pairs_named records body = append_named (computed (pairs_fault (drop 8 body))) (others records body) ∙ ap (λ o. option_or o (first_named (others records body))) (computed_is (pairs_fault (drop 8 body)))

pub context_named : (body : List ℕ) → first_named (context_causes body) ≡ fault_of_context body
unfolding fault_of_context
context_named body = refl

-- ---- the order of the tables

pub ascend : WrapperCausesAscend
unfolding pairs_fault
ascend = record { in_header = λ _. refl; in_head = λ _ _ _. refl; in_pairs = λ records body. by records body (torn_at false 0 (texts_in (drop 8 body))) (bad_key_at 0 (texts_in (drop 8 body))); in_context = λ _. refl }
  where
    by : (records : List LibxlRecord) (body : List ℕ) (torn bad_key : Option ℕ) → is_ascending number_of_cause (computed (first_of torn bad_key) ++ others records body) ≡ true
    by records body (Some place) bad_key = refl
    by records body None (Some place) = refl
    by records body None None = refl

-- ---- how long a store becomes

module _ (records : List LibxlRecord) (body : List ℕ) where
  -- the store that the body names, with its pairs
  abbrev store : PairMap
  store = put_pairs (store_at (emulators_of records).stores (emulator_key 258 body)) (pairs_in (drop 8 body))

  merged_pairs : AreMerged (pairs_with records body) (map_pairs store)
  merged_pairs = record { rising = map_pairs_rise store; values = λ k. map_pairs_values store k ∙ last_value_with records (emulator_key 258 body) (pairs_in (drop 8 body)) k }

  one_length : (pairs : List Pair) → AreMerged (pairs_with records body) pairs → length (flat_map text_of_pair pairs) ≡ length (text_of_map store)
  one_length pairs are = ap length (one_text store pairs are.rising (λ k. are.values k ∙ sym (last_value_with records (emulator_key 258 body) (pairs_in (drop 8 body)) k)))

pub stores_are_merged : StoresAreMerged
stores_are_merged = record { length_is = one_length; some = λ records body. (map_pairs (store records body), merged_pairs records body) }

-- ---- what truth values say

Disallowed : ℕ → ℕ → Type 0
Disallowed type len = (((type ≡ 0) ⊎ (type ≡ 1)) × (len ≡ 0 → ⊥)) ⊎ (((type ≡ 2) ⊎ (type ≡ 3)) × (len < 8))

disallowed : (type len : ℕ) → allows_length type len ≡ false → Disallowed type len
unfolding Disallowed
disallowed type len h = by (nat_eq type 0 || nat_eq type 1) (nat_eq type 2 || nat_eq type 3) refl refl h
  where
    by : (a b : Bool) → (nat_eq type 0 || nat_eq type 1) ≡ a → (nat_eq type 2 || nat_eq type 3) ≡ b → cond a (nat_eq len 0) (cond b (nat_le 8 len) true) ≡ false → Disallowed type len
    by true b first second fails = inl (one_of type 0 1 first, eqb-false len 0 fails)
    by false true first second fails = inr (one_of type 2 3 second, leb-false 8 len fails)
    by false false first second fails = absurd (false≢true (sym fails))

is_disallowed : (type len : ℕ) → Disallowed type len → allows_length type len ≡ false
unfolding Disallowed
is_disallowed type len (inl (is, some)) = ap (λ b. cond b (nat_eq len 0) (cond (nat_eq type 2 || nat_eq type 3) (nat_le 8 len) true)) (is_one type 0 1 is) ∙ ne_eqb len 0 some
is_disallowed type len (inr (inl is, short)) = rw is (lt-leb _ _ short)
is_disallowed type len (inr (inr is, short)) = rw is (lt-leb _ _ short)

pv_kind : (kind : Kind) → is_pv_kind kind ≡ true → kind ≡ Pv
pv_kind Pv is = refl
pv_kind Hvm is = absurd (false≢true is)

pv_image : (image : Option ImageOf) → is_pv image ≡ true → (i : ImageOf) × (image ≡ Some i) × (i.opening.kind ≡ Pv)
pv_image None is = absurd (false≢true is)
pv_image (Some i) is = (i, refl, pv_kind i.opening.kind is)

pub tests_say : WrapperTestsSay
unfolding Disallowed
tests_say = record { length_is = λ type len. (disallowed type len, is_disallowed type len); of_pv = λ image. (pv_image image, λ (i, is, kind). ap is_pv is ∙ ap is_pv_kind kind) }
