-- The words of a batch of pages in a legacy stream (Xen's xg_save_restore.h), and what is wrong with them.
use Rattle.std.specs.Prelude.{◌≡◌, ◌≤◌, ◌<◌, ◌↔◌, ◌⊎◌, ℕ, ◌^◌, Bool, false, List, [], ◌∷◌, length, Option, Some, None, ◌&&◌, ◌==◌, ◌+◌, ◌*◌, nat_le, slice_index, if◌then◌else◌}
use Rattle.mig_legacy.specs.Common.{All, list_any, flat_map, first_fault, LegacyCause, BadPageType, WordHigh, legacy_type, legacy_pfn, placeholder, IsFirst, first_place, first_word}

-- the type in the word is a reserved one, 5 to 8
abbrev pub is_reserved : ℕ → Bool
is_reserved w = nat_le 5 (legacy_type w) && nat_le (legacy_type w) 8

-- bits 63 to 32 aren't all 0
abbrev pub is_high : ℕ → Bool
is_high w = nat_le (2 ^ 32) w

abbrev pub batch_rows : List ℕ → List (Bool × LegacyCause)
batch_rows ws =
    (list_any is_reserved ws, BadPageType (first_place is_reserved ws) (legacy_type (first_word is_reserved ws)))
    ∷ (list_any is_high ws, WordHigh (first_place is_high ws))
    ∷ []

-- the first of these causes that stands, at its least place
abbrev pub fault_of_batch : List ℕ → Option LegacyCause
fault_of_batch ws = first_fault (batch_rows ws)

-- the same in words
abbrev pub IsBatchFault : List ℕ → Option LegacyCause → Type 0
IsBatchFault ws None = All (λ w. (is_reserved w ≡ false) × (is_high w ≡ false)) ws
IsBatchFault ws (Some (BadPageType entry n)) = IsFirst is_reserved ws entry × (n ≡ legacy_type (slice_index ws entry))
IsBatchFault ws (Some (WordHigh entry)) = IsFirst is_high ws entry × All (λ w. is_reserved w ≡ false) ws
IsBatchFault ws (Some _) = ⊥

-- ---- a batch in numbers

-- no page type has the numbers from 5 to 8
abbrev pub IsTyped : ℕ → Type 0
IsTyped w = (legacy_type w < 5) ⊎ (8 < legacy_type w)

-- the first word of 2^32 or more is here
pub record IsFirstHigh (ws : List ℕ) (entry : ℕ) : Type 0 where
  pub within : entry < length ws
  pub high : 2 ^ 32 ≤ slice_index ws entry
  pub before : (k : ℕ) → k < entry → slice_index ws k < 2 ^ 32

-- A batch has no fault exactly where each of its words has a type and is below 2^32. A word is told to be high exactly
-- where it is the first of 2^32 or more, and each word has a type.
pub record BatchesAreJudged (ws : List ℕ) : Type 0 where
  pub faultless : (fault_of_batch ws ≡ None) ↔ All (λ w. IsTyped w × (w < 2 ^ 32)) ws
  pub high : (entry : ℕ) → (fault_of_batch ws ≡ Some (WordHigh entry)) ↔ (All IsTyped ws × IsFirstHigh ws entry)

-- ---- the frames of a batch

-- the word of a PAGE_DATA that names the same frame with the same type
abbrev pub page_data_word : ℕ → ℕ
page_data_word w = legacy_type w * 2 ^ 60 + legacy_pfn w

-- nothing for a placeholder
abbrev pub page_data_words_of : ℕ → List ℕ
page_data_words_of w = if w == placeholder then [] else page_data_word w ∷ []

-- the words of a PAGE_DATA that names the same frames in the same order
abbrev pub page_data_words : List ℕ → List ℕ
page_data_words ws = flat_map page_data_words_of ws
