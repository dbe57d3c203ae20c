-- What is wrong with bytes that are to be pairs of texts, key NUL value NUL, one pair after another (libxl migration
-- stream, "EMULATOR_XENSTORE_DATA").
use Rattle.std.specs.Prelude.{◌≡◌, ◌⊎◌, ◌<◌, ◌+◌, ◌%◌, ℕ, Bool, true, false, not, List, [], ◌∷◌, ◌++◌, length, Option, Some, None, ◌==◌, nat_lt, ◌||◌, if◌then◌else◌, ◌↔◌}
use Rattle.mig_policy.specs.Common.{All, flat_map, position_or_len, Pair, IsPair, is_key_byte, text_of_pair, texts_in}
use Rattle.mig_headers.specs.declared.fault.Cause.{Cause}
use Rattle.mig_headers.specs.declared.fault.Cause.TheVariants.{BadPairs, BadKey}

-- ---- in words

abbrev pub HasNoZero : List ℕ → Type 0
HasNoZero text = All (λ b. 0 < b) text

-- a text and the zero that ends it
abbrev pub ended : List ℕ → List ℕ
ended text = text ++ 0 ∷ []

-- pairs and nothing else
pub record SpellPairs (bytes : List ℕ) (pairs : List Pair) : Type 0 where
  pub each : All IsPair pairs
  pub spelled : flat_map text_of_pair pairs ≡ bytes

-- behind whole texts, up to here, stands one that no zero ends; or a value should begin here, and nothing is left
pub record IsTornAt (bytes : List ℕ) (place : ℕ) : Type 0 where
  pub texts : List (List ℕ)
  pub rest : List ℕ
  pub each : All HasNoZero texts
  pub open_text : HasNoZero rest
  pub spelled : flat_map ended texts ++ rest ≡ bytes
  pub here : length (flat_map ended texts) ≡ place
  pub torn : (0 < length rest) ⊎ (length texts % 2 ≡ 1)

-- behind whole pairs and the front of a key stands, here, a byte that no key has; or the zero that ends an empty key
pub record IsBadKeyAt (bytes : List ℕ) (place : ℕ) : Type 0 where
  pub pairs : List Pair
  pub front : List ℕ
  pub byte : ℕ
  pub behind : List ℕ
  pub each : All IsPair pairs
  pub fine : All (λ b. is_key_byte b ≡ true) front
  pub bad : is_key_byte byte ≡ false
  pub empty : byte ≡ 0 → front ≡ []
  pub spelled : flat_map text_of_pair pairs ++ (front ++ byte ∷ behind) ≡ bytes
  pub here : length (flat_map text_of_pair pairs) + length front ≡ place

-- the first fault: a text without its end stands before every bad key
abbrev pub IsFirstFault : List ℕ → Option Cause → Type 0
IsFirstFault bytes None = (pairs : List Pair) × SpellPairs bytes pairs
IsFirstFault bytes (Some (BadPairs place)) = IsTornAt bytes place
IsFirstFault bytes (Some (BadKey place)) = IsBadKeyAt bytes place × ((torn : ℕ) → IsTornAt bytes torn → ⊥)
IsFirstFault bytes (Some other) = ⊥

-- ---- the same, computed

-- the texts stand from `at` on, and the last of them has no end; `odd` says that a value is due
abbrev pub torn_at : Bool → ℕ → List (List ℕ) → Option ℕ
torn_at odd at [] = None
torn_at odd at (rest ∷ []) = if odd || nat_lt 0 (length rest) then Some at else None
torn_at odd at (text ∷ next ∷ texts) = torn_at (not odd) (at + length text + 1) (next ∷ texts)

-- how many bytes of a key are allowed, before the first that isn't
abbrev pub fine_len : List ℕ → ℕ
fine_len key = position_or_len (λ b. not (is_key_byte b)) key

-- the keys and values stand from `at` on, and behind the last of them nothing
abbrev pub bad_key_at : ℕ → List (List ℕ) → Option ℕ
bad_key_at at [] = None
bad_key_at at (rest ∷ []) = None
bad_key_at at (key ∷ value ∷ texts) =
    if (length key == 0) || nat_lt (fine_len key) (length key) then Some (at + fine_len key) else bad_key_at (at + length key + length value + 2) texts

abbrev pub first_of : Option ℕ → Option ℕ → Option Cause
first_of (Some place) key = Some (BadPairs place)
first_of None (Some place) = Some (BadKey place)
first_of None None = None

unfoldable pub pairs_fault : List ℕ → Option Cause
pairs_fault bytes = first_of (torn_at false 0 (texts_in bytes)) (bad_key_at 0 (texts_in bytes))

abbrev pub FirstFaultIsComputed : Type 0
FirstFaultIsComputed = (bytes : List ℕ) (fault : Option Cause) → (pairs_fault bytes ≡ fault) ↔ IsFirstFault bytes fault
