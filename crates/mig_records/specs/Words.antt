-- The frame words of a PAGE_DATA record (libxc migration stream, "PAGE_DATA").
use Rattle.std.specs.Prelude.{◌≡◌, ◌<◌, ℕ, ◌+◌, ◌*◌, Bool, true, false, List, length, map, ◌&&◌, nat_lt, nat_le, count_by, slice_index}
use Rattle.mig_records.specs.Common.{position_or_len, range_with_len, le64, Kind, Pv, Hvm, word_type, word_pfn, word_has_data}

-- the first n words that the bytes spell
abbrev pub words : ℕ → List ℕ → List ℕ
words n bytes = map (λ k. le64 bytes (8 * k)) (range_with_len 0 n)

-- the type in the word is a reserved one, 5 to 8
abbrev pub has_reserved_type : ℕ → Bool
has_reserved_type w = nat_le 5 (word_type w) && nat_le (word_type w) 8

-- a frame number of a PV stream is above the last one that the stream names
abbrev pub is_outside : Kind → ℕ → ℕ → Bool
is_outside Pv top pfn = nat_lt top pfn
is_outside Hvm top pfn = false

abbrev pub names_outside : Kind → ℕ → ℕ → Bool
names_outside kind top w = is_outside kind top (word_pfn w)

-- the place of the first word that passes the test, and that word
abbrev pub first_place : (ℕ → Bool) → List ℕ → ℕ
first_place test ws = position_or_len test ws

abbrev pub first_word : (ℕ → Bool) → List ℕ → ℕ
first_word test ws = slice_index ws (first_place test ws)

-- the word at this place passes the test, and none before it does
pub record IsFirst (test : ℕ → Bool) (ws : List ℕ) (place : ℕ) : Type 0 where
  pub within : place < length ws
  pub passes : test (slice_index ws place) ≡ true
  pub none_before : (k : ℕ) → k < place → test (slice_index ws k) ≡ false

-- the length of a body with these words: a front of 8 bytes, the words, and a page for each word whose type has data
abbrev pub data_len_of : List ℕ → ℕ
data_len_of ws = 8 + 8 * length ws + 4096 * count_by word_has_data ws
