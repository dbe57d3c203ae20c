-- What is wrong with a part of a record, as rows of a test and a cause that are tried in order.
use Rattle.std.specs.Prelude.{ℕ, ◌+◌, ◌*◌, Bool, true, List, [], ◌∷◌, Option, Some, None, ◌==◌, not, nat_lt}
use Rattle.mig_records.specs.Common.{list_any, Cause, BodyTooLong, BadLength, NoPages, BadPageType, PfnOutside, Kind, RecordType, record_row_of, type_of_number, most_body, first_fault, word_type, word_pfn}
use Rattle.mig_records.specs.Words.{has_reserved_type, names_outside, first_place, first_word}

-- a body of more than most_body bytes
abbrev pub long_rows : ℕ → List (Bool × Cause)
long_rows len = (nat_lt most_body len, BodyTooLong len) ∷ []

-- the row of a known type allows this length; nothing is asked of optional and unknown types
abbrev pub type_allows : Option RecordType → ℕ → Bool
type_allows None len = true
type_allows (Some type) len = (record_row_of type).allows len

-- a length that the type's row doesn't allow
abbrev pub length_rows : ℕ → ℕ → List (Bool × Cause)
length_rows type len = (not (type_allows (type_of_number type) len), BadLength len) ∷ []

-- the count of words in a PAGE_DATA's front: they don't fit in a body of this length, or there are none
abbrev pub count_rows : ℕ → ℕ → List (Bool × Cause)
count_rows len count =
    (nat_lt len (8 + 8 * count), BadLength len)
    ∷ (count == 0, NoPages)
    ∷ []

-- the words of a PAGE_DATA: the first that has a reserved type, then the first that names a frame outside the guest
abbrev pub word_rows : Kind → ℕ → List ℕ → List (Bool × Cause)
word_rows kind top ws = (
  list_any has_reserved_type ws,
  BadPageType (first_place has_reserved_type ws) (word_type (first_word has_reserved_type ws)),
)
    ∷ (
      list_any (names_outside kind top) ws,
      PfnOutside (first_place (names_outside kind top) ws) (word_pfn (first_word (names_outside kind top) ws)),
    )
    ∷ []

abbrev pub fault_of_long : ℕ → Option Cause
fault_of_long len = first_fault (long_rows len)

abbrev pub fault_of_length : ℕ → ℕ → Option Cause
fault_of_length type len = first_fault (length_rows type len)

abbrev pub fault_of_count : ℕ → ℕ → Option Cause
fault_of_count len count = first_fault (count_rows len count)

abbrev pub fault_of_words : Kind → ℕ → List ℕ → Option Cause
fault_of_words kind top ws = first_fault (word_rows kind top ws)
