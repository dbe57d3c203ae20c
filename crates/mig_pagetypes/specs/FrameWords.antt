-- The frame words of PAGE_DATA records.
use Rattle.std.specs.Prelude.{ℕ, ◌+◌, ◌-◌, ◌*◌, ◌/◌, ◌%◌, ◌^◌, Bool, false, Option, Some, None, Result, Ok, Err}
use Rattle.mig_pagetypes.specs.declared.page_type.PageType.{PageType}
use Rattle.mig_pagetypes.specs.declared.frame_word.FrameWord.{FrameWord}
use Rattle.mig_pagetypes.specs.PageTypes.{number_of, type_of, type_has_data}

-- the type number in bits 63 to 60
abbrev pub word_type : ℕ → ℕ
word_type w = w / 2 ^ 60

-- the frame number in bits 51 to 0
abbrev pub word_pfn : ℕ → ℕ
word_pfn w = w % 2 ^ 52

-- the word with bits 59 to 52 cleared
abbrev pub without_ignored : ℕ → ℕ
without_ignored w = w - w / 2 ^ 52 % 2 ^ 8 * 2 ^ 52

-- the frame number with the type that its number n names, or n where no type has it
abbrev pub frame_of : ℕ → ℕ → Option PageType → Result FrameWord ℕ
frame_of pfn n None = Err n
frame_of pfn n (Some t) = Ok (record { pfn = pfn; kind = t })

-- what a word says
abbrev pub frame_word : ℕ → Result FrameWord ℕ
frame_word w = frame_of (word_pfn w) (word_type w) (type_of (word_type w))

-- the word that says so, its ignored bits zero
abbrev pub word_of : FrameWord → ℕ
word_of f = number_of f.kind * 2 ^ 60 + f.pfn

abbrev pub some_has_data : Option PageType → Bool
some_has_data None = false
some_has_data (Some t) = type_has_data t

-- whether a page comes with the word's frame
abbrev pub word_has_data : ℕ → Bool
word_has_data w = some_has_data (type_of (word_type w))
