-- The words of a batch of pages in a legacy stream (Xen's xg_save_restore.h): 32 bits of a word say a type and a frame
-- number, and the others are 0.
use Rattle.std.specs.Prelude.{◌≡◌, ◌≤◌, ◌<◌, ℕ, ◌*◌, ◌+◌, ◌/◌, ◌%◌, ◌^◌, Option, Some, None, ◌==◌, nat_le, if◌then◌else◌}
use Rattle.mig_pagetypes.specs.declared.page_type.PageType.{PageType}
use Rattle.mig_pagetypes.specs.declared.frame_word.FrameWord.{FrameWord}
use Rattle.mig_pagetypes.specs.declared.legacy_word.LegacyWord.{LegacyWord}
use Rattle.mig_pagetypes.specs.declared.legacy_word.LegacyWord.TheVariants.{Placeholder, Word, BadType, High}
use Rattle.mig_pagetypes.specs.PageTypes.{number_of, type_of}

-- the type number in bits 31 to 28
abbrev pub legacy_type : ℕ → ℕ
legacy_type w = w / 2 ^ 28 % 16

-- the frame number in bits 27 to 0
abbrev pub legacy_pfn : ℕ → ℕ
legacy_pfn w = w % 2 ^ 28

-- the word that stands for no frame: XTAB, and the frame number 0
abbrev pub placeholder : ℕ
placeholder = 0xF0000000

-- a word of this type, by its value
abbrev pub word_with : ℕ → Option PageType → LegacyWord
word_with w None = BadType (legacy_type w)
word_with w (Some type) = if nat_le (2 ^ 32) w then High else if w == placeholder then Placeholder else Word (record { pfn = legacy_pfn w; kind = type })

-- what a word says; a reserved type is told before bits that have to be 0
abbrev pub legacy_word : ℕ → LegacyWord
legacy_word w = word_with w (type_of (legacy_type w))

-- ---- in words

-- the word that says a frame number with a type
abbrev pub legacy_word_of : FrameWord → ℕ
legacy_word_of f = number_of f.kind * 2 ^ 28 + f.pfn

-- what each answer says of the word
abbrev pub IsSaid : ℕ → LegacyWord → Type 0
IsSaid w Placeholder = w ≡ placeholder
IsSaid w (Word f) = (w ≡ legacy_word_of f) × (f.pfn < 2 ^ 28)
IsSaid w (BadType n) = (legacy_type w ≡ n) × (5 ≤ n) × (n ≤ 8)
IsSaid w High = 2 ^ 32 ≤ w
