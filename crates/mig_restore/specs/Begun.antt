-- What stays of a guest where the pages of a PAGE_DATA end with an error.
use Rattle.std.specs.Prelude.{◌≡◌, ℕ, List, ◌++◌, map}
use Rattle.mig_restore.specs.Common.{GuestOf, PageType, type_in_word, put_entries_by, FrameEntry, word_pfn}
use Rattle.mig_restore.specs.Kept.{EntryStep}

-- the frame number and the type of an entry, and of a word
abbrev pub entry_name : FrameEntry → ℕ × PageType
entry_name e = (e.pfn, e.type)

abbrev pub word_name : ℕ → ℕ × PageType
word_name w = (word_pfn w, type_in_word w)

-- an entry is put for each of these words, with its frame number and its type, and all else is as it was
pub record AreEntriesSet (put : EntryStep) (before after : GuestOf) (words : List ℕ) : Type 0 where
  pub entries : List FrameEntry
  pub named : map entry_name entries ≡ map word_name words
  pub set : after ≡ record before { frames = put_entries_by put before.kind before.frames entries }

-- so it is for the first of these words, so many as it may be, and for no others
pub record AreEntriesBegun (put : EntryStep) (before after : GuestOf) (all : List ℕ) : Type 0 where
  pub words : List ℕ
  pub rest : List ℕ
  pub whole : words ++ rest ≡ all
  pub set : AreEntriesSet put before after words
