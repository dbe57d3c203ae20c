-- The words of a batch by what each of them says.
use Rattle.std.specs.Prelude.{⊤, ◌≡◌, ◌↔◌, ℕ, List, [], ◌∷◌, None}
use Rattle.mig_legacy.specs.Common.{All, word_of, legacy_word}
use Rattle.mig_pagetypes.specs.declared.frame_word.FrameWord.{FrameWord}
use Rattle.mig_pagetypes.specs.declared.legacy_word.LegacyWord.{LegacyWord}
use Rattle.mig_pagetypes.specs.declared.legacy_word.LegacyWord.TheVariants.{Placeholder, Word, BadType, High}
use Rattle.mig_legacy.specs.Batches.{fault_of_batch, page_data_words_of}

-- a frame is said, or that there is none
abbrev pub SaysFrame : LegacyWord → Type 0
SaysFrame Placeholder = ⊤
SaysFrame (Word f) = ⊤
SaysFrame (BadType n) = ⊥
SaysFrame High = ⊥

-- A batch has no fault exactly where each word says a frame, or that there is none. For a frame stands the word of a
-- PAGE_DATA that says the same frame, and for none no word.
pub record WordsSayFrames : Type 0 where
  pub faultless : (ws : List ℕ) → (fault_of_batch ws ≡ None) ↔ All (λ w. SaysFrame (legacy_word w)) ws
  pub frame : (w : ℕ) (f : FrameWord) → legacy_word w ≡ Word f → page_data_words_of w ≡ word_of f ∷ []
  pub none : (w : ℕ) → legacy_word w ≡ Placeholder → page_data_words_of w ≡ []
