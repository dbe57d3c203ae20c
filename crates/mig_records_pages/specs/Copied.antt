-- Frames as a writer takes them, whose pages may have to be got from elsewhere first, and what writing them comes to.
use Rattle.std.specs.Prelude.{◌≡◌, ◌≤◌, ℕ, ◌*◌, Bool, true, List, ◌∷◌, length, Option, Result, Ok, Err}
use Rattle.mig_bytes.specs.Faults.{Rose}
use Rattle.mig_pagetypes.specs.declared.frame_word.FrameWord.{FrameWord}
use Rattle.mig_records_pages.specs.Common.{Appends, AppendsPart, FrameOf}
use Rattle.mig_records_pages.specs.PageData.{Frame, page_in, most_entries}
use Rattle.mig_records_pages.specs.declared.copy_failed.CopyFailed.{CopyFailed}
use Rattle.mig_records_pages.specs.declared.copy_failed.CopyFailed.TheVariants.{Read, Write}

-- the first of these frames: its word, how many pages come with it, which is 0 or 1, and the frames behind it
pub record IsFirstFrame (fs : List Frame) (word : FrameWord) (pages : ℕ) (behind : List Frame) : Type 0 where
  pub frame : FrameOf
  pub type : frame.type ≡ word.kind
  pub size : length (page_in (word.pfn, frame)) ≡ 4096 * pages
  pub few : pages ≤ 1
  pub is : fs ≡ (word.pfn, frame) ∷ behind

-- a buffer has room for a page, and for no more than a record may have
pub record IsPageBuffer (buffer : List ℕ) : Type 0 where
  pub some : 4096 ≤ length buffer
  pub most : length buffer ≤ 4096 * most_entries

-- all of the text was appended; after an error some first bytes of it, but not all
abbrev pub Copies : {X E : Type 0} → List ℕ → Option (List ℕ) → Option (List ℕ) → Result X E → Type 0
Copies text old new (Ok x) = Appends old new text
Copies text old new (Err e) = AppendsPart old new text

-- a write failed only where the count of the sink rose, and else it stands; a page couldn't be got only where that may be
abbrev pub CopyHasCause : {X : Type 0} → ℕ → ℕ → Bool → Result X CopyFailed → Type 0
CopyHasCause before now fails (Ok x) = now ≡ before
CopyHasCause before now fails (Err Write) = (before ≤ now) × Rose before now
CopyHasCause before now fails (Err Read) = (now ≡ before) × (fails ≡ true)
