-- The body of a PAGE_DATA record (libxc migration stream, "PAGE_DATA"): the words of frames, and their pages behind them.
use Rattle.std.specs.Prelude.{ℕ, List, [], ◌++◌, length, replicate, unwrap_or}
use Rattle.byteorder.specs.Endian.{little_bytes}
use Rattle.std.specs.List.{flat_map}
use Rattle.mig_pagetypes.specs.FrameWords.{word_of}
use Rattle.mig_records_pages.specs.Common.{FrameOf}

-- a frame by its number
abbrev pub Frame : Type 0
Frame = ℕ × FrameOf

abbrev pub frame_word_in : Frame → ℕ
frame_word_in f = word_of (record { pfn = f.0; kind = f.1.type })

abbrev pub words_of : List Frame → List ℕ
words_of fs = flat_map (λ f. little_bytes 8 (frame_word_in f)) fs

-- the page of a frame, where its type has data
abbrev pub page_in : Frame → List ℕ
page_in f = unwrap_or f.1.page []

abbrev pub pages_of : List Frame → List ℕ
pages_of fs = flat_map page_in fs

-- the most entries of a PAGE_DATA record that a writer makes
abbrev pub most_entries : ℕ
most_entries = 1024

-- the body of a PAGE_DATA record: the count, 4 zero bytes, the words, the pages
unfoldable pub body_of : List Frame → List ℕ
body_of fs = little_bytes 4 (length fs) ++ (replicate 4 0 ++ (words_of fs ++ pages_of fs))
