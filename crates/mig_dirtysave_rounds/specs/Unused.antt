-- What stands ready for a save.
use Rattle.std.specs.Prelude.{◌≡◌, ◌+◌, ◌/◌, ◌≤◌, ℕ, List, [], length, Option}
use Rattle.mig_dirtysave_rounds.specs.Common.{PageType, most_saved_width, FrameTold, all_below, pfns_of_words}
use Rattle.mig_dirtysave_rounds.specs.Current.{notes_of, no_notes}

-- nothing is held, every PFN is to be read, and nothing is noted of any; a set of them fits into each row of words
pub record IsUnused (batch : List FrameTold) (set deferred : List ℕ) (types : List (Option PageType)) (log : List ℕ) : Type 0 where
  pub empty : batch ≡ []
  pub all : pfns_of_words set ≡ all_below (length types)
  pub none : notes_of deferred types ≡ no_notes
  pub narrow : length types ≤ most_saved_width
  pub words : length set ≡ (length types + 63) / 64
  pub wide : length deferred ≡ length set
  pub spare : length log ≡ length set
