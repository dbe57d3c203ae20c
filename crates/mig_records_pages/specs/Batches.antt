-- Batches of entries that were written, each as a PAGE_DATA record, and entries that are held.
use Rattle.std.specs.Prelude.{◌≡◌, ℕ, ◌+◌, ◌<◌, ◌≤◌, Bool, nat_lt, count_by, List, [], ◌∷◌, ◌++◌, length, map, Option, Result, Ok, Err}
use Rattle.mig_records_pages.specs.Common.{AllByRecursion, WriteFailed}
use Rattle.mig_records_pages.specs.PageData.{most_entries}
use Rattle.mig_records_pages.specs.Told.{FrameTold, telling_record, all_told}
use Rattle.mig_records_pages.specs.Written.{WroteAll, WroteSome}

-- exactly the records of these batches were written since the start
pub record BatchesWritten (start now : Option (List ℕ)) (batches : List (List FrameTold)) : Type 0 where
  pub wrote : WroteAll start now (map telling_record batches)

-- the records of these batches, and a part of one record more
pub record BatchesCut (start now : Option (List ℕ)) (batches : List (List FrameTold)) : Type 0 where
  pub wrote : WroteSome start now (map telling_record batches)

-- a batch that was written joins those before it; where the write failed, a part of its record is behind them
abbrev pub JoinsBatches : {X : Type 0} → List FrameTold → Option (List ℕ) → Option (List ℕ) → Result X WriteFailed → Type 0
JoinsBatches ts old new (Ok x) = (start : Option (List ℕ)) (batches : List (List FrameTold)) → BatchesWritten start old batches → BatchesWritten start new (batches ++ ts ∷ [])
JoinsBatches ts old new (Err e) = (start : Option (List ℕ)) (batches : List (List FrameTold)) → BatchesWritten start old batches → BatchesCut start new batches

-- a batch has an entry, and no more than a record may have
pub record FitsBatch (batch : List FrameTold) : Type 0 where
  pub some : 0 < length batch
  pub most : length batch ≤ most_entries

-- fewer entries than a record may have
abbrev pub is_short : List FrameTold → Bool
is_short batch = nat_lt (length batch) most_entries

abbrev pub AreSized : List (List FrameTold) → Type 0
AreSized batches = AllByRecursion FitsBatch batches

-- at most so many of the batches are short
abbrev pub AreFull : ℕ → List (List FrameTold) → Type 0
AreFull flushes batches = count_by is_short batches ≤ flushes

-- ---- entries that are sent one by one

-- These entries were sent since the start, with so many flushes: the first of them stand in whole records that were
-- written, and the rest is held.
pub record IsSent (start now : Option (List ℕ)) (flushes : ℕ) (held sent : List FrameTold) : Type 0 where
  pub batches : List (List FrameTold)
  pub written : BatchesWritten start now batches
  pub sized : AreSized batches
  pub full : AreFull flushes batches
  pub all : sent ≡ all_told batches ++ held

-- Of these entries the first stand in whole records that were written, and nothing else does. The others, and so many more
-- that are to be sent, are at most as many as a record may have.
pub record IsBehind (start now : Option (List ℕ)) (more : ℕ) (sent : List FrameTold) : Type 0 where
  pub batches : List (List FrameTold)
  pub held : List FrameTold
  pub cut : BatchesCut start now batches
  pub all : sent ≡ all_told batches ++ held
  pub few : length held + more ≤ most_entries

-- whatever was sent before, this entry is sent behind it; these were held, and now those are
abbrev pub SendsOn : FrameTold → Option (List ℕ) → Option (List ℕ) → List FrameTold → List FrameTold → Type 0
SendsOn t old new held later = (start : Option (List ℕ)) (flushes : ℕ) (sent : List FrameTold) → IsSent start old flushes held sent → IsSent start new flushes later (sent ++ t ∷ [])

-- whatever was sent before stands in whole records, with one flush more; these were held, and none is now
abbrev pub Flushes : Option (List ℕ) → Option (List ℕ) → List FrameTold → Type 0
Flushes old new held = (start : Option (List ℕ)) (flushes : ℕ) (sent : List FrameTold) → IsSent start old flushes held sent → IsSent start new (flushes + 1) [] sent

-- of whatever was sent before, and so many more, at most as many as a record may have stand in no whole record; these were held
abbrev pub FallsBehind : ℕ → Option (List ℕ) → Option (List ℕ) → List FrameTold → Type 0
FallsBehind more old new held = (start : Option (List ℕ)) (flushes : ℕ) (sent : List FrameTold) → IsSent start old flushes held sent → IsBehind start new more sent
