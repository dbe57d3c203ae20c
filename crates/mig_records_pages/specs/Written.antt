-- What a writer of an image has written since a start: records whole, and perhaps a part of one more. Where the sink
-- doesn't tell its bytes, these words say nothing of bytes.
use Rattle.std.specs.Prelude.{◌≢◌, ℕ, ◌<◌, ◌≤◌, ◌^◌, List, [], ◌∷◌, ◌++◌, length, take, Option, Result, Ok, Err}
use Rattle.mig_records_pages.specs.Common.{AllByRecursion, Appends, WriteFailed, spelled, Record, text_of}

-- a record whose type and length have room in a head, and whose body isn't too long for a reader
pub record IsShortRecord (r : Record) : Type 0 where
  pub type : r.0 < 2 ^ 32
  pub len : length r.1 ≤ 2 ^ 27

-- and it isn't END
pub record IsRecordWithin (r : Record) : Type 0 where
  pub short : IsShortRecord r
  pub no_end : r.0 ≢ 0

abbrev pub AreRecordsWithin : List Record → Type 0
AreRecordsWithin rs = AllByRecursion IsRecordWithin rs

-- exactly these records were written since the start, none of them END
pub record WroteAll (start now : Option (List ℕ)) (rs : List Record) : Type 0 where
  pub appended : Appends start now (text_of rs)
  pub within : AreRecordsWithin rs

-- these records, and some first bytes of one more, END or another, and not all of it; perhaps none
pub record WroteSome (start now : Option (List ℕ)) (rs : List Record) : Type 0 where
  pub next : Record
  pub short : IsShortRecord next
  pub n : ℕ
  pub less : n < length (spelled next.0 next.1)
  pub appended : Appends start now (text_of rs ++ take n (spelled next.0 next.1))
  pub within : AreRecordsWithin rs

-- behind whatever records were written before there is now a part of one more
abbrev pub LeavesPart : Option (List ℕ) → Option (List ℕ) → Type 0
LeavesPart old new = (start : Option (List ℕ)) (rs : List Record) → WroteAll start old rs → WroteSome start new rs

-- a record that was written joins those before it; where the write failed, a part of it is behind them
abbrev pub JoinsRecords : {X : Type 0} → Record → Option (List ℕ) → Option (List ℕ) → Result X WriteFailed → Type 0
JoinsRecords r old new (Ok x) = (start : Option (List ℕ)) (rs : List Record) → WroteAll start old rs → WroteAll start new (rs ++ r ∷ [])
JoinsRecords r old new (Err e) = LeavesPart old new
