-- What the 8 bytes of a record's head say.
use Rattle.std.specs.Prelude.{ℕ, List}
use Rattle.mig_records.specs.Common.{le32}
use Rattle.mig_records.specs.declared.head.RecordHead.{RecordHead}

-- the type and the length of the body, 4 bytes each
abbrev pub head_in : List ℕ → RecordHead
head_in bytes = record { kind = le32 bytes 0; len = le32 bytes 4 }
