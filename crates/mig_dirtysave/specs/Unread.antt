-- Bytes that no reader accepts, and what a writer left.
use Rattle.std.specs.Prelude.{◌≡◌, ℕ, List, [], ◌++◌, Option, Some, None, ⊤}
use Rattle.mig_dirtysave.specs.Common.{Appends, GuestOf, Kind, spelled, Record, headers, WroteAll, AcceptedStream}

-- the bytes are no accepted stream, and begin with none
abbrev pub HasNoStream : List ℕ → Type 0
HasNoStream bytes = (guest : GuestOf) (rest : List ℕ) → AcceptedStream bytes guest rest → ⊥

-- where the sink tells its bytes, no front of what was written since the start is an accepted stream
abbrev pub WroteNoStream : Option (List ℕ) → Option (List ℕ) → Type 0
WroteNoStream None now = ⊤
WroteNoStream (Some before) None = ⊤
WroteNoStream (Some before) (Some now) = (text : List ℕ) → now ≡ before ++ text → HasNoStream text

-- the headers of an image, records and END were written since the start
pub record EndedImage (start now : Option (List ℕ)) : Type 0 where
  pub kind : Kind
  pub opened : Option (List ℕ)
  pub ended : Option (List ℕ)
  pub records : List Record
  pub heads : Appends start opened (headers kind)
  pub wrote : WroteAll opened ended records
  pub last : Appends ended now (spelled 0 [])
