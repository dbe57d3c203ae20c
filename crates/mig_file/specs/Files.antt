-- A file that is read by place, and what is left of it behind a place.
use Rattle.std.specs.Prelude.{◌≡◌, ◌+◌, ◌≤◌, ◌<◌, ℕ, List, length, take, drop, Contains}
use Rattle.std.specs.Option.{option_map}
use Rattle.std.specs.declared.option.Option.{Option}
use Rattle.mig_file.specs.declared.source.FileSource.{FileSource}

-- these bytes stand at this place of the file
abbrev pub IsThere : List ℕ → ℕ → List ℕ → Type 0
IsThere all at bytes = (at + length bytes ≤ length all) × (take (length bytes) (drop at all) ≡ bytes)

-- the bytes from a place on, where the file tells them
abbrev pub left_at : Option (List ℕ) → ℕ → Option (List ℕ)
left_at file at = option_map (drop at) file

-- those of a file that is read on, and how many of its reads failed
abbrev pub left_in : {P : Type 0} → (P → Option (List ℕ)) → FileSource P → Option (List ℕ)
left_in bytes s = left_at (bytes s.file.now) s.at

abbrev pub failed_in : {P : Type 0} → FileSource P → ℕ
failed_in s = s.faults

-- a file in memory: its bytes, and the places at which it can't be read
pub record FileState : Type 0 where
  pub bytes : List ℕ
  pub bad : List ℕ

-- one of so many bytes from a place on can't be read
abbrev pub MeetsBad : List ℕ → ℕ → ℕ → Type 0
MeetsBad bad at len = (place : ℕ) × Contains bad place × (at ≤ place) × (place < at + len)
