-- A file behind another, and places that stand within the first.
use Rattle.std.specs.Prelude.{◌≡◌, ◌<◌, ◌≤◌, ◌+◌, ◌-◌, ◌^◌, ℕ, List, ◌++◌, length, Option, Some, None, nat_lt, if◌then◌else◌}
use Rattle.std.specs.FinMap as maps
use Rattle.mig_placed.specs.Common.{ValueMap, cell_mark}

-- told where both files tell their bytes, and where their number has 64 bits
abbrev pub joined_bytes : Option (List ℕ) → Option (List ℕ) → Option (List ℕ)
joined_bytes None second = None
joined_bytes (Some all) None = None
joined_bytes (Some all) (Some more) = if nat_lt (length all + length more) (2 ^ 64) then Some (all ++ more) else None

-- a page at this place, counted from 1, stands within so many bytes
abbrev pub EndsWithin : ℕ → ℕ → Type 0
EndsWithin size place = 0 < place → (place - 1) + 4096 ≤ size

abbrev pub EndAllWithin : ℕ → ValueMap → Type 0
EndAllWithin size cells = (k c : ℕ) → maps.get cells k ≡ Some c → EndsWithin size (cell_mark c)
