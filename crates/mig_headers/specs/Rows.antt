-- Tables of faults: rows of a test and what it refuses, tried in order.
use Rattle.std.specs.Prelude.{Bool, List, [], ◌∷◌, Option, Some, None, if◌then◌else◌}

-- what the first row refuses whose test holds
abbrev pub first_fault : {C : Type 0} → List (Bool × C) → Option C
first_fault [] = None
first_fault (row ∷ rows) = if row.0 then Some row.1 else first_fault rows
