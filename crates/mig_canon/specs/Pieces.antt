-- How parts of one code are written, one after another: each an entry of their table, or a record.
use Rattle.std.specs.Prelude.{◌≤◌, ℕ, List, [], length, ⊤}
use Rattle.mig_canon.specs.Common.{most_body, Part, entry_text, part_body, spelled}
use Rattle.mig_records.specs.declared.shape.Shape.{Shape}
use Rattle.mig_records.specs.declared.shape.Shape.TheVariants.{Table, Other}

abbrev pub piece : Shape → ℕ → Part → List ℕ
piece (Table l) type p = entry_text l p
piece Other type p = []
piece shape type p = spelled type (part_body shape p)

-- a part whose record isn't too long
abbrev pub IsShortPart : Shape → Part → Type 0
IsShortPart (Table l) p = ⊤
IsShortPart shape p = length (part_body shape p) ≤ most_body
