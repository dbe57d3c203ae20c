-- Which types of frame a field of a vCPU's context may name, by their numbers.
use Rattle.std.specs.Prelude.{ℕ, List, [], ◌∷◌, filter}
use Rattle.std.specs.List.{range_with_len}
use Rattle.mig_machine_laws.specs.Common.{fits_field, type_of}

-- of the numbers 0 to 15 those of the types that a field may name
abbrev pub types_for : ℕ → List ℕ
types_for field = filter (λ n. fits_field field (type_of n)) (range_with_len 0 16)

abbrev pub data_types : List ℕ
data_types = 0 ∷ []

abbrev pub root_types : List ℕ
root_types = 4 ∷ 12 ∷ []
