-- Which frames each field may name.
use Rattle.mig_machine_laws.proofs.Common.{fits_field, type_of, ◌≡◌, ◌≤◌, ◌<◌, ℕ, Bool, true, false, List, cond, nat_le, None, refl, ap}
use Rattle.std.proofs.Common.{filter, le-leb}
use Rattle.std.proofs.lemmas.Bool.{lt-leb}
use Rattle.std.specs.List.{range_with_len}
use Rattle.mig_pvtables.specs.Faults.{is_notab, is_root}
use Rattle.mig_machine_laws.specs.FieldTypes.{data_types, root_types, types_for}

-- the types that a field may name, by whether it is one of the first 17
abbrev types_by : Bool → List ℕ
types_by low = filter (λ n. cond low (is_notab (type_of n)) (is_root (type_of n))) (range_with_len 0 16)

pub for_data : (field : ℕ) → field ≤ 16 → types_for field ≡ data_types
for_data field few = ap types_by (le-leb field 16 few)

pub for_roots : (field : ℕ) → 16 < field → types_for field ≡ root_types
for_roots field more = ap types_by (lt-leb field 16 more)

either : (low : Bool) → cond low false false ≡ false
either true = refl
either false = refl

pub none : (field : ℕ) → fits_field field None ≡ false
none field = either (nat_le field 16)
