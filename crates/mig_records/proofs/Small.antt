-- The parts of a body in memory have keys of 32 bits, whatever its shape.
use Rattle.mig_records.proofs.Common.{◌≡◌, List, ℕ, None, arith, AllByRecursion, PartCode, Shape, Table, Single, Named, Chain, Other, IsSmallKey, key_in, shape_of, IsRow, fault_by_shape, parts_by_shape, fault_of_body, parts_of_body}
use Rattle.mig_records.proofs.Reading.{AreOctets, small_table, small_name, named_all}
use Rattle.mig_records.proofs.Rows.{all_rows}

by_shape : (code : PartCode) (body : List ℕ) (shape : Shape) → IsRow code shape → AreOctets body → fault_by_shape shape code body ≡ None → AllByRecursion (λ p. IsSmallKey p.0) (parts_by_shape shape code body)
by_shape code body (Table l) row octets fine = small_table code l body fine row octets
by_shape code body (Single len ignored) row octets fine = ((omega arith, omega arith), tt)
by_shape code body (Named second ignored skips) row octets fine = named_all (λ p. IsSmallKey p.0) skips (key_in code 4 second body) _ (small_name code second row.0 body octets)
by_shape code body Chain row octets fine = ((omega arith, omega arith), tt)
by_shape code body Other row octets fine = tt

pub small_parts : (code : PartCode) (body : List ℕ) → AreOctets body → fault_of_body code body ≡ None → AllByRecursion (λ p. IsSmallKey p.0) (parts_of_body code body)
small_parts code body octets fine = by_shape code body (shape_of code) (all_rows code) octets fine
