-- Which of the GDT's frames the worked contexts use.
use Rattle.mig_host_laws.proofs.Common.{filter, ◌≡◌, ℕ, ◌^◌, ◌<◌, cond, List, [], ◌∷◌, ap, arith, ◌==◌, range_with_len, field_value, is_used, long_of_longs, Usage, is_used_somewhere, most_gdt_entries}
use Rattle.mig_guest.specs.Formed.{gdt_ents}
use Rattle.mig_host_laws.specs.WorkedDescriptors.{descriptors_context, gdt_fields, AreUsedFor}

pub are_counted : (n : ℕ) → n < 2 ^ 64 → gdt_ents (descriptors_context n) ≡ n
are_counted n small = long_of_longs 646 (λ i. cond (i == 620) n 0) 620 (omega arith) small

-- the fields that are used, by the number of descriptors
abbrev fields_for : Usage → ℕ → ℕ → ℕ → List ℕ
fields_for used id n ents = filter (λ field. used id ents field (field_value (descriptors_context n) field)) (range_with_len 1 16)

used_for : (used : Usage) (id n : ℕ) → n < 2 ^ 64 → gdt_fields used id (descriptors_context n) ≡ fields_for used id n n
used_for used id n small = ap (fields_for used id n) (are_counted n small)

pub for_none : AreUsedFor 0 []
for_none id = (used_for is_used id 0 (omega arith), used_for is_used_somewhere id 0 (omega arith))

pub for_one : AreUsedFor 1 (1 ∷ [])
for_one id = (used_for is_used id 1 (omega arith), used_for is_used_somewhere id 1 (omega arith))

pub for_one_frame : AreUsedFor 512 (1 ∷ [])
for_one_frame id = (used_for is_used id 512 (omega arith), used_for is_used_somewhere id 512 (omega arith))

pub for_one_more : AreUsedFor 513 (1 ∷ 2 ∷ [])
for_one_more id = (used_for is_used id 513 (omega arith), used_for is_used_somewhere id 513 (omega arith))

pub for_most : AreUsedFor most_gdt_entries (range_with_len 1 14)
for_most id = (used_for is_used id most_gdt_entries (omega arith), used_for is_used_somewhere id most_gdt_entries (omega arith))
