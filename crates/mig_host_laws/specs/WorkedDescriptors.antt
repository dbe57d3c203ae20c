-- A vCPU's context, worked through: how many descriptors its GDT has says which of the GDT's frames are used.
use Rattle.std.specs.Prelude.{◌≡◌, ℕ, List, ◌==◌, filter, if◌then◌else◌}
use Rattle.mig_host_laws.specs.Common.{range_with_len, gdt_ents, longs, Usage, field_value, is_used, is_used_somewhere}

-- the context of a vCPU whose GDT has so many descriptors: they are counted at place 620, byte 4960, and all else is 0
abbrev pub descriptors_context : ℕ → List ℕ
descriptors_context n = longs 646 (λ i. if i == 620 then n else 0)

-- of fields 1 to 16, the GDT's frames, those that vCPU id uses
abbrev pub gdt_fields : Usage → ℕ → List ℕ → List ℕ
gdt_fields used id context = filter (λ field. used id (gdt_ents context) field (field_value context field)) (range_with_len 1 16)

-- with so many descriptors each vCPU uses these fields, in a stream and in a host
abbrev pub AreUsedFor : ℕ → List ℕ → Type 0
AreUsedFor n fields = (id : ℕ) → (gdt_fields is_used id (descriptors_context n) ≡ fields) × (gdt_fields is_used_somewhere id (descriptors_context n) ≡ fields)
