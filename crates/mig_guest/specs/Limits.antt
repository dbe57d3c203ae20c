-- How much a part of a guest may hold.
use Rattle.std.specs.Prelude.{ℕ, ◌^◌}

-- the most descriptors of a vCPU's GDT: those of 14 frames
abbrev pub most_gdt_entries : ℕ
most_gdt_entries = 7168

-- the most bytes that the pairs of an emulator spell
abbrev pub most_pairs : ℕ
most_pairs = 2 ^ 24
