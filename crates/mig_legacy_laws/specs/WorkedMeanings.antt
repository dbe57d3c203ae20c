-- Chunks, a clock, a tail and memory of a device model, with what they mean.
use Rattle.std.specs.Prelude.{ℕ, ◌-◌, ◌^◌, List, [], ◌∷◌, codes, Some, None}
use Rattle.mig_guest.specs.declared.part_code.PartCode.TheVariants.{HvmContext, HvmParam}
use Rattle.mig_guest.specs.declared.part_key.PartKey.{PartKey}
use Rattle.mig_headers.specs.Pairs.{Pair}
use Rattle.mig_legacy.specs.Toolstack.{Physmap}
use Rattle.mig_legacy.specs.declared.chunk.ChunkKind.{ChunkKind}
use Rattle.mig_legacy.specs.declared.chunk.ChunkKind.TheVariants.{End, Batch, VcpuMap, Tsc, LastCheckpoint, Toolstack, Param}
use Rattle.mig_restore_form.specs.Record.{StreamRecord}
use Rattle.mig_restore_form.specs.Record.Content.{Sets}

-- the number of each chunk, where −n is written as 2^32 − n
abbrev pub chunk_numbers : List (ℕ × ChunkKind)
chunk_numbers =
    (0, End) ∷ (1, Batch 1) ∷ (1024, Batch 1024) ∷ (2 ^ 32 - 2, VcpuMap) ∷ (2 ^ 32 - 7, Tsc) ∷ (2 ^ 32 - 9, LastCheckpoint) ∷ (2 ^ 32 - 18, Toolstack)
    ∷ (2 ^ 32 - 3, Param 12) ∷ (2 ^ 32 - 4, Param 15) ∷ (2 ^ 32 - 8, Param 17) ∷ (2 ^ 32 - 10, Param 19) ∷ (2 ^ 32 - 11, Param 9) ∷ (2 ^ 32 - 14, Param 34) ∷ (2 ^ 32 - 15, Param 27)
    ∷ (2 ^ 32 - 16, Param 28) ∷ (2 ^ 32 - 17, Param 29) ∷ (2 ^ 32 - 19, Param 32) ∷ (2 ^ 32 - 20, Param 33) ∷ []

-- mode 1, nanoseconds of eight bytes 2, frequency 3, incarnation 4; and how the guest has them
abbrev pub clock_bytes : List ℕ
clock_bytes = 1 ∷ 0 ∷ 0 ∷ 0 ∷ 2 ∷ 2 ∷ 2 ∷ 2 ∷ 2 ∷ 2 ∷ 2 ∷ 2 ∷ 3 ∷ 0 ∷ 0 ∷ 0 ∷ 4 ∷ 0 ∷ 0 ∷ 0 ∷ []

abbrev pub clock_in_order : List ℕ
clock_in_order = 1 ∷ 0 ∷ 0 ∷ 0 ∷ 3 ∷ 0 ∷ 0 ∷ 0 ∷ 2 ∷ 2 ∷ 2 ∷ 2 ∷ 2 ∷ 2 ∷ 2 ∷ 2 ∷ 4 ∷ 0 ∷ 0 ∷ 0 ∷ []

-- the frames of the I/O requests 7, of the buffered ones 8, and of the store 9
abbrev pub tail_frames : List ℕ
tail_frames = 7 ∷ 0 ∷ 0 ∷ 0 ∷ 0 ∷ 0 ∷ 0 ∷ 0 ∷ 8 ∷ 0 ∷ 0 ∷ 0 ∷ 0 ∷ 0 ∷ 0 ∷ 0 ∷ 9 ∷ 0 ∷ 0 ∷ 0 ∷ 0 ∷ 0 ∷ 0 ∷ 0 ∷ []

-- a value of 8 bytes
abbrev pub small_value : ℕ → List ℕ
small_value n = n ∷ 0 ∷ 0 ∷ 0 ∷ 0 ∷ 0 ∷ 0 ∷ 0 ∷ []

abbrev pub parameter_key : ℕ → PartKey
parameter_key index = record { code = 10; key1 = index; key2 = 0 }

-- the records that say the same
abbrev pub tail_said : List ℕ → List StreamRecord
tail_said context =
    record { type = 10; content = Sets HvmParam ((parameter_key 5, small_value 7) ∷ (parameter_key 6, small_value 8) ∷ (parameter_key 1, small_value 9) ∷ []) }
    ∷ record { type = 9; content = Sets HvmContext ((record { code = 9; key1 = 0; key2 = 0 }, context) ∷ []) }
    ∷ []

-- memory with a name and without one, and its pairs in the store
abbrev pub named_memory : Physmap
named_memory = record { phys = 0xe0000000; start = 0xf0000000; size = 0x800000; name = Some (codes "vram") }

abbrev pub memory_pairs : List Pair
memory_pairs =
    record { key = codes "physmap/e0000000/start_addr"; value = codes "f0000000" }
    ∷ record { key = codes "physmap/e0000000/size"; value = codes "800000" }
    ∷ record { key = codes "physmap/e0000000/name"; value = codes "vram" }
    ∷ []

abbrev pub unnamed_memory : Physmap
unnamed_memory = record { phys = 0xabc; start = 0; size = 0x1000; name = None }

abbrev pub unnamed_pairs : List Pair
unnamed_pairs = record { key = codes "physmap/abc/start_addr"; value = codes "0" } ∷ record { key = codes "physmap/abc/size"; value = codes "1000" } ∷ []
