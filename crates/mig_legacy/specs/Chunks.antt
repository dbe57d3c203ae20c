-- The types of a legacy stream's chunks (Xen's xg_save_restore.h): a number of 4 bytes, low byte first, of which the upper
-- half is negative.
use Rattle.std.specs.Prelude.{⊤, ◌≡◌, ◌≤◌, ◌<◌, ℕ, ◌-◌, ◌^◌, List, [], ◌∷◌, Option, Some, None, Result, Ok, Err, ◌==◌, nat_lt, if◌then◌else◌}
use Rattle.mig_legacy.specs.Common.{Test, first_named, LegacyCause, VerifyOrPv, Tmem, Compressed, UnknownChunk, BatchTooLarge, vcpu_limit}
use Rattle.mig_bytes_form.specs.Tests.Test.{Less, Equal, Either}
use Rattle.mig_legacy.specs.declared.chunk.ChunkKind.{ChunkKind}
use Rattle.mig_legacy.specs.declared.chunk.ChunkKind.TheVariants.{End, Batch, VcpuMap, Tsc, LastCheckpoint, Toolstack, Param}

-- the number that says −n
abbrev pub negative : ℕ → ℕ
negative n = 2 ^ 32 - n

-- ---- from a chunk to its number

-- the index of an HVM parameter, and the chunk −n that has its value
abbrev pub param_chunks : List (ℕ × ℕ)
param_chunks = (12, 3) ∷ (15, 4) ∷ (17, 8) ∷ (19, 10) ∷ (9, 11) ∷ (34, 14) ∷ (27, 15) ∷ (28, 16) ∷ (29, 17) ∷ (32, 19) ∷ (33, 20) ∷ []

-- the second number of the first row that has this as its first
abbrev pub second_of : ℕ → List (ℕ × ℕ) → Option ℕ
second_of n [] = None
second_of n (row ∷ rows) = if row.0 == n then Some row.1 else second_of n rows

abbrev pub IsParamChunk : Option ℕ → ℕ → Type 0
IsParamChunk None number = ⊥
IsParamChunk (Some n) number = number ≡ negative n

-- which number a chunk has
abbrev pub IsNumberOf : ChunkKind → ℕ → Type 0
IsNumberOf End number = number ≡ 0
IsNumberOf (Batch count) number = (number ≡ count) × (0 < count) × (count ≤ 1024)
IsNumberOf VcpuMap number = number ≡ negative 2
IsNumberOf Tsc number = number ≡ negative 7
IsNumberOf LastCheckpoint number = number ≡ negative 9
IsNumberOf Toolstack number = number ≡ negative 18
IsNumberOf (Param index) number = IsParamChunk (second_of index param_chunks) number

-- ---- from a number to its chunk

-- why there is no chunk −n: other than −1 to −20 none is known
abbrev pub negative_causes : ℕ → List (Test × LegacyCause)
negative_causes n =
    (Equal n 1, VerifyOrPv)
    ∷ (Either (Equal n 5) (Equal n 6), Tmem)
    ∷ (Either (Equal n 12) (Equal n 13), Compressed)
    ∷ (Either (Less n 1) (Less 20 n), UnknownChunk n)
    ∷ []

-- why there is no chunk of this number
abbrev pub number_causes : ℕ → List (Test × LegacyCause)
number_causes number = if nat_lt number (2 ^ 31) then (Less 1024 number, BatchTooLarge number) ∷ [] else negative_causes (negative number)

-- the chunk −n; where a cause stands it is never asked for
abbrev pub negative_kind : ℕ → ChunkKind
negative_kind n =
    if n == 2 then VcpuMap
    else if n == 7 then Tsc
    else if n == 9 then LastCheckpoint
    else if n == 18 then Toolstack
    else if n == 3 then Param 12
    else if n == 4 then Param 15
    else if n == 8 then Param 17
    else if n == 10 then Param 19
    else if n == 11 then Param 9
    else if n == 14 then Param 34
    else if n == 15 then Param 27
    else if n == 16 then Param 28
    else if n == 17 then Param 29
    else if n == 19 then Param 32
    else if n == 20 then Param 33
    else End

-- the chunk of this number, where no cause stands
abbrev pub kind_numbered : ℕ → ChunkKind
kind_numbered number = if number == 0 then End else if nat_lt number (2 ^ 31) then Batch number else negative_kind (negative number)

abbrev pub unless_caused : Option LegacyCause → ChunkKind → Result ChunkKind LegacyCause
unless_caused None kind = Ok kind
unless_caused (Some cause) kind = Err cause

-- the chunk of this number, or why there is none
unfoldable pub kind_of : ℕ → Result ChunkKind LegacyCause
kind_of number = unless_caused (first_named (number_causes number)) (kind_numbered number)

-- each chunk is that of its number
abbrev pub NumbersHaveKinds : Type 0
NumbersHaveKinds = (kind : ChunkKind) (number : ℕ) → IsNumberOf kind number → kind_of number ≡ Ok kind

-- what the type of a chunk limits
abbrev pub IsWithinLimits : ChunkKind → Type 0
IsWithinLimits (Batch n) = n ≤ 1024
IsWithinLimits (Param index) = index < vcpu_limit
IsWithinLimits _ = ⊤
