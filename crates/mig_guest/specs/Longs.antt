-- Bytes as numbers of 8 bytes each, the lowest byte first: tables, contexts of vCPUs, lists of frame numbers.
use Rattle.std.specs.Prelude.{ℕ, zero, suc, ◌*◌, List, [], ◌++◌}
use Rattle.byteorder.specs.Endian.{little_bytes}
use Rattle.mig_guest.specs.Common.{le64}

-- the number at place i
abbrev pub long_at : List ℕ → ℕ → ℕ
long_at bytes i = le64 bytes (8 * i)

-- n numbers, of which that at place i is f i
unfoldable pub longs : ℕ → (ℕ → ℕ) → List ℕ
longs zero f = []
longs (suc n) f = longs n f ++ little_bytes 8 (f n)

-- each of the first n numbers e, at place i, is now f i e
abbrev pub each_long : ℕ → (ℕ → ℕ → ℕ) → List ℕ → List ℕ
each_long n f bytes = longs n (λ i. f i (long_at bytes i))
