-- The numbers that fields of fixed width spell, in either byte order.
use Rattle.std.specs.Prelude.{ℕ, ◌+◌, List, ◌++◌, length, take, drop}
use Rattle.mig_bytes.specs.Common.{little_number, big_number}

-- the number in the two, four or eight bytes from `at` on, the lowest byte first
unfoldable pub le16 : List ℕ → ℕ → ℕ
le16 bytes at = little_number 2 (drop at bytes)

unfoldable pub le32 : List ℕ → ℕ → ℕ
le32 bytes at = little_number 4 (drop at bytes)

unfoldable pub le64 : List ℕ → ℕ → ℕ
le64 bytes at = little_number 8 (drop at bytes)

-- the same, the highest byte first
unfoldable pub be16 : List ℕ → ℕ → ℕ
be16 bytes at = big_number 2 (drop at bytes)

unfoldable pub be32 : List ℕ → ℕ → ℕ
be32 bytes at = big_number 4 (drop at bytes)

unfoldable pub be64 : List ℕ → ℕ → ℕ
be64 bytes at = big_number 8 (drop at bytes)

-- the bytes with a field in place of those from `at` on; all others stay
abbrev pub with_field : List ℕ → ℕ → List ℕ → List ℕ
with_field bytes at field = take at bytes ++ (field ++ drop (at + length field) bytes)
