-- How the record of an emulator's part is spelled.
use Rattle.mig_libxl.proofs.Common.{◌≡◌, ℕ, ◌+◌, ◌≤◌, true, List, ◌++◌, length, Some, inl, inr, arith, ◌-◌, ◌==◌, nat_le, and_parts, eqb-true, leb-true, or_cases, little_bytes, padding_len, is_emulator_code, width_of, GuestOf, IsFormed, EmulatorPairs, EmulatorContext, PartKey, IsOf, of_part, emulator_body, most_pairs, most_body, replicate}
use Rattle.mig_records.specs.Records.{head_of}
use Rattle.mig_records.proofs.RecordTexts.{record_text}
use Rattle.mig_canon.specs.CanonStream.{emulator_record}
use Rattle.std.specs.FinMap as maps

-- the id and the index of an emulator
abbrev pub key_front : PartKey → List ℕ
key_front key = little_bytes 4 key.key1 ++ little_bytes 4 key.key2

pub emulator_text : (key : PartKey) (bytes : List ℕ) (n : ℕ) → n ≡ 8 + length bytes
    → emulator_record (key, bytes) ≡ head_of (key.code - 256) n ++ (key_front key ++ (bytes ++ replicate (padding_len n) 0))
unfolding emulator_record
emulator_text key bytes n is = record_text (key.code - 256) n (emulator_body (key, bytes)) (omega (arith, is))

-- a part of an emulator isn't longer than a record can say
pub short_emulator : (g : GuestOf) (key : PartKey) (bytes : List ℕ) → IsFormed g → is_emulator_code key.code ≡ true → maps.get g.parts key ≡ Some bytes → length bytes + 8 ≤ most_body
short_emulator g key bytes formed code there = elim (or_cases (key.code == 258) (key.code == 259) code) [
  | inl a ↦ let one : IsOf EmulatorPairs (width_of g) (key, bytes) = of_part EmulatorPairs g.kind (width_of g) (key, bytes) (formed.parts key bytes there) (eqb-true key.code 258 a) in
      omega (arith, leb-true (length bytes) _ (and_parts (nat_le 1 (length bytes)) (nat_le (length bytes) most_pairs) one.len).1)
  | inr b ↦ let one : IsOf EmulatorContext (width_of g) (key, bytes) = of_part EmulatorContext g.kind (width_of g) (key, bytes) (formed.parts key bytes there) (eqb-true key.code 259 b) in
      omega (arith, leb-true (length bytes) _ one.len)
]
