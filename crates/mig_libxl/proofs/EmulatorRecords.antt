-- The records of a guest's emulators: each is spelled as the format says, and together they say the emulators.
use Rattle.mig_libxl.proofs.Common.{◌≡◌, ℕ, ◌+◌, ◌<◌, ◌≤◌, List, ◌++◌, length, Some, inl, inr, refl, sym, subst, arith, append_assoc, length-append, ◌-◌, ◌==◌, nat_le, if◌then◌else◌, and_parts, eqb-true, leb-true, or_cases, little_bytes, IsFormed, width_of, GuestOf, Part, EmulatorPairs, PartKey, IsOf, of_part, some_bytes_are_some_pairs, LibxlRecord, LibxlContent, Pairs, Context, pairs_in, spelled, emulator_body, is_record, most_pairs, most_body, HasLibxlContent, IsFront, IsLibxlRecord, AreCanonicalPairs, SpellPairs}
use Rattle.mig_policy.proofs.KeyLaws.{pairs_are_read}
use Rattle.byteorder.specs.Numbers.{length-bytes_low_first}
use Rattle.mig_records.specs.Records.{head_of}
use Rattle.mig_records.proofs.HeadBytes.{type_in_head, len_in_head}
use Rattle.mig_canon.specs.CanonStream.{emulator_record}
use Rattle.mig_libxl_form.specs.Spelled.HasLibxlContent.{pairs as says_pairs, context as says_context}
use Rattle.mig_libxl_form.specs.Spelled.IsLibxlRecord.{body as a_body}
use Rattle.mig_libxl.proofs.EmulatorParts.{IsEmulatorPart, small}
use Rattle.mig_libxl.proofs.EmulatorTexts.{key_front, short_emulator}
use Rattle.std.specs.FinMap as maps

-- ---- what a part's record says

abbrev pairs_of_emulator : ℕ → ℕ → PartKey
pairs_of_emulator id index = record { code = 258; key1 = id; key2 = index }

abbrev context_of_emulator : ℕ → ℕ → PartKey
context_of_emulator id index = record { code = 259; key1 = id; key2 = index }

abbrev pub content_of : Part → LibxlContent
content_of p = if p.0.code == 258 then Pairs p.0 (pairs_in p.1) else Context p.0 p.1

abbrev pub record_of_part : Part → LibxlRecord
record_of_part p = record { type = p.0.code - 256; content = content_of p }

front_is : (key : PartKey) → key.key1 < 3 → key.key2 < 256 → IsFront key.code (key_front key) key
unfolding head_of
front_is key known small = record {
  len = refl;
  code_is = refl;
  id = type_in_head key.key1 key.key2 (omega (arith, known));
  index = len_in_head key.key1 key.key2 (omega (arith, small));
  known = known;
  small = small;
}

body_is : (p : Part) → key_front p.0 ++ p.1 ≡ emulator_body p
body_is p = append_assoc (little_bytes 4 p.0.key1) (little_bytes 4 p.0.key2) p.1

body_short : (p : Part) → length p.1 + 8 ≤ most_body → length (emulator_body p) ≤ most_body
body_short p short =
    omega (arith, short, length-append (little_bytes 4 p.0.key1) (little_bytes 4 p.0.key2 ++ p.1), length-append (little_bytes 4 p.0.key2) p.1, length-bytes_low_first 0 4 p.0.key1, length-bytes_low_first 0 4 p.0.key2)

module _ (id index : ℕ) (bytes : List ℕ) (known : id < 3) (small : index < 256) (short : length bytes + 8 ≤ most_body) where
  pairs_record : SpellPairs bytes (pairs_in bytes) → IsLibxlRecord (record_of_part (pairs_of_emulator id index, bytes)) (emulator_record (pairs_of_emulator id index, bytes))
  unfolding emulator_record
  pairs_record spells =
      let key = pairs_of_emulator id index in
      a_body 2 (emulator_body (key, bytes)) (spelled 2 (emulator_body (key, bytes))) (Pairs key (pairs_in bytes)) (is_record 2 (emulator_body (key, bytes)) (omega arith) (body_short (key, bytes) short)) (body_short (key, bytes) short)
      (subst (λ l. HasLibxlContent 2 l (Pairs key (pairs_in bytes))) (body_is (key, bytes)) (says_pairs (key_front key) bytes key (pairs_in bytes) (front_is key known small) spells))

  context_record : IsLibxlRecord (record_of_part (context_of_emulator id index, bytes)) (emulator_record (context_of_emulator id index, bytes))
  unfolding emulator_record
  context_record =
      let key = context_of_emulator id index in
      a_body 3 (emulator_body (key, bytes)) (spelled 3 (emulator_body (key, bytes))) (Context key bytes) (is_record 3 (emulator_body (key, bytes)) (omega arith) (body_short (key, bytes) short)) (body_short (key, bytes) short)
      (subst (λ l. HasLibxlContent 3 l (Context key bytes)) (body_is (key, bytes)) (says_context (key_front key) bytes key (front_is key known small)))

-- ---- the parts of a guest's emulators

-- an emulator's pairs: canonical, some, and not too many
pub record AreSomePairs (bytes : List ℕ) : Type 0 where
  pub canonical : AreCanonicalPairs bytes
  pub some : 0 < length bytes
  pub few : length bytes ≤ most_pairs

module _ (g : GuestOf) (formed : IsFormed g) where
  pub some_pairs : (q : PartKey) (bytes : List ℕ) → q.code ≡ 258 → maps.get g.parts q ≡ Some bytes → AreSomePairs bytes
  some_pairs q bytes code got =
      let one : IsOf EmulatorPairs (width_of g) (q, bytes) = of_part EmulatorPairs g.kind (width_of g) (q, bytes) (formed.parts q bytes got) code in
      let (least, most) = and_parts (nat_le 1 (length bytes)) (nat_le (length bytes) most_pairs) one.len in
      record { canonical = one.content; some = omega (arith, leb-true 1 (length bytes) least); few = leb-true (length bytes) most_pairs most }

  -- each record of an emulator's part is spelled as the format says
  pub emulator_is_spelled : (p : Part) → IsEmulatorPart g.parts p → IsLibxlRecord (record_of_part p) (emulator_record p)
  emulator_is_spelled p is = let s = small g formed p is in let short = short_emulator g p.0 p.1 formed is.code is.there in elim (or_cases (p.0.code == 258) (p.0.code == 259) is.code) [
    | inl a ↦ let code = eqb-true p.0.code 258 a in let some = some_pairs p.0 p.1 code is.there in
        subst (λ (x : Part). IsLibxlRecord (record_of_part x) (emulator_record x)) (λ i. (record { code = sym code i; key1 = p.0.key1; key2 = p.0.key2 }, p.1))
        (pairs_record p.0.key1 p.0.key2 p.1 s.id s.index short ((pairs_are_read p.1 (pairs_in p.1)).0 (some_bytes_are_some_pairs.sound p.1 some.canonical, refl)))
    | inr b ↦ let code = eqb-true p.0.code 259 b in
        subst (λ (x : Part). IsLibxlRecord (record_of_part x) (emulator_record x)) (λ i. (record { code = sym code i; key1 = p.0.key1; key2 = p.0.key2 }, p.1))
        (context_record p.0.key1 p.0.key2 p.1 s.id s.index short)
  ]
