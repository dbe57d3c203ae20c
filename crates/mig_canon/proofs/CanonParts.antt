-- What a body of a record says, and that fields are read back.
use Rattle.mig_canon.proofs.Common.{arith, replicate, ◌≡◌, ℕ, ◌≤◌, ◌<◌, ◌^◌, List, [], ◌++◌, length, true, Option, Some, None, refl, subst, is_some, little_bytes, Kind, PartCode, code_number, Part, IsRecordBody, Content, Sets, HasContent, length-replicate, padding_len, little_number-reads_back, type_of_number, RecordType, numbered, sets, type_number}
use Rattle.mig_records.specs.Records.{IsRecord, head_of, spelled}
use Rattle.mig_bytes.specs.Fields.{le32}
use Rattle.mig_headers.proofs.RecordNumbers.{numbers_are_inverse}

-- ---- fields read back

pub le32_first : (n : ℕ) (more : List ℕ) → n < 2 ^ 32 → le32 (little_bytes 4 n ++ more) 0 ≡ n
unfolding le32
le32_first n more small = little_number-reads_back 4 n more small

pub le32_second : (n m : ℕ) → m < 2 ^ 32 → le32 (little_bytes 4 n ++ little_bytes 4 m) 4 ≡ m
unfolding le32
le32_second n m small = little_number-reads_back 4 m [] small

-- ---- bodies

-- what is written of a record is spelled as the format says
pub is_record : (type : ℕ) (body : List ℕ) → type < 2 ^ 32 → length body ≤ 2 ^ 27 → IsRecord type body (spelled type body)
unfolding spelled head_of
is_record type body small short = record {
  head = little_bytes 4 type ++ little_bytes 4 (length body);
  padding = replicate (padding_len (length body)) 0;
  whole = refl;
  head_len = refl;
  type_is = le32_first type _ small;
  len_is = le32_second type (length body) (omega (arith, short));
  padded = length-replicate (padding_len (length body)) 0;
}

-- a body of this type says this in a stream of this kind with frame numbers up to top, and isn't too long
pub record Fits (kind : Kind) (top type : ℕ) (body : List ℕ) (c : Content) : Type 0 where
  pub says : HasContent kind top type body c
  pub short : length body ≤ 2 ^ 27

-- a body of a record that sets parts of this code
pub fits_of : (kind : Kind) (top : ℕ) (code : PartCode) (body : List ℕ) (ps : List Part) → is_some (type_of_number (code_number code)) ≡ true → IsRecordBody code body ps → Fits kind top (code_number code) body (Sets code ps)
fits_of kind top code body ps known is = by (type_of_number (code_number code)) refl known
  where
    by : (o : Option RecordType) → type_of_number (code_number code) ≡ o → is_some o ≡ true → Fits kind top (code_number code) body (Sets code ps)
    by None named known = absurd (cc)
    by (Some this) named known =
        let same = numbers_are_inverse.number_of (code_number code) this named in
        subst (λ n. Fits kind top n body (Sets code ps)) same (record { says = sets this code body ps (numbered (type_number this) code same) (is.has this named) is.says; short = is.short })
