-- A record as bytes (libxc migration stream, "Records").
use Rattle.std.specs.Prelude.{◌≡◌, ℕ, List, ◌++◌, length, replicate}
use Rattle.mig_records.specs.Common.{flat_map, little_bytes, padding_len, le32}

-- a record: 8 bytes with its type and the length of its body, the body, and padding of any value
pub record IsRecord (type : ℕ) (body bytes : List ℕ) : Type 0 where
  pub head : List ℕ
  pub padding : List ℕ
  pub whole : bytes ≡ head ++ (body ++ padding)
  pub head_len : length head ≡ 8
  pub type_is : le32 head 0 ≡ type
  pub len_is : le32 head 4 ≡ length body
  pub padded : length padding ≡ padding_len (length body)

-- the head of a record of this type, whose body has this length
unfoldable pub head_of : ℕ → ℕ → List ℕ
head_of type len = little_bytes 4 type ++ little_bytes 4 len

-- the canonical record: head, body, and zero bytes up to a multiple of 8
unfoldable pub spelled : ℕ → List ℕ → List ℕ
spelled type body = head_of type (length body) ++ (body ++ replicate (padding_len (length body)) 0)

-- a record by its type and its body
abbrev pub Record : Type 0
Record = ℕ × List ℕ

-- records one after another
abbrev pub text_of : List Record → List ℕ
text_of bodies = flat_map (λ b. spelled b.0 b.1) bodies
