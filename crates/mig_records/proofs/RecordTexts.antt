-- How records are spelled, and the numbers in front of a body.
use Rattle.mig_records.proofs.Common.{flat_map-append, take-append-le, padding_len, little_bytes, length-bytes_low_first, List, [], ap, append-nil, drop, length, replicate, sym, take, ℕ, ◌++◌, ◌+◌, ◌∙◌, ◌∷◌, ◌≡◌, ◌≤◌}
use Rattle.std.proofs.Math.Seq.{take-append-add}
use Rattle.mig_records.specs.Records.{Record, text_of, head_of, spelled}
use Rattle.mig_bytes.specs.Fields.{with_field}
use Rattle.byteorder.proofs.Bytes.{take-bytes_low_first}

-- ---- a record

pub record_text : (type n : ℕ) (body : List ℕ) → n ≡ length body → spelled type body ≡ head_of type n ++ (body ++ replicate (padding_len n) 0)
unfolding spelled
record_text type n body size = ap (λ m. head_of type m ++ (body ++ replicate (padding_len m) 0)) (sym size)

-- a body whose length is a multiple of 8
pub spelled_flat : (type n : ℕ) (body : List ℕ) → length body ≡ n → padding_len n ≡ 0 → spelled type body ≡ head_of type n ++ body
spelled_flat type n body size none = record_text type n body (sym size) ∙ ap (λ m. head_of type n ++ (body ++ replicate m 0)) none ∙ ap (λ l. head_of type n ++ l) (append-nil body)

pub text_one : (type : ℕ) (body : List ℕ) → text_of ((type, body) ∷ []) ≡ spelled type body
text_one type body = append-nil (spelled type body)

pub text_join : (a b : List Record) → text_of (a ++ b) ≡ text_of a ++ text_of b
text_join a b = flat_map-append (λ r. spelled r.0 r.1) a b

-- the lowest bytes of a number, which are the first of a field
low_bytes : (width number : ℕ) (more : List ℕ) → width ≤ 8 → take width (little_bytes 8 number ++ more) ≡ little_bytes width number
low_bytes width number more small = take-append-le width (little_bytes 8 number) more small ∙ take-bytes_low_first 0 8 width number small

-- a buffer in which a number is written, and behind its lowest bytes another
pub numbers_text : (first second one two : ℕ) (buffer once twice : List ℕ) → first ≤ 8 → second ≤ 8 → once ≡ with_field buffer 0 (little_bytes 8 one) → twice ≡ with_field once first (little_bytes 8 two)
    → little_bytes first one ++ little_bytes second two ≡ take (first + second) twice
numbers_text first second one two buffer once twice a b put again =
    let field = little_bytes first one in let behind = little_bytes 8 two ++ drop (first + 8) once in
    ap (λ l. field ++ l) (sym (low_bytes second two (drop (first + 8) once) b)) ∙ sym (take-append-add field behind second)
    ∙ ap (λ n. take (n + second) (field ++ behind)) (length-bytes_low_first 0 first one)
    ∙ ap (λ l. take (first + second) (l ++ behind)) (sym (ap (take first) put ∙ low_bytes first one (drop 8 buffer) a)) ∙ ap (take (first + second)) (sym again)
