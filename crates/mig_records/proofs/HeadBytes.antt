-- A head spells its type and length.
use Rattle.mig_records.proofs.Common.{◌≡◌, ◌<◌, ◌^◌, ℕ, [], sym, ap, ◌∙◌, append-nil, little_bytes, little_number, little_number-reads_back}
use Rattle.mig_bytes.specs.Fields.{le32}
use Rattle.mig_records.specs.Records.{head_of}

pub type_in_head : (kind len : ℕ) → kind < 2 ^ 32 → le32 (head_of kind len) 0 ≡ kind
unfolding le32 head_of
type_in_head kind len small = little_number-reads_back 4 kind (little_bytes 4 len) small

pub len_in_head : (kind len : ℕ) → len < 2 ^ 32 → le32 (head_of kind len) 4 ≡ len
unfolding le32 head_of
len_in_head kind len small = ap (little_number 4) (sym (append-nil (little_bytes 4 len))) ∙ little_number-reads_back 4 len [] small
