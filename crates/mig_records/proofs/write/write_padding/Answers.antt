use Rattle.mig_records.proofs.Common.{ℕ, replicate, sym, ap, ◌∙◌, arith, take-replicate}
use Rattle.mig_bytes.proofs.Texts.{puts_same}
use Rattle.mig_records.proofs.write.write_padding.Goals as goal

pub returns-clause-bytes : goal.returns-clause-bytes
returns-clause-bytes g c =
    puts_same _ _ _ _ c.put_all.result
    (ap (λ n. replicate n 0) (sym c.pad_len.ensures.value) ∙ sym (take-replicate {X = ℕ} c.pad_len.result 8 0 (omega arith)))
    c.put_all.ensures.bytes
