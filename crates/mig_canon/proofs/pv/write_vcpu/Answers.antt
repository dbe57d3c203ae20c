use Rattle.mig_canon.proofs.Common.{puts_then, puts_stop, puts_same}
use Rattle.mig_canon.proofs.PvRecords.{vcpu_text}
use Rattle.mig_canon.proofs.pv.write_vcpu.Goals as goal

pub returns-in_err-write_vcpu_part-2-clause-bytes : goal.returns-in_err-write_vcpu_part-2-clause-bytes
returns-in_err-write_vcpu_part-2-clause-bytes g c =
    let r = c.from_residual-in_err-write_vcpu_part-2.result in
    puts_same _ _ _ _ r (vcpu_text c.args.guest.now c.args.id)
    (puts_then _ _ _ _ _ r c.in_ok-write_vcpu_part.ensures.bytes (puts_stop _ _ _ _ _ _ r c.from_residual-in_err-write_vcpu_part-2.ensures.1 c.in_err-write_vcpu_part-2.ensures.bytes))

pub returns-in_err-write_vcpu_part-3-clause-bytes : goal.returns-in_err-write_vcpu_part-3-clause-bytes
returns-in_err-write_vcpu_part-3-clause-bytes g c =
    let r = c.from_residual-in_err-write_vcpu_part-3.result in
    puts_same _ _ _ _ r (vcpu_text c.args.guest.now c.args.id)
    (puts_then _ _ _ _ _ r c.in_ok-write_vcpu_part.ensures.bytes (puts_then _ _ _ _ _ r c.in_ok-write_vcpu_part-2.ensures.bytes
    (puts_stop _ _ _ _ _ _ r c.from_residual-in_err-write_vcpu_part-3.ensures.1 c.in_err-write_vcpu_part-3.ensures.bytes)))
