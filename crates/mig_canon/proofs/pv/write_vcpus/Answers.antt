use Rattle.mig_canon.proofs.Common.{refl}
use Rattle.mig_canon.proofs.PvRecords.{vcpu_stop}
use Rattle.mig_canon.proofs.pv.write_vcpus.Goals as goal

pub returns-in_err-write_vcpu-clause-bytes : goal.returns-in_err-write_vcpu-clause-bytes
returns-in_err-write_vcpu-clause-bytes g c =
    vcpu_stop c.args.guest.now c.loop-id.id 4096 _ _ _ _ c.from_residual.result refl c.loop-id-test.true c.loop-id.invariant.bytes c.from_residual.ensures.1 c.in_err-write_vcpu.ensures.bytes
