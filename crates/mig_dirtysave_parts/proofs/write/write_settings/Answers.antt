use Rattle.mig_dirtysave_parts.proofs.Common.{puts_then, puts_stop, puts_same, pv_last_text}
use Rattle.mig_dirtysave_parts.proofs.write.write_settings.Goals as goal

pub returns-in_err-write_codes-clause-bytes : goal.returns-in_err-write_codes-clause-bytes
returns-in_err-write_codes-clause-bytes g c =
    let r = c.from_residual.result in puts_same _ _ _ _ r (pv_last_text c.args.settings.now) (puts_stop _ _ _ _ _ _ r c.from_residual.ensures.1 c.in_err-write_codes.ensures.bytes)

pub returns-clause-bytes : goal.returns-clause-bytes
returns-clause-bytes g c =
    let r = c.write_vcpus.result in puts_same _ _ _ _ r (pv_last_text c.args.settings.now) (puts_then _ _ _ _ _ r c.in_ok-write_codes.ensures.bytes c.write_vcpus.ensures.bytes)
