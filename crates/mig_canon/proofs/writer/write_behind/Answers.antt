use Rattle.mig_canon.proofs.Common.{puts_then, puts_stop}
use Rattle.mig_canon.specs.Elsewhere.{behind_the_frames}
use Rattle.mig_canon.proofs.writer.write_behind.Goals as goal

pub returns-in_err-write_last-clause-bytes : goal.returns-in_err-write_last-clause-bytes
unfolding behind_the_frames
returns-in_err-write_last-clause-bytes g c =
    let r = c.from_residual.result in puts_stop _ _ _ _ _ _ r c.from_residual.ensures.1 c.in_err-write_last.ensures.bytes

pub returns-clause-bytes : goal.returns-clause-bytes
unfolding behind_the_frames
returns-clause-bytes g c =
    let r = c.write_end.result in puts_then _ _ _ _ _ r c.in_ok-write_last.ensures.bytes c.write_end.ensures.bytes
