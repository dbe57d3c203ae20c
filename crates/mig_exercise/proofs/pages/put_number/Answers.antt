use Rattle.mig_exercise.proofs.Common.{ap, ◌∙◌, little_bytes, with_field}
use Rattle.mig_exercise.proofs.LongPages.{front_written}
use Rattle.mig_exercise.proofs.pages.put_number.Goals as goal

pub returns : goal.returns
returns c = λ x is. c.put_u64_le.ensures ∙ ap (λ l. with_field l 0 (little_bytes 8 c.args.number)) is ∙ front_written x c.args.number
