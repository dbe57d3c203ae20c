-- What the showing of a stream comes to.
use Rattle.std.specs.Prelude.{Option, Some, None}
use Rattle.mig_tool_guest.specs.Common.{Cause, Place, Outcome}
use Rattle.mig_show.specs.declared.viewer.ShowAnswer.{ShowAnswer}
use Rattle.mig_show.specs.declared.viewer.ShowAnswer.TheVariants as answers
use Rattle.mig_tool_report.specs.declared.outcome.Outcome.TheVariants as outcomes
use Rattle.mig_tool_report.specs.declared.outcome.Refusal.TheVariants as refusals

-- the outcome where the whole text was written
abbrev pub outcome_of_shown : Option (Place × Cause) → Outcome
outcome_of_shown None = outcomes.Done
outcome_of_shown (Some refused) = outcomes.Refused (refusals.Stream refused.0 refused.1)

-- the outcome where nothing is shown
abbrev pub outcome_of_unshown : ShowAnswer → Outcome
outcome_of_unshown answers.ReadFault = outcomes.ReadFault
outcome_of_unshown answers.Memory = outcomes.Memory
