-- What the answer of a reader comes to.
use Rattle.mig_bytes.specs.declared.answer.Answer.{Answer}
use Rattle.mig_bytes.specs.declared.answer.Answer.TheVariants as answers
use Rattle.mig_tool_guest.specs.Common.{Outcome, Refusal}
use Rattle.mig_tool_report.specs.declared.outcome.Outcome.TheVariants as outcomes

-- the outcome where no stream is read, and what a refusal is told as
abbrev pub outcome_of : {P C : Type 0} → (P → C → Refusal) → Answer P C → Outcome
outcome_of told (answers.Refused place cause) = outcomes.Refused (told place cause)
outcome_of told answers.ReadFault = outcomes.ReadFault
outcome_of told answers.Memory = outcomes.Memory
