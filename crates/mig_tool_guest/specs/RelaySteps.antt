-- What a relay's answer comes to.
use Rattle.mig_relay.specs.declared.answer.RelayAnswer.{RelayAnswer}
use Rattle.mig_relay.specs.declared.answer.RelayAnswer.TheVariants as answers
use Rattle.mig_tool_guest.specs.Common.{Relayed, Outcome, RelaySummary}
use Rattle.mig_tool_report.specs.declared.outcome.Outcome.TheVariants as outcomes
use Rattle.mig_tool_report.specs.declared.outcome.Refusal.TheVariants as refusals

abbrev pub outcome_of_relay : RelayAnswer → Outcome
outcome_of_relay (answers.Refused place cause) = outcomes.Refused (refusals.Stream place cause)
outcome_of_relay answers.ReadFault = outcomes.ReadFault
outcome_of_relay answers.WriteFault = outcomes.WriteFault
outcome_of_relay answers.Memory = outcomes.Memory

-- what is said of it
abbrev pub summary_of_relay : Relayed → RelaySummary
summary_of_relay relayed = record { records = relayed.records; bytes = relayed.bytes }
