-- What the steps of a live save answer.
use Rattle.std.specs.Prelude.{◌≡◌, ⊤, ℕ, List, [], Option, Some, None, Result, Ok, Err}
use Rattle.mig_bytes.specs.declared.answer.Answer.{Answer}
use Rattle.mig_bytes.specs.declared.answer.Answer.TheVariants as answers
use Rattle.mig_bytes.specs.declared.stop.Stop.{Stop}
use Rattle.mig_bytes.specs.declared.stop.Stop.TheVariants as stops
use Rattle.mig_tool_save.specs.Common.{ImageCause, ImagePlace, HostOf, Passes, Refusal, LineOf, IsOfInput}
use Rattle.mig_host.specs.HostView.{HostAndSpare}
use Rattle.mig_tool_report.specs.declared.outcome.Outcome.{Outcome}
use Rattle.mig_tool_report.specs.declared.outcome.Outcome.TheVariants as outcomes
use Rattle.mig_tool_report.specs.declared.outcome.Refusal.TheVariants as refusals
use Rattle.mig_machine_script.specs.declared.script.ScriptAnswer.{ScriptAnswer}
use Rattle.mig_machine_script.specs.declared.script.ScriptAnswer.TheVariants as scripts
use Rattle.mig_tool_save.specs.Saves.{HasSaveRefusal}
use Rattle.mig_tool_save.specs.LiveSaves.{HasHostAndScript, PausesUnsound, saved_host_at}
use Rattle.mig_tool_save.specs.declared.saving.HostAndScript.{HostAndScript}

abbrev pub stop_of_image : Answer ImagePlace ImageCause → Stop Refusal
stop_of_image (answers.Refused place cause) = stops.Refused (refusals.Image place cause)
stop_of_image answers.ReadFault = stops.ReadFault
stop_of_image answers.Memory = stops.Memory

abbrev pub stop_of_script : ScriptAnswer → Stop Refusal
stop_of_script (scripts.BadLine line) = stops.Refused (refusals.BadLine line)
stop_of_script scripts.TooLong = stops.Refused refusals.TooLong
stop_of_script scripts.ReadFault = stops.ReadFault
stop_of_script scripts.Memory = stops.Memory

-- the input is refused, by itself, and so much of it is left
abbrev pub StopsAt : List ℕ → Option (List ℕ) → Stop Refusal → Type 0
StopsAt input left (stops.Refused refusal) = (rest : List ℕ) × HasSaveRefusal input refusal rest × IsOfInput refusal × (left ≡ Some rest)
StopsAt input left stops.ReadFault = ⊤
StopsAt input left stops.Memory = ⊤

-- the host of the input, and what is left behind its image; or why it isn't read
abbrev pub ReadsHostToSave : Option (List ℕ) → Option (List ℕ) → Result HostAndSpare (Stop Refusal) → Type 0
ReadsHostToSave None left result = ⊤
ReadsHostToSave (Some input) left (Ok host) = (text : List ℕ) × (saved_host_at input ≡ Passes host.host text) × (left ≡ Some text)
ReadsHostToSave (Some input) left (Err stop) = StopsAt input left stop

-- the host and the script of the input, of which nothing is left; or why they aren't read
abbrev pub ReadsHostAndScript : Option (List ℕ) → Option (List ℕ) → Result HostAndScript (Stop Refusal) → Type 0
ReadsHostAndScript None left result = ⊤
ReadsHostAndScript (Some input) left (Ok read) = HasHostAndScript input read.host.host (read.script) × (left ≡ Some [])
ReadsHostAndScript (Some input) left (Err stop) = StopsAt input left stop

-- what a stop comes to
abbrev pub outcome_of_stop : Stop Refusal → Outcome
outcome_of_stop (stops.Refused refusal) = outcomes.Refused refusal
outcome_of_stop stops.ReadFault = outcomes.ReadFault
outcome_of_stop stops.Memory = outcomes.Memory

-- why a host and its script came to no stream: the host at the pause can't be seen as a guest, a write failed, or there was no
-- memory
abbrev pub ComesToNone : HostOf → List LineOf → Outcome → Type 0
ComesToNone host lines (outcomes.Refused (refusals.Pause unsound)) = PausesUnsound host lines unsound
ComesToNone host lines outcomes.WriteFault = ⊤
ComesToNone host lines outcomes.Memory = ⊤
ComesToNone host lines _ = ⊥
