-- What the reader of a script answers.
use Rattle.std.specs.Prelude.{◌≡◌, ◌<◌, ◌≤◌, ℕ, ◌+◌, List, [], drop, length, Option, Some, None, Result, Ok, Err, ⊤}
use Rattle.mig_machine_script.specs.Common.{Rose}
use Rattle.mig_machine_script.specs.declared.script.Script.{Script}
use Rattle.mig_machine_script.specs.declared.script.ScriptAnswer.{ScriptAnswer}
use Rattle.mig_machine_script.specs.declared.script.ScriptAnswer.TheVariants.{BadLine, TooLong, ReadFault, Memory}
use Rattle.mig_machine_script.specs.Scripts.{IsScript, IsBadLine, most_script_bytes}

-- what is answered of an input, and what of it is left
abbrev pub AnswersInput : List ℕ → Option (List ℕ) → Result Script ScriptAnswer → Type 0
AnswersInput input left (Ok script) = (left ≡ Some []) × (length input ≤ most_script_bytes) × IsScript input script
AnswersInput input left (Err (BadLine number)) = (left ≡ Some []) × (length input ≤ most_script_bytes) × IsBadLine input number
AnswersInput input left (Err TooLong) = (most_script_bytes < length input) × (left ≡ Some (drop (most_script_bytes + 1) input))
AnswersInput input left (Err ReadFault) = ⊤
AnswersInput input left (Err Memory) = ⊤

-- the same where the source tells its bytes
abbrev pub ReadsScript : Option (List ℕ) → Option (List ℕ) → Result Script ScriptAnswer → Type 0
ReadsScript None new result = ⊤
ReadsScript (Some input) new result = AnswersInput input new result

-- a read fault is answered only where the count of the source rose, and every other answer only where it is as it was
abbrev pub RisesOnScriptFault : ℕ → ℕ → Result Script ScriptAnswer → Type 0
RisesOnScriptFault before now (Ok script) = now ≡ before
RisesOnScriptFault before now (Err (BadLine number)) = now ≡ before
RisesOnScriptFault before now (Err TooLong) = now ≡ before
RisesOnScriptFault before now (Err ReadFault) = (before ≤ now) × Rose before now
RisesOnScriptFault before now (Err Memory) = now ≡ before

-- it is a script, or its first bad line, or it is too long
abbrev pub IsJudgedScript : Result Script ScriptAnswer → Type 0
IsJudgedScript (Ok script) = ⊤
IsJudgedScript (Err (BadLine number)) = ⊤
IsJudgedScript (Err TooLong) = ⊤
IsJudgedScript (Err ReadFault) = ⊥
IsJudgedScript (Err Memory) = ⊥
