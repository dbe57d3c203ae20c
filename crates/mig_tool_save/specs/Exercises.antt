-- What the program's own exercise comes to.
use Rattle.std.specs.Prelude.{◌≡◌, ⊤, ℕ, ◌+◌, ◌*◌, ◌≤◌, List, [], length, Option, Some}
use Rattle.mig_tool_save.specs.Common.{Appends, AppendsPart, view, canon_any, Paced, host_of_exercise, data_count, exercise_canon_len, script_of_exercise, exercised_line, SaveSummary, Status}
use Rattle.mig_guest.specs.Rounds.{most_rounds}
use Rattle.mig_tool_report.specs.declared.outcome.ExerciseSummary.{ExerciseSummary}
use Rattle.mig_tool_report.specs.declared.status.Status.TheVariants as statuses
use Rattle.mig_tool_save.specs.LiveSaves.{WroteLive, paused_host}

-- The numbers of an exercise with this seed and so many frames. It is saved in the rounds and up to the pause that its
-- host and its script tell, with an entry for each frame and those that are read again. The canonical stream of its
-- guest is as long as the number of frames says.
pub record Exercises (seed n : ℕ) (s : ExerciseSummary) : Type 0 where
  pub calls : ℕ
  pub again : ℕ
  pub frames : s.frames ≡ n
  pub paced : Paced (host_of_exercise seed n) (script_of_exercise seed n) s.rounds calls again
  pub entries : s.entries ≡ again + n
  pub few : again ≤ most_rounds * data_count n
  pub canon : s.canon ≡ exercise_canon_len n

-- The stream of an exercise is what a saver has to write of its host while its script runs. The canonical stream of the
-- guest that the host is seen as at the pause has so many bytes.
pub record ExerciseSaved (seed n : ℕ) (stream : List ℕ) (s : SaveSummary) (canon : ℕ) : Type 0 where
  pub wrote : WroteLive (host_of_exercise seed n) (script_of_exercise seed n) (Some []) (Some stream) s
  pub canon_is : canon ≡ length (canon_any (view (paused_host (host_of_exercise seed n) (script_of_exercise seed n) wrote.calls)))

-- an exercise was made, and its line was reported
pub record ExerciseReported (Reported : List ℕ → Type 0) (seed n : ℕ) : Type 0 where
  pub summary : ExerciseSummary
  pub is : Exercises seed n summary
  pub reported : Reported (exercised_line summary)

-- what a status of `exercise` says of the report; no other one comes
abbrev pub SaysExercise : ℕ → ℕ → Option (List ℕ) → Option (List ℕ) → Status → Type 0
SaysExercise seed n old new statuses.Done = ExerciseReported (Appends old new) seed n
SaysExercise seed n old new statuses.WriteFault = ExerciseReported (AppendsPart old new) seed n
SaysExercise seed n old new statuses.Memory = ⊤
SaysExercise seed n old new _ = ⊥
