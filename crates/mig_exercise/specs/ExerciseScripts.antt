-- The script of the exercise: writes into frames of data, one between two calls of a machine.
use Rattle.std.specs.Prelude.{◌≡◌, ◌≤◌, ◌<◌, ⊤, ℕ, zero, suc, ◌+◌, ◌*◌, ◌%◌, List, [], ◌∷◌, ◌++◌, length}
use Rattle.mig_exercise.specs.Common.{little_bytes, LineOf}
use Rattle.mig_machine_script.specs.ScriptLines.LineOf.{Write, Dot}
use Rattle.mig_exercise.specs.Numbers.{number}
use Rattle.mig_exercise.specs.ExerciseHosts.{first_data, data_count}

-- Write i, counted from 0: behind the numbers of the frames of data, one number tells the frame, and the next one what is
-- written at its front.
abbrev pub exercise_write : ℕ → ℕ → ℕ → LineOf
exercise_write seed n i = Write (first_data n + number seed (data_count n + 2 * i) % data_count n) 0 (little_bytes 8 (number seed (data_count n + 2 * i + 1)))

-- the first m writes, each with a dot behind it
unfoldable pub writes_up_to : ℕ → ℕ → ℕ → List LineOf
writes_up_to seed n zero = []
writes_up_to seed n (suc m) = writes_up_to seed n m ++ exercise_write seed n m ∷ Dot ∷ []

-- twice as many as there are frames
abbrev pub script_of_exercise : ℕ → ℕ → List LineOf
script_of_exercise seed n = writes_up_to seed n (2 * n)

-- a line that writes 8 bytes at the front of a frame of data, or a dot
abbrev pub IsDataWrite : ℕ → LineOf → Type 0
IsDataWrite n (Write pfn at bytes) = (first_data n ≤ pfn) × (pfn < n) × (at ≡ 0) × (length bytes ≡ 8)
IsDataWrite n Dot = ⊤
IsDataWrite n _ = ⊥
