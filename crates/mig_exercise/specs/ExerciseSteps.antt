-- What stands while the host of the exercise is built.
use Rattle.std.specs.Prelude.{ℕ, List, ◌==◌, if◌then◌else◌}
use Rattle.std.specs.FinMap as maps
use Rattle.mig_exercise.specs.Common.{Pv, HostOf, longs}
use Rattle.mig_exercise.specs.ExerciseHosts.{frames_up_to}

-- the host with its first m frames, and without parts
abbrev pub host_begun : ℕ → (ℕ → List ℕ) → ℕ → HostOf
host_begun n contents m = record { kind = Pv; width = n; frames = frames_up_to n contents m; parts = maps.empty }

-- a page with a number at its front, and else zeros
abbrev pub number_page : ℕ → List ℕ
number_page x = longs 512 (λ slot. if slot == 0 then x else 0)
