-- The groups of a script: a dot ends each, and the calls of a machine run one after another.
use Rattle.std.specs.Prelude.{ℕ, zero, suc, ◌+◌, Bool, true, false, if◌then◌else◌, List, [], ◌∷◌, ◌++◌, length, filter, take, drop}
use Rattle.mig_machine_script.specs.ScriptLines.{LineOf}
use Rattle.mig_machine_script.specs.ScriptLines.LineOf.{Dot}

-- a group ends at this line
abbrev pub ends_group : LineOf → Bool
ends_group Dot = true
ends_group _ = false

-- how many dots there are
abbrev pub dots_in : List LineOf → ℕ
dots_in lines = length (filter ends_group lines)

-- the lines before the first dot; all where there is none
abbrev pub first_group : List LineOf → List LineOf
first_group [] = []
first_group (line ∷ lines) = if ends_group line then [] else line ∷ first_group lines

-- how many lines these are, the dot included
abbrev pub first_length : List LineOf → ℕ
first_length [] = 0
first_length (line ∷ lines) = if ends_group line then 1 else first_length lines + 1

-- how many lines there are up to the c-th dot, the dot included; all where there are fewer dots
abbrev pub lines_up_to : List LineOf → ℕ → ℕ
lines_up_to lines zero = 0
lines_up_to lines (suc c) = lines_up_to lines c + first_length (drop (lines_up_to lines c) lines)

-- the lines before the c-th dot, counting from 1, and all where there are fewer: those up to the dot before it, and the
-- group behind that
abbrev pub ran : List LineOf → ℕ → List LineOf
ran lines zero = []
ran lines (suc c) = take (lines_up_to lines c) lines ++ first_group (drop (lines_up_to lines c) lines)

-- the lines before the b-th dot beyond those before the a-th
abbrev pub ran_between : List LineOf → ℕ → ℕ → List LineOf
ran_between lines a b = drop (length (ran lines a)) (ran lines b)
