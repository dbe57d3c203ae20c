-- A script: lines ended by LF, where the last may lack it.
use Rattle.std.specs.Prelude.{◌≡◌, ◌≢◌, ◌⊎◌, ◌<◌, ℕ, ◌+◌, List, [], ◌∷◌, ◌++◌, length}
use Rattle.mig_machine_script.specs.Common.{All}
use Rattle.mig_machine_script.specs.ScriptLines.{LineOf, IsScriptLine}

-- Bytes begin with this text, and the others follow it: the text has no LF, and one ends it; or it is all there is, and it
-- isn't empty.
pub record BeginsWithText (bytes text others : List ℕ) : Type 0 where
  pub one : All (λ b. b ≢ 10) text
  pub ended : (bytes ≡ text ++ 10 ∷ others) ⊎ ((0 < length text) × (bytes ≡ text) × (others ≡ []))

-- bytes are these lines, and then the others
abbrev pub AreScriptLines : List ℕ → List LineOf → List ℕ → Type 0
AreScriptLines bytes [] others = bytes ≡ others
AreScriptLines bytes (line ∷ lines) others = (text : List ℕ) × (behind : List ℕ) × BeginsWithText bytes text behind × IsScriptLine text line × AreScriptLines behind lines others

abbrev pub IsScript : List ℕ → List LineOf → Type 0
IsScript bytes lines = AreScriptLines bytes lines []

-- the first text that is no line has this number, counted from 1: so many lines stand before it
pub record IsBadLine (bytes : List ℕ) (number : ℕ) : Type 0 where
  pub lines : List LineOf
  pub behind : List ℕ
  pub good : AreScriptLines bytes lines behind
  pub text : List ℕ
  pub others : List ℕ
  pub next : BeginsWithText behind text others
  pub bad : (line : LineOf) → IsScriptLine text line → ⊥
  pub counted : number ≡ length lines + 1

-- the most bytes that a script may have
abbrev pub most_script_bytes : ℕ
most_script_bytes = 16777216
