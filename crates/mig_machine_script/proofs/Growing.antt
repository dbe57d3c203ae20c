-- Lines are added behind lines; what is left of an input that is too long.
use Rattle.mig_machine_script.proofs.Common.{◌≡◌, ℕ, List, [], ◌∷◌, ◌++◌, length, map, drop, Option, Some, None, Err, refl, sym, ap, subst, ◌∙◌, arith, length-append, common_steps, LineOf, IsScriptLine, line_said, AreScriptLines, BeginsWithText, map-append}
use Rattle.std.specs.Io.KnownBytes.{Consumes}
use Rattle.mig_bytes.specs.Bytes.{Grown}
use Rattle.mig_bytes.specs.declared.stop.Got.{Got}
use Rattle.mig_bytes.specs.declared.stop.Got.TheVariants.{Whole, Short}
use Rattle.mig_machine_script.specs.declared.script.Line.{Line}
use Rattle.mig_machine_script.specs.declared.script.ScriptAnswer.TheVariants.{TooLong}
use Rattle.mig_machine_script.specs.ScriptAnswers.{ReadsScript}

one_more : (bytes : List ℕ) (lines : List LineOf) (left text behind : List ℕ) (line : LineOf) → AreScriptLines bytes lines left → BeginsWithText left text behind → IsScriptLine text line → AreScriptLines bytes (lines ++ line ∷ []) behind
one_more bytes [] left text behind line e begins is = (text, behind, subst (λ (l : List ℕ). BeginsWithText l text behind) (sym e) begins, is, refl)
one_more bytes (first ∷ lines) left text behind line h begins is = (h.0, h.1, h.2, h.3, one_more h.1 lines left text behind line h.4 begins is)

-- a line that was read is kept behind the others
pub kept : (bytes : List ℕ) (lines now : List Line) (left text behind : List ℕ) (line : Line) → now ≡ lines ++ line ∷ [] → AreScriptLines bytes (map line_said lines) left → BeginsWithText left text behind → IsScriptLine text (line_said line) → AreScriptLines bytes (map line_said now) behind
kept bytes lines now left text behind line e h begins is =
    let grown : map line_said lines ++ line_said line ∷ [] ≡ map line_said now = sym (ap (map line_said) e ∙ map-append line_said lines (line ∷ [])) in
    subst (λ (l : List LineOf). AreScriptLines bytes l behind) grown (one_more bytes (map line_said lines) left text behind (line_said line) h begins is)

behind_all : (bytes left : List ℕ) (n : ℕ) → length bytes ≡ n → left ≡ drop n (bytes ++ left)
behind_all bytes left n h = grind (arith, common_steps)

-- so many bytes were taken that there are too many
too_long : (old new : Option (List ℕ)) (bytes : List ℕ) → length bytes ≡ 16777217 → Consumes old new bytes → ReadsScript old new (Err TooLong)
too_long None new bytes len h = tt
too_long (Some input) None bytes len h = absurd h
too_long (Some input) (Some left) bytes len h = (
  let all = ap length h in
      let two = length-append bytes left in
      omega (arith, all, two, len),
  ap Some (behind_all bytes left 16777217 len ∙ ap (drop 16777217) (sym h)),
)

pub whole_is_too_long : (old new : Option (List ℕ)) (before now : List ℕ) (got : Got) → got ≡ Whole → Grown old new before now 16777217 got → ReadsScript old new (Err TooLong)
whole_is_too_long old new before now Whole e h = too_long old new h.0 h.1 h.3
whole_is_too_long old new before now (Short n) e h = cc
