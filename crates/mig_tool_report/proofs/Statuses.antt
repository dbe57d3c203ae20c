-- The status and the line of what a command came to.
use Rattle.mig_tool_report.proofs.Common.{◌≡◌, ℕ, List, Option, Some, None, refl, subst, sym, line_of, status_of, Reports, IsStatusLine, OutcomeSays, Refusing, ReportsStatus, StatusSays, Outcome, Status}
use Rattle.mig_tool_report.specs.declared.outcome.Outcome.TheVariants as outcomes

module _ (D P : List ℕ → Type 0) (Has : Refusing) where
  -- the line of an outcome is that of its status
  line_is : (told left : Option (List ℕ)) (outcome : Outcome) → OutcomeSays D P Has told left outcome → IsStatusLine Has told (status_of outcome) (line_of outcome)
  line_is None left (outcomes.Refused refusal) h = (refusal, refl, tt)
  line_is (Some input) left (outcomes.Refused refusal) (rest, refused, is) = (refusal, refl, (rest, refused))
  line_is told left outcomes.Done h = refl
  line_is told left outcomes.Usage h = refl
  line_is told left outcomes.ReadFault h = refl
  line_is told left outcomes.WriteFault h = refl
  line_is told left outcomes.Memory h = refl

  -- and it was reported
  pub line_reported : (told left : Option (List ℕ)) (outcome : Outcome) (status : Status) (old new : Option (List ℕ)) (before now : ℕ) → status ≡ status_of outcome → OutcomeSays D P Has told left outcome → Reports (line_of outcome) old new before now
      → ReportsStatus Has told status old new before now
  line_reported told left outcome status old new before now is h line =
      (line_of outcome, subst (λ s. IsStatusLine Has told s (line_of outcome)) (sym is) (line_is told left outcome h), line)

  says : (input : List ℕ) (left : Option (List ℕ)) (outcome : Outcome) → OutcomeSays D P Has (Some input) left outcome → StatusSays D P Has (Some input) left (status_of outcome)
  says input left (outcomes.Refused refusal) (rest, refused, is) = record { refusal = refusal; rest = rest; refused = refused; left_is = is }
  says input left outcomes.Done h = h
  says input left outcomes.Usage h = h
  says input left outcomes.ReadFault h = h
  says input left outcomes.WriteFault h = h
  says input left outcomes.Memory h = h

  -- a status says what its outcome says
  pub says_of : (told left : Option (List ℕ)) (outcome : Outcome) (status : Status) → status ≡ status_of outcome → OutcomeSays D P Has told left outcome → StatusSays D P Has told left status
  says_of None left outcome status is h = tt
  says_of (Some input) left outcome status is h = subst (StatusSays D P Has (Some input) left) (sym is) (says input left outcome h)
