-- What a command comes to where no stream was read.
use Rattle.mig_tool_guest.proofs.Common.{Faulty, Outcome, OutcomeSays, InputRises, IsUnwritten, IsUntouched, CarriedOut, ComesTo, Effects, Promise, Refusal, Refusing, RisesOnReadFault, Reports, Status, ◌≡◌, ◌≤◌, ℕ, List, Option, Some, None, Err, sym, subst, finished, line_of, never_failed, no_line, outcome_of, reports_line, status_of, unwritten, or_stop, AgreesWithJudging, Judged, Answer}
use Rattle.mig_bytes.specs.declared.answer.Answer.TheVariants as answers
use Rattle.mig_tool_report.specs.declared.outcome.Outcome.TheVariants as outcomes

-- a reader of inputs judged so, and how what it refuses is told
module _ {P C X W : Type 0} (Of : X → W → Type 0) (judging : List ℕ → Judged (P × C) W) (told_as : P → C → Refusal) where
  -- the refusals of inputs are those that judging gives
  abbrev pub Refuse : Refusing → Type 0
  Refuse Refuses = (input : List ℕ) (place : P) (cause : C) (rest : List ℕ) → judging input ≡ Faulty (place, cause) rest → Refuses input (told_as place cause) rest

  -- nothing was written then
  not_written : (answer : Answer P C) (outcome : Outcome) → outcome ≡ outcome_of told_as answer → IsUnwritten outcome
  not_written answer outcome is = subst IsUnwritten (sym is) (by answer)
    where
      by : (answer : Answer P C) → IsUnwritten (outcome_of told_as answer)
      by (answers.Refused place cause) = tt
      by answers.ReadFault = tt
      by answers.Memory = tt

  -- the count of the input rose with a read fault alone
  rose : (answer : Answer P C) (outcome : Outcome) (before now : ℕ) → outcome ≡ outcome_of told_as answer → RisesOnReadFault {X = X} before now (or_stop (Err answer)) → InputRises (status_of outcome) before now
  rose answer outcome before now is rises = subst (λ o. InputRises (status_of o) before now) (sym is) (by answer rises)
    where
      by : (answer : Answer P C) → RisesOnReadFault {X = X} before now (or_stop (Err answer)) → InputRises (status_of (outcome_of told_as answer)) before now
      by (answers.Refused place cause) rises = rises
      by answers.ReadFault rises = rises
      by answers.Memory rises = rises

  -- and a refusal is one of the input
  refused : (D Part : List ℕ → Type 0) (Refuses : Refusing) → Refuse Refuses → (told left : Option (List ℕ)) (answer : Answer P C) (outcome : Outcome) → outcome ≡ outcome_of told_as answer
      → AgreesWithJudging Of told left judging (or_stop (Err answer)) → OutcomeSays D Part Refuses told left outcome
  refused D Part Refuses same told left answer outcome is h = subst (OutcomeSays D Part Refuses told left) (sym is) (by told answer h)
    where
      by : (told : Option (List ℕ)) (answer : Answer P C) → AgreesWithJudging Of told left judging (or_stop (Err answer)) → OutcomeSays D Part Refuses told left (outcome_of told_as answer)
      by None answer h = tt
      by (Some input) (answers.Refused place cause) (rest, is, left_is) = (rest, same input place cause rest is, left_is)
      by (Some input) answers.ReadFault h = tt
      by (Some input) answers.Memory h = tt

  pub unread_comes : (p : Promise) → Refuse p.Refuses → (e : Effects) (answer : Answer P C) (outcome : Outcome) → outcome ≡ outcome_of told_as answer → AgreesWithJudging Of e.input.told e.input.left judging (or_stop (Err answer))
      → RisesOnReadFault {X = X} e.input.failed e.input.failed_now (or_stop (Err answer)) → IsUntouched e.out → ComesTo p e outcome
  unread_comes p same e answer outcome is h rises idle =
      unwritten p e outcome (not_written answer outcome is) (refused _ _ p.Refuses same e.input.told e.input.left answer outcome is h) (rose answer outcome _ _ is rises) idle.untouched idle.quiet

  -- the line of that is put, by a command that would put one of its own
  pub unread_told : {Summary : Type 0} (line : Summary → List ℕ) (Accepts : List ℕ → Type 0) (Refuses : Refusing) (Says : (List ℕ → Type 0) → List ℕ → Option (List ℕ) → Type 0) → Refuse Refuses
      → (e : Effects) (answer : Answer P C) (outcome : Outcome) (status : Status) → outcome ≡ outcome_of told_as answer → AgreesWithJudging Of e.input.told e.input.left judging (or_stop (Err answer))
      → RisesOnReadFault {X = X} e.input.failed e.input.failed_now (or_stop (Err answer)) → IsUntouched e.out → status ≡ status_of outcome
      → Reports (line_of outcome) e.report.old e.report.new e.report.failed e.report.failed_now → (outcome ≡ outcomes.Done → e.report.failed_now ≡ e.report.failed) → e.report.failed ≤ e.report.failed_now
      → CarriedOut (reports_line line Accepts Refuses Says) e status
  unread_told line Accepts Refuses Says same e answer outcome status is h rises idle ends put quiet later =
      let none = not_written answer outcome is in
      finished (reports_line line Accepts Refuses Says) e outcome status ends (unread_comes (reports_line line Accepts Refuses Says) same e answer outcome is h rises idle)
      (never_failed outcome status none ends) put quiet later (no_line line _ _ outcome status none ends) tt
