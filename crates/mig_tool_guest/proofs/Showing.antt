-- What the showing of a stream comes to.
use Rattle.mig_tool_guest.proofs.Common.{◌≡◌, ◌⊎◌, ℕ, List, Option, Some, None, sym, subst, refl, ap, Err, status_of, inl, inr, ComesTo, Effects, InputRises, IsUnwritten, show_promise, text_written, Appends, AppendsPart, Cause, Place, Outcome, OutputRises, FrontShown, SaysShown}
use Rattle.mig_tool_guest.proofs.Says.{ShowComes}
use Rattle.serde_json.specs.Data.{Data}
use Rattle.mig_show.specs.Shows.{RisesOnShow, Shows, tree_line}
use Rattle.mig_show.specs.declared.viewer.ShowAnswer.{ShowAnswer}
use Rattle.mig_tool_guest.proofs.Relaying.{taken_front}
use Rattle.mig_tool_guest.specs.ShownSteps.{outcome_of_shown, outcome_of_unshown}
use Rattle.mig_tool_report.specs.declared.outcome.Outcome.TheVariants as outcomes
use Rattle.mig_show.specs.declared.viewer.ShowAnswer.TheVariants as answers

-- this is the line of what is shown
abbrev Lines : Option (List ℕ) → Option (List ℕ) → Option (Place × Cause) → List ℕ → Type 0
Lines told left refused line = (tree : Data) × Shows told left refused tree × (line ≡ tree_line tree)

-- what was written then
abbrev Writes : Option (List ℕ) → Option (List ℕ) → Option (Place × Cause) → List ℕ → Outcome → Type 0
Writes old new refused line outcome = (outcome ≡ outcome_of_shown refused → Appends old new line) × (outcome ≡ outcomes.WriteFault → AppendsPart old new line)

-- a front that may pass was shown
front_shown : (input : List ℕ) (left old new : Option (List ℕ)) (line : List ℕ) → Lines (Some input) left None line → Appends old new line → FrontShown input left old new
front_shown input left old new line (tree, shows, is) wrote =
    let f = taken_front input shows.bytes left shows.s shows.passes shows.taken in
    record { rest = f.rest; front = f.front; left_is = f.left_is; tree = tree; shows = shows; wrote = subst (Appends old new) is wrote }

pub shown_comes : (told left old new : Option (List ℕ)) (refused : Option (Place × Cause)) (line : List ℕ) (outcome : Outcome) → Lines told left refused line → Writes old new refused line outcome
    → (outcome ≡ outcome_of_shown refused) ⊎ (outcome ≡ outcomes.WriteFault) → ShowComes told left old new outcome
shown_comes None left old new refused line outcome h wrote answers = tt
shown_comes (Some input) left old new None line outcome h wrote (inl is) = subst (ShowComes (Some input) left old new) (sym is) (front_shown input left old new line h (wrote.0 is))
shown_comes (Some input) left old new (Some refused) line outcome (tree, shows, same) wrote (inl is) = subst (ShowComes (Some input) left old new) (sym is) (shows.rest, shows.refused, shows.left_is)
shown_comes (Some input) left old new refused line outcome (tree, shows, same) wrote (inr is) =
    subst (ShowComes (Some input) left old new) (sym is) (record { refused = refused; tree = tree; shows = shows; wrote = subst (AppendsPart old new) same (wrote.1 is) })

pub shown_says : (told left old new : Option (List ℕ)) (refused : Option (Place × Cause)) (line : List ℕ) (outcome : Outcome) → Lines told left refused line → Writes old new refused line outcome
    → (outcome ≡ outcome_of_shown refused) ⊎ (outcome ≡ outcomes.WriteFault) → SaysShown (status_of outcome) told left old new
shown_says told left old new None line outcome (tree, shows, same) wrote (inl is) =
    subst (λ o. SaysShown (status_of o) told left old new) (sym is) (tree, shows, subst (Appends old new) same (wrote.0 is))
shown_says told left old new (Some refused) line outcome (tree, shows, same) wrote (inl is) =
    subst (λ o. SaysShown (status_of o) told left old new) (sym is) (refused.0, refused.1, tree, shows, subst (Appends old new) same (wrote.0 is))
shown_says told left old new refused line outcome (tree, shows, same) wrote (inr is) =
    subst (λ o. SaysShown (status_of o) told left old new) (sym is) (record { refused = refused; tree = tree; shows = shows; wrote = subst (AppendsPart old new) same (wrote.1 is) })

-- what came of it
pub shown_came : (e : Effects) (refused : Option (Place × Cause)) (outcome : Outcome) → ShowComes e.input.told e.input.left e.out.old e.out.new outcome → (outcome ≡ outcome_of_shown refused) ⊎ (outcome ≡ outcomes.WriteFault)
    → e.input.failed_now ≡ e.input.failed → OutputRises (status_of outcome) e.out.failed e.out.failed_now → ComesTo show_promise e outcome
shown_came e None outcome said (inl is) same write = text_written show_promise e outcome (inr (inl refl)) (inr (inr refl)) said (inl is) same write
shown_came e (Some refused) outcome said (inl is) same write = record {
  said = said;
  known = λ u. cc;
  kept = λ never. absurd (never (inl (ap status_of is)));
  read = subst (λ o. InputRises (status_of o) e.input.failed e.input.failed_now) (sym is) same;
  write = write;
}
shown_came e refused outcome said (inr is) same write = text_written show_promise e outcome (inr (inl refl)) (inr (inr refl)) said (inr is) same write

-- ---- nothing is shown

pub unshown_comes : (told left old new : Option (List ℕ)) (answer : ShowAnswer) (outcome : Outcome) → outcome ≡ outcome_of_unshown answer → ShowComes told left old new outcome
unshown_comes None left old new answer outcome is = tt
unshown_comes (Some input) left old new answers.ReadFault outcome is = subst (ShowComes (Some input) left old new) (sym is) tt
unshown_comes (Some input) left old new answers.Memory outcome is = subst (ShowComes (Some input) left old new) (sym is) tt

pub unshown_says : (told left old new : Option (List ℕ)) (answer : ShowAnswer) (outcome : Outcome) → outcome ≡ outcome_of_unshown answer → SaysShown (status_of outcome) told left old new
unshown_says told left old new answers.ReadFault outcome is = subst (λ o. SaysShown (status_of o) told left old new) (sym is) tt
unshown_says told left old new answers.Memory outcome is = subst (λ o. SaysShown (status_of o) told left old new) (sym is) tt

pub unshown_none : (answer : ShowAnswer) (outcome : Outcome) → outcome ≡ outcome_of_unshown answer → IsUnwritten outcome
unshown_none answers.ReadFault outcome is = subst IsUnwritten (sym is) tt
unshown_none answers.Memory outcome is = subst IsUnwritten (sym is) tt

pub unshown_count : (X : Type 0) (answer : ShowAnswer) (outcome : Outcome) (before now : ℕ) → outcome ≡ outcome_of_unshown answer → RisesOnShow {X = X} before now (Err answer) → InputRises (status_of outcome) before now
unshown_count X answers.ReadFault outcome before now is rises = subst (λ o. InputRises (status_of o) before now) (sym is) rises
unshown_count X answers.Memory outcome before now is rises = subst (λ o. InputRises (status_of o) before now) (sym is) rises
