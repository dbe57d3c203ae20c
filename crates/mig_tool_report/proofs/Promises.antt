-- Promises that are kept.
use Rattle.mig_tool_report.proofs.Common.{◌≡◌, ℕ, ◌≤◌, List, Option, refl, subst, sym, ◌∙◌, arith, line_of, inl, inr, ◌⊎◌, ◌≢◌, AppendsPart, Rose, IsUnwritten, status_of, Reports, EndsWithOwnLine, InputRises, NoneFailed, OutcomeSays, OutputRises, PutsLineOf, Refusing, StatusSays, Outcome, Status}
use Rattle.std.specs.Io.KnownBytes.{Appends}
use Rattle.mig_tool_report.specs.Promises.{CarriedOut, ComesTo, Effects, InputEffect, IsPartCopied, IsUntouched, Promise, SinkEffect, effects, reports_line, copies_text, unreached, writes_text}
use Rattle.mig_tool_report.specs.declared.outcome.Outcome.TheVariants as outcomes
use Rattle.mig_tool_report.specs.declared.status.Status.TheVariants as statuses
use Rattle.mig_tool_report.proofs.Statuses.{line_reported, says_of}

-- ---- outcomes and their statuses

pub usage_alone : (outcome : Outcome) → status_of outcome ≡ statuses.Usage → outcome ≡ outcomes.Usage
usage_alone outcomes.Usage is = refl
usage_alone outcomes.Done is = cc
usage_alone (outcomes.Refused refusal) is = cc
usage_alone outcomes.ReadFault is = cc
usage_alone outcomes.WriteFault is = cc
usage_alone outcomes.Memory is = cc

pub done_alone : (outcome : Outcome) → status_of outcome ≡ statuses.Done → outcome ≡ outcomes.Done
done_alone outcomes.Done is = refl
done_alone outcomes.Usage is = cc
done_alone (outcomes.Refused refusal) is = cc
done_alone outcomes.ReadFault is = cc
done_alone outcomes.WriteFault is = cc
done_alone outcomes.Memory is = cc

pub read_fault_alone : (outcome : Outcome) → status_of outcome ≡ statuses.ReadFault → outcome ≡ outcomes.ReadFault
read_fault_alone outcomes.ReadFault is = refl
read_fault_alone outcomes.Done is = cc
read_fault_alone outcomes.Usage is = cc
read_fault_alone (outcomes.Refused refusal) is = cc
read_fault_alone outcomes.WriteFault is = cc
read_fault_alone outcomes.Memory is = cc

-- ---- the counts of a sink

pub none_failed : (status : Status) (before now : ℕ) → OutputRises status before now → NoneFailed status before now
none_failed statuses.Done before now same = record { later = omega (arith, same); done = λ _. same }
none_failed statuses.Refused before now same = record { later = omega (arith, same); done = λ _. same }
none_failed statuses.Usage before now same = record { later = omega (arith, same); done = λ _. same }
none_failed statuses.ReadFault before now same = record { later = omega (arith, same); done = λ _. same }
none_failed statuses.WriteFault before now rises = record { later = rises.0; done = λ e. cc }
none_failed statuses.Memory before now same = record { later = omega (arith, same); done = λ _. same }

pub unchanged : (status : Status) (before now : ℕ) → now ≡ before → NoneFailed status before now
unchanged status before now same = record { later = omega (arith, same); done = λ _. same }

pub rose : (status : Status) (before now : ℕ) → OutputRises status before now → status ≡ statuses.WriteFault → Rose before now
rose status before now h is = let r = subst (λ s. OutputRises s before now) is h in r.1

-- ---- what a command came to

-- where nothing was written, the output is as it was
pub unwritten : (p : Promise) (e : Effects) (outcome : Outcome) → IsUnwritten outcome → OutcomeSays (λ input. p.Done input e) (λ input. p.DonePart input e) p.Refuses e.input.told e.input.left outcome
    → InputRises (status_of outcome) e.input.failed e.input.failed_now → e.out.Untouched → e.out.failed_now ≡ e.out.failed → ComesTo p e outcome
unwritten p e (outcomes.Refused refusal) none said read kept same = record { said = said; known = λ u. cc; kept = λ _. kept; read = read; write = same }
unwritten p e outcomes.ReadFault none said read kept same = record { said = said; known = λ u. cc; kept = λ _. kept; read = read; write = same }
unwritten p e outcomes.Memory none said read kept same = record { said = said; known = λ u. cc; kept = λ _. kept; read = read; write = same }
unwritten p e outcomes.Done none said read kept same = absurd none
unwritten p e outcomes.Usage none said read kept same = absurd none
unwritten p e outcomes.WriteFault none said read kept same = absurd none

-- a text was written, or a part of it
pub text_written : (p : Promise) (e : Effects) (outcome : Outcome) → p.MayWrite statuses.Done → p.MayWrite statuses.WriteFault → OutcomeSays (λ input. p.Done input e) (λ input. p.DonePart input e) p.Refuses e.input.told e.input.left outcome
    → (outcome ≡ outcomes.Done) ⊎ (outcome ≡ outcomes.WriteFault) → e.input.failed_now ≡ e.input.failed → OutputRises (status_of outcome) e.out.failed e.out.failed_now → ComesTo p e outcome
text_written p e outcome whole part said (inl is) same write = record {
  said = said;
  known = λ u. cc;
  kept = λ never. absurd (never (subst (λ o. p.MayWrite (status_of o)) (sym is) whole));
  read = subst (λ o. InputRises (status_of o) e.input.failed e.input.failed_now) (sym is) same;
  write = write;
}
text_written p e outcome whole part said (inr is) same write = record {
  said = said;
  known = λ u. cc;
  kept = λ never. absurd (never (subst (λ o. p.MayWrite (status_of o)) (sym is) part));
  read = subst (λ o. InputRises (status_of o) e.input.failed e.input.failed_now) (sym is) same;
  write = write;
}

-- an outcome before which nothing is written is no failed write
pub never_failed : {A : Type 0} (outcome : Outcome) (status : Status) → IsUnwritten outcome → status ≡ status_of outcome → status ≡ statuses.WriteFault → A
never_failed (outcomes.Refused refusal) status none is failed = cc
never_failed outcomes.ReadFault status none is failed = cc
never_failed outcomes.Memory status none is failed = cc
never_failed outcomes.Done status none is failed = absurd none
never_failed outcomes.Usage status none is failed = absurd none
never_failed outcomes.WriteFault status none is failed = absurd none

-- the line of the outcome is put, and its status answered
pub finished : (p : Promise) (e : Effects) (outcome : Outcome) (status : Status) → status ≡ status_of outcome → ComesTo p e outcome → (status ≡ statuses.WriteFault → p.WriteRose e)
    → Reports (line_of outcome) e.report.old e.report.new e.report.failed e.report.failed_now → (outcome ≡ outcomes.Done → e.report.failed_now ≡ e.report.failed) → e.report.failed ≤ e.report.failed_now
    → p.PutsOwnLine e.report status → p.Besides e status → CarriedOut p e status
finished p e outcome status is came write line quiet later own besides = record {
  said = says_of (λ input. p.Done input e) (λ input. p.DonePart input e) p.Refuses e.input.told e.input.left outcome status is came.said;
  known = λ u. came.known (usage_alone outcome (sym is ∙ u));
  kept = λ never. came.kept (subst (λ s. p.MayWrite s → ⊥) is never);
  read = subst (λ s. InputRises s e.input.failed e.input.failed_now) (sym is) came.read;
  write = write;
  line = λ _. line_reported (λ input. p.Done input e) (λ input. p.DonePart input e) p.Refuses e.input.told e.input.left outcome status e.report.old e.report.new e.report.failed e.report.failed_now is came.said line;
  own_line = own;
  out_faults = subst (λ s. NoneFailed s e.out.failed e.out.failed_now) (sym is) (none_failed (status_of outcome) _ _ came.write);
  report_faults = record { later = later; done = λ d. quiet (done_alone outcome (sym is ∙ d)) };
  besides = besides;
}

-- of a text that was written, the count of the output rose with status 4
pub text_rose : (outcome : Outcome) (status : Status) (before now : ℕ) → status ≡ status_of outcome → OutputRises (status_of outcome) before now → status ≡ statuses.WriteFault → Rose before now
text_rose outcome status before now is write failed = rose (status_of outcome) before now write (sym is ∙ failed)

-- ---- a command's own line

pub own_line_alone : {A : Type 0} (status : Status) → (status ≡ statuses.Done) ⊎ (status ≡ statuses.WriteFault) → (EndsWithOwnLine status → ⊥) → A
own_line_alone status (inl is) none = absurd (none (subst EndsWithOwnLine (sym is) tt))
own_line_alone status (inr is) none = absurd (none (subst EndsWithOwnLine (sym is) tt))

pub never_usage : (status : Status) → (status ≡ statuses.Done) ⊎ (status ≡ statuses.WriteFault) → status ≢ statuses.Usage
never_usage status (inl is) u = cc
never_usage status (inr is) u = cc

pub input_same : (status : Status) (before now : ℕ) → (status ≡ statuses.Done) ⊎ (status ≡ statuses.WriteFault) → now ≡ before → InputRises status before now
input_same status before now (inl is) same = subst (λ s. InputRises s before now) (sym is) same
input_same status before now (inr is) same = subst (λ s. InputRises s before now) (sym is) same

-- a command puts none before which nothing is written
pub no_line : {Summary : Type 0} (line : Summary → List ℕ) (old new : Option (List ℕ)) (outcome : Outcome) (status : Status) → IsUnwritten outcome → status ≡ status_of outcome → PutsLineOf line old new status
no_line {Summary} line old new outcome status none is = subst (PutsLineOf line old new) (sym is) (by outcome none)
  where
    by : (outcome : Outcome) → IsUnwritten outcome → PutsLineOf line old new (status_of outcome)
    by (outcomes.Refused refusal) none = tt
    by outcomes.ReadFault none = tt
    by outcomes.Memory none = tt
    by _ none = absurd none

-- the line of what the input is was put, or a part of it
pub line_put : {Summary : Type 0} (line : Summary → List ℕ) (Accepts : List ℕ → Type 0) (Refuses : Refusing) (Says : (List ℕ → Type 0) → List ℕ → Option (List ℕ) → Type 0) (e : Effects) (status : Status)
    → StatusSays (λ input. Says (Appends e.report.old e.report.new) input e.input.left) (λ input. Says (AppendsPart e.report.old e.report.new) input e.input.left) Refuses e.input.told e.input.left status
    → (status ≡ statuses.Done) ⊎ (status ≡ statuses.WriteFault) → e.input.failed_now ≡ e.input.failed → IsUntouched e.out → (status ≡ statuses.WriteFault → Rose e.report.failed e.report.failed_now)
    → PutsLineOf line e.report.old e.report.new status → e.report.failed ≤ e.report.failed_now → (status ≡ statuses.Done → e.report.failed_now ≡ e.report.failed) → CarriedOut (reports_line line Accepts Refuses Says) e status
line_put line Accepts Refuses Says e status said answers same idle rises own later quiet = record {
  said = said;
  known = never_usage status answers;
  kept = λ _. idle.untouched;
  read = input_same status _ _ answers same;
  write = rises;
  line = λ none. own_line_alone status answers none;
  own_line = own;
  out_faults = unchanged status _ _ idle.quiet;
  report_faults = record { later = later; done = quiet };
  besides = tt;
}

-- a command that puts a line alone was carried out so, whatever the output is, where that is as it was
pub beside : {Summary : Type 0} (line : Summary → List ℕ) (Accepts : List ℕ → Type 0) (Refuses : Refusing) (Says : (List ℕ → Type 0) → List ℕ → Option (List ℕ) → Type 0) (input : InputEffect) (out report : SinkEffect) (status : Status) → IsUntouched out
    → CarriedOut (reports_line line Accepts Refuses Says) (effects input unreached report) status → CarriedOut (reports_line line Accepts Refuses Says) (effects input out report) status
beside line Accepts Refuses Says input out report status idle c = assumption (unchanged status _ _ idle.quiet)

pub untouched_sink : IsUntouched unreached
untouched_sink = record { untouched = tt; quiet = refl }

-- a command that writes a text puts no line but that of its status
pub text_told : (Accepts : List ℕ → Type 0) (Refuses : Refusing) (Text Part : List ℕ → (left old new : Option (List ℕ)) → Type 0) (input : InputEffect) (out report : SinkEffect) (outcome : Outcome) (status : Status)
    → status ≡ status_of outcome → ComesTo (writes_text Accepts Refuses Text Part) (effects input out unreached) outcome → Reports (line_of outcome) report.old report.new report.failed report.failed_now
    → (outcome ≡ outcomes.Done → report.failed_now ≡ report.failed) → report.failed ≤ report.failed_now → CarriedOut (writes_text Accepts Refuses Text Part) (effects input out report) status
text_told Accepts Refuses Text Part input out report outcome status is c line quiet later =
    let came : ComesTo (writes_text Accepts Refuses Text Part) (effects input out report) outcome = record { said = c.said; known = c.known; kept = c.kept; read = c.read; write = c.write } in
    finished (writes_text Accepts Refuses Text Part) (effects input out report) outcome status is came (text_rose outcome status _ _ is c.write) line quiet later tt tt

-- nor does one that copies it from a file
pub copy_told : (Accepts : List ℕ → Type 0) (Refuses : Refusing) (Text Part : List ℕ → (left old new : Option (List ℕ)) → Type 0) (input : InputEffect) (out report : SinkEffect) (outcome : Outcome) (status : Status)
    → status ≡ status_of outcome → ComesTo (copies_text Accepts Refuses Text Part) (effects input out unreached) outcome
    → (outcome ≡ outcomes.ReadFault → out.Untouched ⊎ IsPartCopied Part (effects input out unreached))
    → Reports (line_of outcome) report.old report.new report.failed report.failed_now
    → (outcome ≡ outcomes.Done → report.failed_now ≡ report.failed) → report.failed ≤ report.failed_now → CarriedOut (copies_text Accepts Refuses Text Part) (effects input out report) status
copy_told Accepts Refuses Text Part input out report outcome status is c part line quiet later =
    let came : ComesTo (copies_text Accepts Refuses Text Part) (effects input out report) outcome = record { said = c.said; known = c.known; kept = c.kept; read = c.read; write = c.write } in
    finished (copies_text Accepts Refuses Text Part) (effects input out report) outcome status is came (text_rose outcome status _ _ is c.write) line quiet later tt (λ failed. part (read_fault_alone outcome (sym is ∙ failed)))
