-- What a relay's answer says.
use Rattle.mig_tool_guest.proofs.Common.{◌≡◌, ◌⊎◌, ℕ, List, Option, Some, None, sym, subst, arith, line_reported, says_of, CarriedOut, Effects, HasOpenRefusal, InputRises, relay_promise, inl, inr, Appends, AppendsPart, Passes, Cause, Place, StreamOf, status_of, Outcome, Status, ◌++◌, Ok, Err, refl, ap, ◌∙◌, PutsLineOrFault, PutsSome, Consumes, Rose, ◌≤◌, ◌≢◌, line_of, Reports, relayed_line, write_fault_line, Refusal, FrontRelayed, OutputStopped, ReportStopped, PassableFront, PassedOn, SaysRelayed, counts_of}
use Rattle.mig_tool_guest.proofs.Says.{RelayComes, RelaySays}
use Rattle.mig_relay.specs.Streams.{open_stream_at, IsOpenRefused}
use Rattle.mig_relay.specs.Relaying.{PassedWhole, IsCutPart, IsWrittenPart, IsRelayed, RisesOnAnswer, WritesOnReadFault}
use Rattle.mig_relay.specs.declared.answer.RelayAnswer.{RelayAnswer}
use Rattle.mig_relay.specs.declared.answer.Relayed.{Relayed}
use Rattle.mig_tool_report.specs.declared.outcome.RelaySummary.{RelaySummary}
use Rattle.mig_bytes.proofs.Joins.{passes_not}
use Rattle.mig_tool_guest.specs.RelaySteps.{outcome_of_relay, summary_of_relay}
use Rattle.mig_relay.specs.declared.answer.RelayAnswer.TheVariants as answers
use Rattle.mig_tool_report.specs.declared.outcome.Refusal.TheVariants as refusals
use Rattle.mig_tool_report.specs.declared.status.Status.TheVariants as statuses

-- ---- what was passed on

-- the front of the input that was taken may pass
pub record Front (input : List ℕ) (left : Option (List ℕ)) : Type 0 where
  pub rest : List ℕ
  pub front : PassableFront input rest
  pub left_is : left ≡ Some rest

pub taken_front : (input bytes : List ℕ) (left : Option (List ℕ)) (s : StreamOf) → ((more : List ℕ) → open_stream_at (bytes ++ more) ≡ Passes s more) → Consumes (Some input) left bytes → Front input left
taken_front input bytes None s passes gone = absurd gone
taken_front input bytes (Some rest) s passes gone = record { rest = rest; front = record { s = s; passes = ap open_stream_at gone ∙ passes rest }; left_is = refl }

front_of : (input : List ℕ) (left old new : Option (List ℕ)) (relayed : Relayed) → PassedWhole (Some input) left old new relayed → Front input left
front_of input left old new relayed w = taken_front input w.front left w.s w.passes w.taken

pub passed_front : (input : List ℕ) (left old new : Option (List ℕ)) (summary : RelaySummary) → PassedOn (Some input) left old new summary → Front input left
passed_front input left old new summary w = front_of input left old new (counts_of summary) w

relayed_front : (Reported : List ℕ → Type 0) (input : List ℕ) (left old new : Option (List ℕ)) (relayed : Relayed) → PassedWhole (Some input) left old new relayed → Reported (relayed_line (summary_of_relay relayed)) → FrontRelayed Reported input left old new
relayed_front Reported input left old new relayed w reported =
    let f = front_of input left old new relayed w in
    record { rest = f.rest; front = f.front; left_is = f.left_is; summary = summary_of_relay relayed; passed = w; reported = reported }

pub passed_says : (told : Option (List ℕ)) (e : Effects) (relayed : Relayed) (status : Status) → IsRelayed told e.input.left e.out.old e.out.new (Ok relayed)
    → (status ≡ statuses.Done → Appends e.report.old e.report.new (relayed_line (summary_of_relay relayed))) → (status ≡ statuses.WriteFault → AppendsPart e.report.old e.report.new (relayed_line (summary_of_relay relayed)))
    → (status ≡ statuses.Done) ⊎ (status ≡ statuses.WriteFault) → RelaySays told e status
passed_says None e relayed status r done part answers = tt
passed_says (Some input) e relayed status r done part (inl is) = subst (RelaySays (Some input) e) (sym is) (relayed_front (Appends e.report.old e.report.new) input e.input.left e.out.old e.out.new relayed r.is (done is))
passed_says (Some input) e relayed status r done part (inr is) = subst (RelaySays (Some input) e) (sym is) (inr (relayed_front (AppendsPart e.report.old e.report.new) input e.input.left e.out.old e.out.new relayed r.is (part is)))

pub passed_relayed : (e : Effects) (relayed : Relayed) (status : Status) → IsRelayed e.input.told e.input.left e.out.old e.out.new (Ok relayed) → (status ≡ statuses.Done) ⊎ (status ≡ statuses.WriteFault) → SaysRelayed status e
passed_relayed e relayed status r (inl is) = subst (λ s. SaysRelayed s e) (sym is) (summary_of_relay relayed, r.is)
passed_relayed e relayed status r (inr is) = subst (λ s. SaysRelayed s e) (sym is) (inr (summary_of_relay relayed, r.is))

-- ---- what wasn't

unpassed : (told : Option (List ℕ)) (e : Effects) (answer : RelayAnswer) → IsRelayed told e.input.left e.out.old e.out.new (Err answer) → RelayComes told e (outcome_of_relay answer)
unpassed None e answer r = tt
unpassed (Some input) e (answers.Refused place cause) r = let h = r.is.refused in (h.0, h.1, h.2)
unpassed (Some input) e answers.ReadFault r = tt
unpassed (Some input) e answers.WriteFault r = inl r.is
unpassed (Some input) e answers.Memory r = tt

-- where a read failed, all that was passed on was written, or a write of the output failed too
abbrev AnswerWrites : Effects → RelayAnswer → Type 0
AnswerWrites e answer = WritesOnReadFault {X = Relayed} e.input.told e.input.left e.out.old e.out.new e.out.failed e.out.failed_now (Err answer)

read_says : (e : Effects) → IsCutPart e.input.told e.input.left e.out.old e.out.new → IsWrittenPart e.input.told e.input.left e.out.old e.out.new ⊎ Rose e.out.failed e.out.failed_now → SaysRelayed statuses.ReadFault e
read_says e part (inl whole) = inl whole
read_says e part (inr rose) = inr (part, rose)

unpassed_says : (e : Effects) (answer : RelayAnswer) → IsRelayed e.input.told e.input.left e.out.old e.out.new (Err answer) → AnswerWrites e answer → SaysRelayed (status_of (outcome_of_relay answer)) e
unpassed_says e (answers.Refused place cause) r wrote = (place, cause, r.is)
unpassed_says e answers.ReadFault r wrote = read_says e r.is wrote
unpassed_says e answers.WriteFault r wrote = inl r.is
unpassed_says e answers.Memory r wrote = r.is

-- the counts of the input and the output rose as the answer says
abbrev AnswerRises : Effects → RelayAnswer → Type 0
AnswerRises e answer = RisesOnAnswer {X = Relayed} e.input.failed e.input.failed_now e.out.failed e.out.failed_now (Err answer)

-- the line that says so was put, or a part of it
put_some : (e : Effects) → Reports write_fault_line e.report.old e.report.new e.report.failed e.report.failed_now → PutsSome write_fault_line e.report.old e.report.new
put_some e (inl put) = inl put.1
put_some e (inr put) = inr put.2

-- what is so with each answer, where the line of its outcome was put
record IsAnswered (e : Effects) (answer : RelayAnswer) : Type 0 where
  known : status_of (outcome_of_relay answer) ≢ statuses.Usage
  undone : status_of (outcome_of_relay answer) ≡ statuses.Done → ⊥
  read : InputRises (status_of (outcome_of_relay answer)) e.input.failed e.input.failed_now
  out : e.out.failed ≤ e.out.failed_now
  own : PutsLineOrFault relayed_line e.report.old e.report.new (status_of (outcome_of_relay answer))
  stopped : status_of (outcome_of_relay answer) ≡ statuses.WriteFault → OutputStopped e

answered : (e : Effects) (answer : RelayAnswer) → IsRelayed e.input.told e.input.left e.out.old e.out.new (Err answer) → AnswerRises e answer → Reports (line_of (outcome_of_relay answer)) e.report.old e.report.new e.report.failed e.report.failed_now → IsAnswered e answer
answered e (answers.Refused place cause) r rises line = record { known = λ u. cc; undone = λ d. cc; read = rises.0; out = omega (arith, rises.1); own = tt; stopped = λ f. cc }
answered e answers.ReadFault r rises line = record { known = λ u. cc; undone = λ d. cc; read = (rises.0, rises.1); out = rises.2; own = tt; stopped = λ f. cc }
answered e answers.WriteFault r rises line = record { known = λ u. cc; undone = λ d. cc; read = rises.0; out = rises.1; own = inr (put_some e line); stopped = λ _. record { rose = rises.2; part = r.is; line = line } }
answered e answers.Memory r rises line = record { known = λ u. cc; undone = λ d. cc; read = rises.0; out = omega (arith, rises.1); own = tt; stopped = λ f. cc }

-- what came of a stream that wasn't passed on to its end: the line of its outcome is put
unpassed_status : (e : Effects) (answer : RelayAnswer) → IsRelayed e.input.told e.input.left e.out.old e.out.new (Err answer) → RisesOnAnswer {X = Relayed} e.input.failed e.input.failed_now e.out.failed e.out.failed_now (Err answer)
    → AnswerWrites e answer → Reports (line_of (outcome_of_relay answer)) e.report.old e.report.new e.report.failed e.report.failed_now → e.report.failed ≤ e.report.failed_now → CarriedOut relay_promise e (status_of (outcome_of_relay answer))
unpassed_status e answer r rises wrote line later =
    let a = answered e answer r rises line in
    record {
      said = says_of (λ input. relay_promise.Done input e) (λ input. relay_promise.DonePart input e) HasOpenRefusal e.input.told e.input.left (outcome_of_relay answer) _ refl (unpassed e.input.told e answer r);
      known = a.known;
      kept = λ never. absurd (never tt);
      read = a.read;
      write = λ failed. inl (a.stopped failed).rose;
      line = λ _. line_reported (λ input. relay_promise.Done input e) (λ input. relay_promise.DonePart input e) HasOpenRefusal e.input.told e.input.left (outcome_of_relay answer) _ _ _ _ _ refl (unpassed e.input.told e answer r) line;
      own_line = a.own;
      out_faults = record { later = a.out; done = λ d. absurd (a.undone d) };
      report_faults = record { later = later; done = λ d. absurd (a.undone d) };
      besides = record { says = unpassed_says e answer r wrote; broke = λ failed. inl (a.stopped failed) };
    }

pub unpassed_carried : (e : Effects) (answer : RelayAnswer) (outcome : Outcome) (status : Status) → outcome ≡ outcome_of_relay answer → status ≡ status_of outcome → IsRelayed e.input.told e.input.left e.out.old e.out.new (Err answer)
    → RisesOnAnswer {X = Relayed} e.input.failed e.input.failed_now e.out.failed e.out.failed_now (Err answer)
    → WritesOnReadFault {X = Relayed} e.input.told e.input.left e.out.old e.out.new e.out.failed e.out.failed_now (Err answer) → Reports (line_of outcome) e.report.old e.report.new e.report.failed e.report.failed_now → e.report.failed ≤ e.report.failed_now → CarriedOut relay_promise e status
unpassed_carried e answer outcome status is stood r rises wrote line later =
    subst (CarriedOut relay_promise e) (sym (stood ∙ ap status_of is)) (unpassed_status e answer r rises wrote (subst (λ o. Reports (line_of o) e.report.old e.report.new e.report.failed e.report.failed_now) is line) later)

-- ---- a front that may pass isn't refused

passable_once : (input rest more : List ℕ) (place : Place) (cause : Cause) → PassableFront input rest → IsOpenRefused input place cause more → ⊥
passable_once input rest more place cause front refused = passes_not front.s rest (place, cause) more (sym front.passes ∙ refused)

pub front_once : (input rest more : List ℕ) (refusal : Refusal) → PassableFront input rest → HasOpenRefusal input refusal more → ⊥
front_once input rest more (refusals.Stream place cause) front refused = passable_once input rest more place cause front refused
front_once input rest more _ front refused = refused

-- ---- where all was passed on

pub passed_breaks : (e : Effects) (relayed : Relayed) → IsRelayed e.input.told e.input.left e.out.old e.out.new (Ok relayed) → e.out.failed_now ≡ e.out.failed → Rose e.report.failed e.report.failed_now → AppendsPart e.report.old e.report.new (relayed_line (summary_of_relay relayed)) → ReportStopped e
passed_breaks e relayed r quiet rose part = record { summary = summary_of_relay relayed; passed = r.is; quiet = quiet; rose = rose; reported = part }

pub passed_line : (old new : Option (List ℕ)) (relayed : Relayed) (status : Status) → (status ≡ statuses.Done → Appends old new (relayed_line (summary_of_relay relayed))) → (status ≡ statuses.WriteFault → AppendsPart old new (relayed_line (summary_of_relay relayed)))
    → (status ≡ statuses.Done) ⊎ (status ≡ statuses.WriteFault) → PutsLineOrFault relayed_line old new status
passed_line old new relayed status done part (inl is) = subst (PutsLineOrFault relayed_line old new) (sym is) (summary_of_relay relayed, done is)
passed_line old new relayed status done part (inr is) = subst (PutsLineOrFault relayed_line old new) (sym is) (inl (summary_of_relay relayed, part is))
