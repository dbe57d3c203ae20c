-- What an exercise comes to.
use Rattle.mig_tool_save.proofs.Common.{◌≡◌, ◌⊎◌, ℕ, ◌++◌, List, [], length, Option, Some, None, Ok, Err, refl, sym, ap, subst, ◌∙◌, arith, GuestOf, AcceptedStream, inl, inr, append-nil, HostOf, unsoundness, Outcome, LineOf, ◌≤◌, view, canon_any, Paced, IsExerciseSize, host_of_exercise, script_of_exercise, SaveSummary, WroteLive, WroteLiveTo, paused_host, ComesToNone, RisesOnReadFault, ◌*◌, data_count, exercise_canon_len, ◌≢◌, Rose, unchanged, CarriedOut, Effects, Reports, exercised_line, memory_line, EndsWithOwnLine, InputRises, PutsLineOf, ReportsStatus, StatusSays, Status, exercise_promise}
use Rattle.mig_bytes.specs.Answers.{or_stop}
use Rattle.mig_headers.specs.declared.fault.Cause.{Cause}
use Rattle.mig_headers.specs.declared.fault.Place.{Place}
use Rattle.mig_libxl.specs.Reads.{ReadsStream}
use Rattle.mig_libxl_form.proofs.Laws.{accepted_is_stream, one_front, never_both}
use Rattle.mig_restore.specs.declared.read.Reading.{Reading}
use Rattle.mig_bytes.specs.declared.answer.Answer.{Answer}
use Rattle.mig_tool_report.specs.declared.status.Status.TheVariants as statuses
use Rattle.mig_tool_save.specs.Exercises.{Exercises, ExerciseSaved, SaysExercise}
use Rattle.mig_bytes.specs.declared.answer.Answer.TheVariants as answers
use Rattle.mig_tool_report.specs.declared.outcome.Outcome.TheVariants as outcomes
use Rattle.mig_tool_report.specs.declared.outcome.Refusal.TheVariants as refusals

-- ---- a stream is read again

-- it is accepted with this guest, whatever follows it
abbrev pub Means : List ℕ → GuestOf → Type 0
Means stream guest = (rest : List ℕ) → AcceptedStream (stream ++ rest) guest rest

alone : (stream : List ℕ) (guest : GuestOf) → Means stream guest → AcceptedStream stream guest []
alone stream guest means = subst (λ (s : List ℕ). AcceptedStream s guest []) (append-nil stream) (means [])

pub read_again : (stream : List ℕ) (left : Option (List ℕ)) (reading : Reading) (guest : GuestOf) → ReadsStream (Some stream) left (Ok reading) → Means stream guest → reading.guest ≡ guest
read_again stream left reading guest (s, rest, accepts, left_is, is_read) means =
    let front : AcceptedStream stream reading.guest rest = record { stream = s; image = is_read.image; spelled = accepted_is_stream stream s rest accepts; image_is = is_read.is; means = is_read.guest } in
    (one_front stream reading.guest guest rest [] front (alone stream guest means)).0

-- and nothing but want of memory is in the way of reading it
pub only_memory : (stream : List ℕ) (left : Option (List ℕ)) (answer : Answer Place Cause) → ((guest : GuestOf) × Means stream guest) → ReadsStream (Some stream) left (Err answer)
    → RisesOnReadFault 0 0 (or_stop {X = Reading} (Err answer)) → answer ≡ answers.Memory
only_memory stream left (answers.Refused place cause) (guest, means) (rest, refused, is) faults = absurd (never_both stream guest [] place cause rest (alone stream guest means) refused)
only_memory stream left answers.ReadFault h read (later, rose) = absurd (omega (arith, rose))
only_memory stream left answers.Memory h read faults = refl

-- ---- a host that is sound at each pause is saved

pub never_unsound : (h : HostOf) (lines : List LineOf) (outcome : Outcome) → ((calls : ℕ) → unsoundness (paused_host h lines calls) ≡ None) → ComesToNone h lines outcome → (outcome ≡ outcomes.WriteFault) ⊎ (outcome ≡ outcomes.Memory)
never_unsound h lines (outcomes.Refused (refusals.Pause unsound)) sound none =
    let no : None ≡ Some unsound = sym (sound none.calls) ∙ none.first in absurd cc
never_unsound h lines outcomes.WriteFault sound none = inl refl
never_unsound h lines outcomes.Memory sound none = inr refl
never_unsound h lines _ sound none = absurd none

pub sound_at : (h k : HostOf) (ls ms : List LineOf) → h ≡ k → ls ≡ ms → ((calls : ℕ) → unsoundness (paused_host k ms calls) ≡ None) → (calls : ℕ) → unsoundness (paused_host h ls calls) ≡ None
sound_at h k ls ms same alike sound calls = ap (λ (x : HostOf). unsoundness (paused_host x ls calls)) same ∙ ap (λ (x : List LineOf). unsoundness (paused_host k x calls)) alike ∙ sound calls

-- ---- a machine was saved into memory

module _ (h : HostOf) (lines : List LineOf) (now : HostOf) (old new : List ℕ) (s : SaveSummary) (w : WroteLiveTo h lines now (Some old) (Some new) s) (empty : old ≡ []) where
  pub sound_now : unsoundness now ≡ None
  sound_now = ap (λ (x : HostOf). unsoundness x) w.at_pause ∙ w.wrote.sound

  pub means_now : Means new (view now)
  means_now rest =
      let text : new ≡ w.wrote.text = w.wrote.wrote ∙ ap (λ (l : List ℕ). l ++ w.wrote.text) empty in
      subst (λ (l : List ℕ). AcceptedStream (l ++ rest) (view now) rest) (sym text)
      (subst (λ (x : HostOf). AcceptedStream (w.wrote.text ++ rest) (view x) rest) (sym w.at_pause) (w.wrote.means rest))

  -- what was written of this host, and so long is the canonical stream of the guest at the pause
  abbrev SavedAs : ℕ → HostOf → List LineOf → List ℕ → Type 0
  SavedAs canon k ls from = (wrote : WroteLive k ls (Some from) (Some new) s) × (canon ≡ length (canon_any (view (paused_host k ls wrote.calls))))

  pub exercise_saved : (seed n canon : ℕ) → h ≡ host_of_exercise seed n → lines ≡ script_of_exercise seed n → canon ≡ length (canon_any (view now)) → ExerciseSaved seed n new s canon
  exercise_saved seed n canon host script len =
      let here : SavedAs canon h lines old = (w.wrote, len ∙ ap (λ (x : HostOf). length (canon_any (view x))) w.at_pause) in
      let there = subst (λ (k : HostOf). SavedAs canon k (script_of_exercise seed n) []) host (subst (λ (ls : List LineOf). SavedAs canon h ls []) script (subst (SavedAs canon h lines) empty here)) in
      record { wrote = there.0; canon_is = there.1 }

pub exercises : (seed n canon : ℕ) (stream : List ℕ) (s : SaveSummary) → IsExerciseSize n
    → ((c : ℕ) → length (canon_any (view (paused_host (host_of_exercise seed n) (script_of_exercise seed n) c))) ≡ exercise_canon_len n)
    → ((r c e : ℕ) → Paced (host_of_exercise seed n) (script_of_exercise seed n) r c e → e ≤ 5 * data_count n)
    → ExerciseSaved seed n stream s canon → Exercises seed n (record { frames = n; rounds = s.rounds; entries = s.entries; canon = canon })
exercises seed n canon stream s size long few saved = record {
  calls = saved.wrote.calls;
  again = saved.wrote.again;
  frames = refl;
  paced = saved.wrote.paced;
  entries = saved.wrote.counted;
  few = few s.rounds saved.wrote.calls saved.wrote.again saved.wrote.paced;
  canon = saved.canon_is ∙ long saved.wrote.calls;
}

-- ---- what came of an exercise, which takes and writes nothing but its line

module _ (seed n : ℕ) (e : Effects) (unread : e.input.Unread) (kept : e.out.Untouched) (input_quiet : e.input.failed_now ≡ e.input.failed) (out_quiet : e.out.failed_now ≡ e.out.failed) where
  abbrev Said : Status → Type 0
  Said status = SaysExercise seed n e.report.old e.report.new status

  says : (told : Option (List ℕ)) (status : Status) → Said status
      → StatusSays (λ input. (exercise_promise seed n).Done input e) (λ input. (exercise_promise seed n).DonePart input e) (exercise_promise seed n).Refuses told e.input.left status
  says None status said = tt
  says (Some input) statuses.Done said = said
  says (Some input) statuses.WriteFault said = said
  says (Some input) statuses.Memory said = tt
  says (Some input) _ said = absurd said

  known : (status : Status) → Said status → status ≢ statuses.Usage
  known statuses.Done said = λ u. cc
  known statuses.WriteFault said = λ u. cc
  known statuses.Memory said = λ u. cc
  known _ said = absurd said

  read : (status : Status) → Said status → InputRises status e.input.failed e.input.failed_now
  read statuses.Done said = input_quiet
  read statuses.WriteFault said = input_quiet
  read statuses.Memory said = input_quiet
  read _ said = absurd said

  own_line : (status : Status) → Said status → PutsLineOf exercised_line e.report.old e.report.new status
  own_line statuses.Done said = (said.summary, said.reported)
  own_line statuses.WriteFault said = (said.summary, said.reported)
  own_line statuses.Memory said = tt
  own_line _ said = absurd said

  other_line : (status : Status) → Said status → (status ≡ statuses.Memory → Reports memory_line e.report.old e.report.new e.report.failed e.report.failed_now) → (EndsWithOwnLine status → ⊥)
      → ReportsStatus (exercise_promise seed n).Refuses e.input.told status e.report.old e.report.new e.report.failed e.report.failed_now
  other_line statuses.Done said line none = absurd (none tt)
  other_line statuses.WriteFault said line none = absurd (none tt)
  other_line statuses.Memory said line none = (memory_line, refl, line refl)
  other_line _ said line none = absurd said

  pub exercise_carried : (status : Status) → Said status → (status ≡ statuses.Done → e.report.failed_now ≡ e.report.failed) → (status ≡ statuses.WriteFault → Rose e.report.failed e.report.failed_now) → e.report.failed ≤ e.report.failed_now
      → (status ≡ statuses.Memory → Reports memory_line e.report.old e.report.new e.report.failed e.report.failed_now) → CarriedOut (exercise_promise seed n) e status
  exercise_carried status said quiet rises later line = record {
    said = says e.input.told status said;
    known = known status said;
    kept = λ _. kept;
    read = read status said;
    write = rises;
    line = other_line status said line;
    own_line = own_line status said;
    out_faults = unchanged status _ _ out_quiet;
    report_faults = record { later = later; done = quiet };
    besides = (unread, said);
  }
