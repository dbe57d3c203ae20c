-- What a live save comes to, says and reports.
use Rattle.mig_tool_save.proofs.Common.{◌+◌, ◌⊎◌, ◌≡◌, ℕ, List, [], length, arith, Option, Some, None, Ok, Err, refl, sym, ap, subst, ◌∙◌, ◌≤◌, Refusal, HasSaveRefusal, inl, inr, append-nil, Rose, Passes, Unsound, HostOf, most_saved_width, headers, LineOf, Outcome, SaveSummary, HasHostAndScript, WroteLive, saved_host_at, ComesToNone, drop, RisesOnReadFault, finished, input_same, never_failed, never_usage, own_line_alone, unchanged, unwritten, CarriedOut, Effects, InputRises, NamesRefusal, OutcomeSays, PutsLineOrFault, StatusSays, save_promise, WroteNoStream, most_script_bytes, Reports, saved_line, write_fault_line, Status, StopsAt, ReadsHostToSave, ReadsHostAndScript, stop_of_script, outcome_of_stop}
use Rattle.mig_headers.specs.declared.kind.Kind.TheVariants.{Hvm}
use Rattle.mig_tool_report.proofs.Statuses.{line_reported, says_of}
use Rattle.mig_tool_report.specs.Outcome.{IsUnwritten, status_of, line_of}
use Rattle.std.specs.Io.KnownBytes.{Appends}
use Rattle.mig_bytes.specs.Bytes.{AppendsPart}
use Rattle.mig_bytes.specs.declared.stop.Stop.{Stop}
use Rattle.mig_headers.specs.Headers.{image_header_of, domain_header_of}
use Rattle.mig_host.specs.HostView.{HostAndSpare}
use Rattle.mig_image.specs.Answer.{ReadsHost}
use Rattle.mig_dirtysave.proofs.Written.{bare_headers}
use Rattle.mig_machine_script.specs.ScriptAnswers.{ReadsScript}
use Rattle.mig_machine_script.specs.declared.script.ScriptAnswer.{ScriptAnswer}
use Rattle.mig_tool_save.specs.declared.saving.HostAndScript.{HostAndScript}
use Rattle.mig_tool_report.specs.declared.outcome.Refusal.TheVariants as refusals
use Rattle.mig_bytes.specs.declared.stop.Stop.TheVariants as stops
use Rattle.mig_machine_script.specs.declared.script.ScriptAnswer.TheVariants as scripts
use Rattle.mig_tool_report.specs.declared.outcome.Outcome.TheVariants as outcomes
use Rattle.mig_tool_report.specs.declared.status.Status.TheVariants as statuses

-- ---- nothing was written

appends_nothing : (old : Option (List ℕ)) → Appends old old []
appends_nothing None = tt
appends_nothing (Some text) = sym (append-nil text)

headers_len : length (headers Hvm) ≡ 40
unfolding image_header_of domain_header_of
headers_len = refl

-- no bytes are no stream
pub nothing_written : (old : Option (List ℕ)) → WroteNoStream old old
nothing_written old = bare_headers old old Hvm (0, omega (arith, headers_len), appends_nothing old)

-- ---- why no host and script were read

-- what an outcome or a status of `save` says of an input that tells this
abbrev pub SaveComes : Option (List ℕ) → Effects → Outcome → Type 0
SaveComes told e outcome = OutcomeSays (λ input. save_promise.Done input e) (λ input. save_promise.DonePart input e) HasSaveRefusal told e.input.left outcome

abbrev pub SaveSays : Option (List ℕ) → Effects → Status → Type 0
SaveSays told e status = StatusSays (λ input. save_promise.Done input e) (λ input. save_promise.DonePart input e) HasSaveRefusal told e.input.left status

stop_comes : (input : List ℕ) (e : Effects) (stop : Stop Refusal) → StopsAt input e.input.left stop → SaveComes (Some input) e (outcome_of_stop stop)
stop_comes input e (stops.Refused refusal) (rest, refused, it, is) = (rest, refused, is)
stop_comes input e stops.ReadFault h = tt
stop_comes input e stops.Memory h = tt

pub stopped_comes : (told : Option (List ℕ)) (e : Effects) (stop : Stop Refusal) (outcome : Outcome) → ReadsHostAndScript told e.input.left (Err stop) → outcome ≡ outcome_of_stop stop → SaveComes told e outcome
stopped_comes None e stop outcome h is = tt
stopped_comes (Some input) e stop outcome h is = subst (SaveComes (Some input) e) (sym is) (stop_comes input e stop h)

stop_unwritten : (stop : Stop Refusal) (outcome : Outcome) → outcome ≡ outcome_of_stop stop → IsUnwritten outcome
stop_unwritten (stops.Refused refusal) outcome is = subst IsUnwritten (sym is) tt
stop_unwritten stops.ReadFault outcome is = subst IsUnwritten (sym is) tt
stop_unwritten stops.Memory outcome is = subst IsUnwritten (sym is) tt

stop_count : (X : Type 0) (stop : Stop Refusal) (outcome : Outcome) (before now : ℕ) → outcome ≡ outcome_of_stop stop → RisesOnReadFault {X = X} before now (Err stop) → InputRises (status_of outcome) before now
stop_count X (stops.Refused refusal) outcome before now is rises = subst (λ o. InputRises (status_of o) before now) (sym is) rises
stop_count X stops.ReadFault outcome before now is rises = subst (λ o. InputRises (status_of o) before now) (sym is) rises
stop_count X stops.Memory outcome before now is rises = subst (λ o. InputRises (status_of o) before now) (sym is) rises

no_fault_line : {Summary : Type 0} (line : Summary → List ℕ) (old new : Option (List ℕ)) (outcome : Outcome) → IsUnwritten outcome → PutsLineOrFault line old new (status_of outcome)
no_fault_line line old new (outcomes.Refused refusal) none = tt
no_fault_line line old new outcomes.ReadFault none = tt
no_fault_line line old new outcomes.Memory none = tt
no_fault_line line old new _ none = absurd none

-- what came of an input that was not read: nothing was written
pub stopped_carried : (e : Effects) (stop : Stop Refusal) (outcome : Outcome) (status : Status) → outcome ≡ outcome_of_stop stop → status ≡ status_of outcome → ReadsHostAndScript e.input.told e.input.left (Err stop) → RisesOnReadFault {X = HostAndScript} e.input.failed e.input.failed_now (Err stop)
    → e.out.Untouched → e.out.new ≡ e.out.old → e.out.failed_now ≡ e.out.failed → Reports (line_of outcome) e.report.old e.report.new e.report.failed e.report.failed_now → (outcome ≡ outcomes.Done → e.report.failed_now ≡ e.report.failed) → e.report.failed ≤ e.report.failed_now → CarriedOut save_promise e status
stopped_carried e stop outcome status is stood h rises kept alike same line quiet later =
    let none = stop_unwritten stop outcome is in
    finished save_promise e outcome status stood (unwritten save_promise e outcome none (stopped_comes e.input.told e stop outcome h is) (stop_count HostAndScript stop outcome _ _ is rises) kept same)
    (never_failed outcome status none stood) line quiet later (subst (PutsLineOrFault saved_line e.report.old e.report.new) (sym stood) (no_fault_line saved_line _ _ outcome none))
    (record { refused = λ _. inl kept; no_stream = λ _. subst (λ (t : Option (List ℕ)). WroteNoStream e.out.old t) (sym alike) (nothing_written e.out.old); broke = never_failed outcome status none stood })

pub host_read : (told left : Option (List ℕ)) (host : HostAndSpare) → ReadsHost most_saved_width told left (Ok host) → ReadsHostToSave told left (Ok host)
host_read None left host h = tt
host_read (Some input) left host (judged, rest, image, is, same) = (rest, image ∙ ap (λ (j : HostOf). Passes j rest) (sym same), is)

bad_script : (input text : List ℕ) (left : Option (List ℕ)) (host : HostOf) (answer : ScriptAnswer) → saved_host_at input ≡ Passes host text → ReadsScript (Some text) left (Err answer) → StopsAt input left (stop_of_script answer)
bad_script input text left host (scripts.BadLine line) has (is, few, bad) = ([], (record { host = host; text = text; image = has; few = few; bad = bad }, refl), tt, is)
bad_script input text left host scripts.TooLong has (many, is) = (drop (most_script_bytes + 1) text, record { host = host; text = text; image = has; many = many; left = refl }, tt, is)
bad_script input text left host scripts.ReadFault has h = tt
bad_script input text left host scripts.Memory has h = tt

pub script_not_read : (told mid left : Option (List ℕ)) (host : HostAndSpare) (answer : ScriptAnswer) (stop : Stop Refusal) → ReadsHostToSave told mid (Ok host) → ReadsScript mid left (Err answer) → stop ≡ stop_of_script answer → ReadsHostAndScript told left (Err stop)
script_not_read None mid left host answer stop h read is = tt
script_not_read (Some input) mid left host answer stop (text, has, at) read is =
    subst (StopsAt input left) (sym is) (bad_script input text left host.host answer has (subst (λ m. ReadsScript m left (Err answer)) at read))

-- ---- a host and a script were read, and came to no stream

none_comes : (input : List ℕ) (e : Effects) (host : HostOf) (lines : List LineOf) (outcome : Outcome) → HasHostAndScript input host lines → e.input.left ≡ Some [] → WroteNoStream e.out.old e.out.new → ComesToNone host lines outcome → SaveComes (Some input) e outcome
none_comes input e host lines (outcomes.Refused (refusals.Pause unsound)) read is none why = ([], (record { host = host; lines = lines; is = read; pause = why }, refl), is)
none_comes input e host lines outcomes.WriteFault read is none h = inl (record { host = host; lines = lines; read = read; left_is = is; no_stream = none })
none_comes input e host lines outcomes.Memory read is none h = tt
none_comes input e host lines _ read is none h = absurd h

unsaved_comes : (told : Option (List ℕ)) (e : Effects) (read : HostAndScript) (outcome : Outcome) → ReadsHostAndScript told e.input.left (Ok read) → WroteNoStream e.out.old e.out.new → ComesToNone read.host.host (read.script) outcome → SaveComes told e outcome
unsaved_comes None e read outcome h none why = tt
unsaved_comes (Some input) e read outcome h none why = none_comes input e read.host.host (read.script) outcome h.0 h.1 none why

pause_named : (told left : Option (List ℕ)) (read : HostAndScript) (unsound : Unsound) → ReadsHostAndScript told left (Ok read) → ComesToNone read.host.host (read.script) (outcomes.Refused (refusals.Pause unsound)) → NamesRefusal HasSaveRefusal told (refusals.Pause unsound)
pause_named None left read unsound h why = tt
pause_named (Some input) left read unsound h why = ([], (record { host = read.host.host; lines = read.script; is = h.0; pause = why }, refl))

-- what came of it, by its outcome
module _ (e : Effects) (read : HostAndScript) (h : ReadsHostAndScript e.input.told e.input.left (Ok read)) (none : WroteNoStream e.out.old e.out.new) (same : e.input.failed_now ≡ e.input.failed) (out_later : e.out.failed ≤ e.out.failed_now) (later : e.report.failed ≤ e.report.failed_now) where
  unsaved_status : (outcome : Outcome) → ComesToNone read.host.host (read.script) outcome → (outcome ≡ outcomes.Memory → e.out.Untouched) → (outcome ≡ outcomes.WriteFault → Rose e.out.failed e.out.failed_now)
      → Reports (line_of outcome) e.report.old e.report.new e.report.failed e.report.failed_now → CarriedOut save_promise e (status_of outcome)
  unsaved_status (outcomes.Refused (refusals.Pause unsound)) why kept rises line = record {
    said = says_of (λ input. save_promise.Done input e) (λ input. save_promise.DonePart input e) HasSaveRefusal e.input.told e.input.left (outcomes.Refused (refusals.Pause unsound)) _ refl (unsaved_comes e.input.told e read (outcomes.Refused (refusals.Pause unsound)) h none why);
    known = λ u. cc;
    kept = λ never. absurd (never (inl refl));
    read = same;
    write = λ failed. cc;
    line = λ _. line_reported (λ input. save_promise.Done input e) (λ input. save_promise.DonePart input e) HasSaveRefusal e.input.told e.input.left (outcomes.Refused (refusals.Pause unsound)) _ _ _ _ _ refl (unsaved_comes e.input.told e read (outcomes.Refused (refusals.Pause unsound)) h none why) line;
    own_line = tt;
    out_faults = record { later = out_later; done = λ d. cc };
    report_faults = record { later = later; done = λ d. cc };
    besides = record { refused = λ _. inr (unsound, pause_named e.input.told e.input.left read unsound h why, line); no_stream = λ _. none; broke = λ failed. cc };
  }
  unsaved_status outcomes.WriteFault why kept rises line = record {
    said = says_of (λ input. save_promise.Done input e) (λ input. save_promise.DonePart input e) HasSaveRefusal e.input.told e.input.left outcomes.WriteFault _ refl (unsaved_comes e.input.told e read outcomes.WriteFault h none why);
    known = λ u. cc;
    kept = λ never. absurd (never (inr (inr refl)));
    read = same;
    write = λ failed. inl (rises refl);
    line = λ none_own. absurd (none_own tt);
    own_line = fault_line line;
    out_faults = record { later = out_later; done = λ d. cc };
    report_faults = record { later = later; done = λ d. cc };
    besides = record { refused = λ r. cc; no_stream = λ r. cc; broke = λ failed. inl (record { rose = rises refl; no_stream = none; line = line }) };
  }
    where
      fault_line : Reports write_fault_line e.report.old e.report.new e.report.failed e.report.failed_now → PutsLineOrFault saved_line e.report.old e.report.new statuses.WriteFault
      fault_line (inl put) = inr (inl put.1)
      fault_line (inr put) = inr (inr put.2)
  unsaved_status outcomes.Memory why kept rises line = record {
    said = says_of (λ input. save_promise.Done input e) (λ input. save_promise.DonePart input e) HasSaveRefusal e.input.told e.input.left outcomes.Memory _ refl (unsaved_comes e.input.told e read outcomes.Memory h none why);
    known = λ u. cc;
    kept = λ _. kept refl;
    read = same;
    write = λ failed. cc;
    line = λ _. line_reported (λ input. save_promise.Done input e) (λ input. save_promise.DonePart input e) HasSaveRefusal e.input.told e.input.left outcomes.Memory _ _ _ _ _ refl (unsaved_comes e.input.told e read outcomes.Memory h none why) line;
    own_line = tt;
    out_faults = record { later = out_later; done = λ d. cc };
    report_faults = record { later = later; done = λ d. cc };
    besides = record { refused = λ r. cc; no_stream = λ r. cc; broke = λ failed. cc };
  }
  unsaved_status _ why kept rises line = absurd why

  pub unsaved_carried : (outcome : Outcome) (status : Status) → status ≡ status_of outcome → ComesToNone read.host.host (read.script) outcome → (outcome ≡ outcomes.Memory → e.out.Untouched) → (outcome ≡ outcomes.WriteFault → Rose e.out.failed e.out.failed_now)
      → Reports (line_of outcome) e.report.old e.report.new e.report.failed e.report.failed_now → CarriedOut save_promise e status
  unsaved_carried outcome status is why kept rises line = subst (CarriedOut save_promise e) (sym is) (unsaved_status outcome why kept rises line)

-- ---- a stream was written

saved_said : (told : Option (List ℕ)) (e : Effects) (read : HostAndScript) (s : SaveSummary) (status : Status) → ReadsHostAndScript told e.input.left (Ok read) → WroteLive read.host.host (read.script) e.out.old e.out.new s
    → (status ≡ statuses.Done → Appends e.report.old e.report.new (saved_line s)) → (status ≡ statuses.WriteFault → AppendsPart e.report.old e.report.new (saved_line s)) → (status ≡ statuses.Done) ⊎ (status ≡ statuses.WriteFault) → SaveSays told e status
saved_said None e read s status h wrote done part answers = tt
saved_said (Some input) e read s status h wrote done part (inl is) =
    subst (SaveSays (Some input) e) (sym is) (record { host = read.host.host; lines = read.script; read = h.0; left_is = h.1; summary = s; wrote = wrote; reported = done is })
saved_said (Some input) e read s status h wrote done part (inr is) =
    subst (SaveSays (Some input) e) (sym is) (inr (record { host = read.host.host; lines = read.script; read = h.0; left_is = h.1; summary = s; wrote = wrote; reported = part is }))

pub saved_carried : (e : Effects) (read : HostAndScript) (s : SaveSummary) (status : Status) → ReadsHostAndScript e.input.told e.input.left (Ok read) → WroteLive read.host.host (read.script) e.out.old e.out.new s
    → (status ≡ statuses.Done → Appends e.report.old e.report.new (saved_line s)) → (status ≡ statuses.WriteFault → AppendsPart e.report.old e.report.new (saved_line s)) → (status ≡ statuses.Done) ⊎ (status ≡ statuses.WriteFault)
    → e.input.failed_now ≡ e.input.failed → e.out.failed_now ≡ e.out.failed → (status ≡ statuses.WriteFault → Rose e.report.failed e.report.failed_now) → (status ≡ statuses.Done → e.report.failed_now ≡ e.report.failed) → e.report.failed ≤ e.report.failed_now → CarriedOut save_promise e status
saved_carried e read s status h wrote done part answers same quiet rises done_quiet later = record {
  said = saved_said e.input.told e read s status h wrote done part answers;
  known = never_usage status answers;
  kept = λ never. by answers never;
  read = input_same status _ _ answers same;
  write = λ failed. inr (rises failed);
  line = λ none. own_line_alone status answers none;
  own_line = own answers;
  out_faults = unchanged status _ _ quiet;
  report_faults = record { later = later; done = done_quiet };
  besides = record { refused = λ r. absurd (never_refused answers r); no_stream = λ r. absurd (never_refused answers r); broke = λ failed. inr (record { host = read.host.host; lines = read.script; summary = s; wrote = wrote; quiet = quiet; rose = rises failed; reported = part failed }) };
}
  where
    by : (status ≡ statuses.Done) ⊎ (status ≡ statuses.WriteFault) → ((status ≡ statuses.Refused) ⊎ ((status ≡ statuses.Done) ⊎ (status ≡ statuses.WriteFault)) → ⊥) → e.out.Untouched
    by answer never = absurd (never (inr answer))

    own : (status ≡ statuses.Done) ⊎ (status ≡ statuses.WriteFault) → PutsLineOrFault saved_line e.report.old e.report.new status
    own (inl is) = subst (PutsLineOrFault saved_line e.report.old e.report.new) (sym is) (s, done is)
    own (inr is) = subst (PutsLineOrFault saved_line e.report.old e.report.new) (sym is) (inl (s, part is))

    never_refused : (status ≡ statuses.Done) ⊎ (status ≡ statuses.WriteFault) → status ≡ statuses.Refused → ⊥
    never_refused (inl is) r = cc
    never_refused (inr is) r = cc
