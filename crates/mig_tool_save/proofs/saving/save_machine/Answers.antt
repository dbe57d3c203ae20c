use Rattle.mig_tool_save.proofs.Common.{Err, ap, ◌≡◌, ℕ, List, refl, subst, ◌≤◌, most_saved_width, LineOf, history_of, SaveAnswer, ComesToNone, rules}
use Rattle.mig_dirtysave.specs.declared.answer.SaveReport.{SaveReport}
use Rattle.mig_tool_save.proofs.SaveOutcomes.{nothing_written}
use Rattle.mig_tool_save.proofs.Lives.{wrote_live, wrote_live_to, tight_of, never_fails, pauses_so, left_no_stream, ends, had_memory, no_write}
use Rattle.mig_tool_report.specs.declared.outcome.Outcome.TheVariants as outcomes
use Rattle.mig_tool_save.proofs.saving.save_machine.Goals as goal

pub returns-in_default-clause-no_stream : goal.returns-in_default-clause-no_stream
returns-in_default-clause-no_stream g c = nothing_written _

pub returns-in-Ok-run-clause-wrote : goal.returns-in-Ok-run-clause-wrote
returns-in-Ok-run-clause-wrote g c =
    let e = c.in-Ok-run.ensures.ends in
    let later = c.in-Ok-run.ensures.later in
    let first = c.args.machine.now in let now = c.run.new.machine in
    let old = g.K.Sink.written c.args.out.now in let new = g.K.Sink.written c.run.new.sink in
    let wide : first.host.width ≤ most_saved_width = subst (λ (w : ℕ). w ≤ most_saved_width) c.width-width.ensures.value c.width-width.ensures.bound in
    let exact = c.script_machine_is_at.ensures.exact first now c.requires.calls c.requires.log c.requires.history later in
    let tight = tight_of first.host now e.pause.kept.shape (e.exact refl) in
    let p = c.rounds_are_paced.ensures.paced first.host now exact e.pause.paused wide tight.rounds in
    let order = c.rounds_are_paced.ensures.order first.host now tight p in
    let counted = c.rounds_are_paced.ensures.counted first.host now.lines (history_of now).live now.runs p.entries p.paced in
    let (wrote, calls) = wrote_live first.host now old new c.in-Ok-run.report.entries exact e.pause.kept.shape e.stream e.sound tight p order counted e.entries in
    let rounds : c.from.result ≡ (history_of now).live = search rules in
    wrote_live_to first.host first.lines now c.from.result c.in-Ok-run.report.entries old new later.course.script rounds exact wrote calls

pub returns-in-Err-clause-no_stream : goal.returns-in-Err-clause-no_stream
returns-in-Err-clause-no_stream g c = left_no_stream _ _ _ _ c.in-Err.answer c.in-Err.ensures.ends

pub returns-in-Err-clause-none : goal.returns-in-Err-clause-none
returns-in-Err-clause-none g c =
    let e = c.in-Err.ensures in
    let first = c.args.machine.now in let now = c.run.new.machine in
    let wide : first.host.width ≤ most_saved_width = subst (λ (w : ℕ). w ≤ most_saved_width) c.width-width.ensures.value c.width-width.ensures.bound in
    let exact = c.script_machine_is_at.ensures.exact first now c.requires.calls c.requires.log c.requires.history e.later in
    let none = ends c.in-Err.answer c.unsaved.result (never_fails SaveReport c.in-Err.answer e.faults.machine.rose) c.unsaved.ensures.unsound c.unsaved.ensures.write first now _ _ exact.host
    (λ pause. pauses_so first.host now (c.rounds_are_paced.ensures.paced first.host now exact pause.paused wide) pause.kept.shape pause.rounds) e.ends in
    subst (λ (lines : List LineOf). ComesToNone first.host lines c.unsaved.result) e.later.course.script none

pub returns-in-Err-clause-kept : goal.returns-in-Err-clause-kept
returns-in-Err-clause-kept g c = λ is.
    let same : c.unsaved.result ≡ outcomes.Memory = cc in
    absurd (had_memory c.in-Err.answer c.unsaved.result (never_fails SaveReport c.in-Err.answer c.in-Err.ensures.faults.machine.rose) c.unsaved.ensures.unsound c.unsaved.ensures.write same)

pub returns-in-Err-clause-write : goal.returns-in-Err-clause-write
returns-in-Err-clause-write g c = λ is.
    let same : c.unsaved.result ≡ outcomes.WriteFault = cc in
    let write = no_write c.in-Err.answer c.unsaved.result (never_fails SaveReport c.in-Err.answer c.in-Err.ensures.faults.machine.rose) c.unsaved.ensures.unsound c.unsaved.ensures.write same in
    c.in-Err.ensures.faults.sink.rose (ap (λ (a : SaveAnswer). Err a) write)
