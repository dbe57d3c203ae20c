use Rattle.mig_tool_guest.proofs.Common.{Ok, Err, refl, rules, inl, inr, HasStreamRefusal, AcceptedStream, effects, input_effect, line_put, sink_effect, stream_at, unreached, untouched_sink, Effects, HasFront, IsStreamTally, Checked, checked_line}
use Rattle.mig_tool_guest.proofs.Tallied.{checked}
use Rattle.mig_tool_guest.proofs.Unread.{unread_told}
use Rattle.mig_tool_report.specs.declared.outcome.Refusal.TheVariants as refusals
use Rattle.mig_tool_guest.proofs.checks.check.Goals as goal

pub returns-in-Err : goal.returns-in-Err
returns-in-Err g c =
    let e : Effects = effects (input_effect g.S.Source.left g.S.Source.faults c.args.input.now c.judge_any.new.src) unreached (sink_effect g.R.Sink.written g.R.Sink.faults c.args.report.now c.finish.new.report) in
    unread_told IsStreamTally stream_at refusals.Stream checked_line (HasFront AcceptedStream) HasStreamRefusal Checked (λ _ _ _ _ h. h) e c.in-Err.answer c.unread.result c.finish.result c.unread.ensures c.in-Err.ensures.read c.in-Err.ensures.faults untouched_sink c.finish.ensures.status c.finish.ensures.line c.finish.ensures.quiet c.finish.ensures.later

pub returns-in-Ok-put_checked : goal.returns-in-Ok-put_checked
returns-in-Ok-put_checked g c =
    let e : Effects = effects (input_effect g.S.Source.left g.S.Source.faults c.args.input.now c.judge_any.new.src) unreached (sink_effect g.R.Sink.written g.R.Sink.faults c.args.report.now c.put_checked.new.report) in
    line_put checked_line (HasFront AcceptedStream) HasStreamRefusal Checked e _
    (checked _ _ _ _ c.in-Ok.tally _ (Ok c.in-Ok-put_checked.field-0) _ c.in-Ok.ensures.read (search rules) (search rules) (search rules) (search rules) (search rules) c.in-Ok-put_checked.ensures.bytes refl)
    (inl refl) c.in-Ok.ensures.faults untouched_sink (λ f. cc) (_, c.in-Ok-put_checked.ensures.bytes) c.in-Ok-put_checked.ensures.cause.later (λ _. c.in-Ok-put_checked.ensures.cause.quiet)

pub returns-in-Err-put_checked : goal.returns-in-Err-put_checked
returns-in-Err-put_checked g c =
    let e : Effects = effects (input_effect g.S.Source.left g.S.Source.faults c.args.input.now c.judge_any.new.src) unreached (sink_effect g.R.Sink.written g.R.Sink.faults c.args.report.now c.put_checked.new.report) in
    line_put checked_line (HasFront AcceptedStream) HasStreamRefusal Checked e _
    (checked _ _ _ _ c.in-Ok.tally _ (Err c.in-Err-put_checked.field-0) _ c.in-Ok.ensures.read (search rules) (search rules) (search rules) (search rules) (search rules) c.in-Err-put_checked.ensures.bytes refl)
    (inr refl) c.in-Ok.ensures.faults untouched_sink (λ _. c.in-Err-put_checked.ensures.cause.failed) (_, c.in-Err-put_checked.ensures.bytes) c.in-Err-put_checked.ensures.cause.later (λ d. cc)
