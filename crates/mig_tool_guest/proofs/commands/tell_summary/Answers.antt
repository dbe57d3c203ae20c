use Rattle.mig_tool_guest.proofs.Common.{Result, Ok, Err, refl, subst, inl, inr, RisesOnReadFault, HasStreamRefusal, AcceptedStream, effects, line_put, sink_effect, stream_at, unreached, untouched_sink, Effects, Verified, HasFront, ok_line, or_stop, AgreesWithJudging, Answer, Cause, Place, IsSummary, input_with, Summary}
use Rattle.mig_tool_guest.proofs.Summaries.{verified}
use Rattle.mig_tool_guest.proofs.Unread.{unread_told}
use Rattle.mig_tool_report.specs.declared.outcome.Refusal.TheVariants as refusals
use Rattle.mig_tool_guest.proofs.commands.tell_summary.Goals as goal

pub returns-in-Err : goal.returns-in-Err
returns-in-Err g c = λ told left failed failed_now told_read told_faults.
    let read = subst (λ (r : Result Summary (Answer Place Cause)). AgreesWithJudging IsSummary told left stream_at (or_stop r)) c.in-Err.is told_read in
    let faults = subst (λ (r : Result Summary (Answer Place Cause)). RisesOnReadFault failed failed_now (or_stop r)) c.in-Err.is told_faults in
    let e : Effects = effects (input_with told left failed failed_now) unreached (sink_effect g.R.Sink.written g.R.Sink.faults c.args.report.now c.finish.new.report) in
    unread_told IsSummary stream_at refusals.Stream ok_line (HasFront AcceptedStream) HasStreamRefusal Verified (λ _ _ _ _ h. h) e c.in-Err.answer c.unread.result c.finish.result c.unread.ensures read faults untouched_sink c.finish.ensures.status c.finish.ensures.line c.finish.ensures.quiet c.finish.ensures.later

pub returns-in-Ok-put_ok : goal.returns-in-Ok-put_ok
returns-in-Ok-put_ok g c = λ told left failed failed_now told_read told_faults.
    let read = subst (λ (r : Result Summary (Answer Place Cause)). AgreesWithJudging IsSummary told left stream_at (or_stop r)) c.in-Ok.is told_read in
    let faults = subst (λ (r : Result Summary (Answer Place Cause)). RisesOnReadFault failed failed_now (or_stop r)) c.in-Ok.is told_faults in
    let e : Effects = effects (input_with told left failed failed_now) unreached (sink_effect g.R.Sink.written g.R.Sink.faults c.args.report.now c.put_ok.new.report) in
    line_put ok_line (HasFront AcceptedStream) HasStreamRefusal Verified e _
    (verified _ _ _ _ c.in-Ok.summary (Ok c.in-Ok-put_ok.field-0) _ read c.in-Ok-put_ok.ensures.bytes refl)
    (inl refl) faults untouched_sink (λ f. cc) (_, c.in-Ok-put_ok.ensures.bytes) c.in-Ok-put_ok.ensures.cause.later (λ _. c.in-Ok-put_ok.ensures.cause.quiet)

pub returns-in-Err-put_ok : goal.returns-in-Err-put_ok
returns-in-Err-put_ok g c = λ told left failed failed_now told_read told_faults.
    let read = subst (λ (r : Result Summary (Answer Place Cause)). AgreesWithJudging IsSummary told left stream_at (or_stop r)) c.in-Ok.is told_read in
    let faults = subst (λ (r : Result Summary (Answer Place Cause)). RisesOnReadFault failed failed_now (or_stop r)) c.in-Ok.is told_faults in
    let e : Effects = effects (input_with told left failed failed_now) unreached (sink_effect g.R.Sink.written g.R.Sink.faults c.args.report.now c.put_ok.new.report) in
    line_put ok_line (HasFront AcceptedStream) HasStreamRefusal Verified e _
    (verified _ _ _ _ c.in-Ok.summary (Err c.in-Err-put_ok.field-0) _ read c.in-Err-put_ok.ensures.bytes refl)
    (inr refl) faults untouched_sink (λ _. c.in-Err-put_ok.ensures.cause.failed) (_, c.in-Err-put_ok.ensures.bytes) c.in-Err-put_ok.ensures.cause.later (λ d. cc)
