use Rattle.mig_tool_guest.proofs.Common.{◌≡◌, Ok, Err, refl, inl, inr, HasLegacyRefusal, AcceptedLegacy, effects, input_effect, line_put, sink_effect, unreached, untouched_sink, Effects, HasFront, mean_legacy, legacy_at, LegacyChecked, checked_legacy_line}
use Rattle.mig_tool_guest.proofs.Tallied.{legacy_checked}
use Rattle.mig_tool_guest.proofs.Unread.{unread_told}
use Rattle.mig_tool_report.specs.declared.outcome.Refusal.TheVariants as refusals
use Rattle.std.specs.FinMap as maps
use Rattle.mig_tool_guest.proofs.checks.check_legacy.Goals as goal

pub returns-in-Err : goal.returns-in-Err
returns-in-Err g c =
    let e : Effects = effects (input_effect g.S.Source.left g.S.Source.faults c.args.input.now c.judge_legacy.new.src) unreached (sink_effect g.R.Sink.written g.R.Sink.faults c.args.report.now c.finish.new.report) in
    unread_told (λ frames s. frames ≡ maps.len (mean_legacy s).frames) legacy_at refusals.Legacy checked_legacy_line (HasFront AcceptedLegacy) HasLegacyRefusal LegacyChecked (λ _ _ _ _ h. h) e c.in-Err.answer c.unconverted.result c.finish.result c.unconverted.ensures c.in-Err.ensures.read c.in-Err.ensures.faults untouched_sink c.finish.ensures.status c.finish.ensures.line c.finish.ensures.quiet c.finish.ensures.later

pub returns-in-Ok-put_checked_legacy : goal.returns-in-Ok-put_checked_legacy
returns-in-Ok-put_checked_legacy g c =
    let e : Effects = effects (input_effect g.S.Source.left g.S.Source.faults c.args.input.now c.judge_legacy.new.src) unreached (sink_effect g.R.Sink.written g.R.Sink.faults c.args.report.now c.put_checked_legacy.new.report) in
    line_put checked_legacy_line (HasFront AcceptedLegacy) HasLegacyRefusal LegacyChecked e _
    (legacy_checked _ _ _ _ c.in-Ok.frames (Ok c.in-Ok-put_checked_legacy.field-0) _ c.in-Ok.ensures.read c.in-Ok-put_checked_legacy.ensures.bytes refl)
    (inl refl) c.in-Ok.ensures.faults untouched_sink (λ f. cc) (_, c.in-Ok-put_checked_legacy.ensures.bytes) c.in-Ok-put_checked_legacy.ensures.cause.later (λ _. c.in-Ok-put_checked_legacy.ensures.cause.quiet)

pub returns-in-Err-put_checked_legacy : goal.returns-in-Err-put_checked_legacy
returns-in-Err-put_checked_legacy g c =
    let e : Effects = effects (input_effect g.S.Source.left g.S.Source.faults c.args.input.now c.judge_legacy.new.src) unreached (sink_effect g.R.Sink.written g.R.Sink.faults c.args.report.now c.put_checked_legacy.new.report) in
    line_put checked_legacy_line (HasFront AcceptedLegacy) HasLegacyRefusal LegacyChecked e _
    (legacy_checked _ _ _ _ c.in-Ok.frames (Err c.in-Err-put_checked_legacy.field-0) _ c.in-Ok.ensures.read c.in-Err-put_checked_legacy.ensures.bytes refl)
    (inr refl) c.in-Ok.ensures.faults untouched_sink (λ _. c.in-Err-put_checked_legacy.ensures.cause.failed) (_, c.in-Err-put_checked_legacy.ensures.bytes) c.in-Err-put_checked_legacy.ensures.cause.later (λ d. cc)
