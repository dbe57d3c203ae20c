use Rattle.mig_tool_guest.proofs.Common.{◌≡◌, refl, text_written, inl, inr, convert_promise, effects, input_effect, sink_effect, unreached, Effects, mean_legacy, legacy_at}
use Rattle.mig_tool_guest.proofs.Reporting.{came_of_legacy}
use Rattle.mig_tool_guest.proofs.Unread.{unread_comes}
use Rattle.mig_tool_report.specs.declared.outcome.Refusal.TheVariants as refusals
use Rattle.mig_tool_guest.proofs.commands.converted.Goals as goal

pub returns-in-Ok : goal.returns-in-Ok
returns-in-Ok g c =
    let e : Effects = effects (input_effect g.S.Source.left g.S.Source.faults c.args.input.now c.read_legacy.new.src) (sink_effect g.K.Sink.written g.K.Sink.faults c.args.out.now c.write_canonical.new.out) unreached in
    text_written convert_promise e c.write_canonical.result (inl refl) (inr refl)
    (came_of_legacy _ _ _ _ c.in-Ok.guest c.write_canonical.result c.in-Ok.ensures.read (record { whole = c.in-Ok.ensures.streamed.whole; blank = c.in-Ok.ensures.streamed.blank })
    c.write_canonical.ensures.done c.write_canonical.ensures.part c.write_canonical.ensures.answers)
    c.write_canonical.ensures.answers c.in-Ok.ensures.faults c.write_canonical.ensures.write

pub returns-in-Err : goal.returns-in-Err
returns-in-Err g c =
    let e : Effects = effects (input_effect g.S.Source.left g.S.Source.faults c.args.input.now c.read_legacy.new.src) (sink_effect g.K.Sink.written g.K.Sink.faults c.args.out.now c.args.out.now) unreached in
    unread_comes (λ guest s. guest ≡ mean_legacy s) legacy_at refusals.Legacy convert_promise (λ _ _ _ _ h. h) e c.in-Err.answer c.unconverted.result c.unconverted.ensures c.in-Err.ensures.read c.in-Err.ensures.faults (record { untouched = refl; quiet = refl })
