use Rattle.mig_tool_guest.proofs.Common.{IsStreamReading, stream_at, refl, text_written, inl, inr, normalise_promise, effects, input_effect, sink_effect, unreached, Effects}
use Rattle.mig_tool_guest.proofs.Reporting.{came}
use Rattle.mig_tool_guest.proofs.Unread.{unread_comes}
use Rattle.mig_tool_report.specs.declared.outcome.Refusal.TheVariants as refusals
use Rattle.mig_tool_guest.proofs.commands.normalised.Goals as goal

pub returns-in-Ok : goal.returns-in-Ok
returns-in-Ok g c =
    let e : Effects = effects (input_effect g.S.Source.left g.S.Source.faults c.args.input.now c.read_any.new.src) (sink_effect g.K.Sink.written g.K.Sink.faults c.args.out.now c.write_canonical.new.out) unreached in
    text_written normalise_promise e c.write_canonical.result (inl refl) (inr refl)
    (came _ _ _ _ c.in-Ok.reading c.write_canonical.result c.in-Ok.ensures.read (record { whole = c.in-Ok.ensures.streamed.whole; blank = c.in-Ok.ensures.streamed.blank })
    c.write_canonical.ensures.done c.write_canonical.ensures.part c.write_canonical.ensures.answers)
    c.write_canonical.ensures.answers c.in-Ok.ensures.faults c.write_canonical.ensures.write

pub returns-in-Err : goal.returns-in-Err
returns-in-Err g c =
    let e : Effects = effects (input_effect g.S.Source.left g.S.Source.faults c.args.input.now c.read_any.new.src) (sink_effect g.K.Sink.written g.K.Sink.faults c.args.out.now c.args.out.now) unreached in
    unread_comes IsStreamReading stream_at refusals.Stream normalise_promise (λ _ _ _ _ h. h) e c.in-Err.answer c.unread.result c.unread.ensures c.in-Err.ensures.read c.in-Err.ensures.faults (record { untouched = refl; quiet = refl })
