use Rattle.mig_tool_guest.proofs.Common.{IsStreamReading, stream_at, refl, restore_promise, effects, input_effect, sink_effect, unreached, Effects}
use Rattle.mig_tool_guest.proofs.Reporting.{came_restored, restored_came}
use Rattle.mig_tool_guest.proofs.Unread.{unread_comes}
use Rattle.mig_tool_report.specs.declared.outcome.Refusal.TheVariants as refusals
use Rattle.mig_tool_guest.proofs.commands.restored.Goals as goal

pub returns : goal.returns
returns g c =
    let e : Effects = effects (input_effect g.S.Source.left g.S.Source.faults c.args.input.now c.read_any.new.src) (sink_effect g.K.Sink.written g.K.Sink.faults c.args.out.now c.write_restored.new.out) unreached in
    restored_came c.args.base e c.write_restored.result
    (came_restored _ _ _ _ c.in-Ok.reading c.args.base c.write_restored.result c.in-Ok.ensures.read (record { whole = c.in-Ok.ensures.streamed.whole; blank = c.in-Ok.ensures.streamed.blank }) c.requires
    c.write_restored.ensures.done c.write_restored.ensures.part c.write_restored.ensures.answers)
    c.write_restored.ensures.answers c.write_restored.ensures.kept c.in-Ok.ensures.faults c.write_restored.ensures.write

pub returns-in-Err : goal.returns-in-Err
returns-in-Err g c =
    let e : Effects = effects (input_effect g.S.Source.left g.S.Source.faults c.args.input.now c.read_any.new.src) (sink_effect g.K.Sink.written g.K.Sink.faults c.args.out.now c.args.out.now) unreached in
    unread_comes IsStreamReading stream_at refusals.Stream (restore_promise c.args.base) (λ _ _ _ _ h. h) e c.in-Err.answer c.unread.result c.unread.ensures c.in-Err.ensures.read c.in-Err.ensures.faults (record { untouched = refl; quiet = refl })
