use Rattle.mig_tool_save.proofs.Common.{Err, ap, refl, Effects, effects, input_effect, sink_effect}
use Rattle.mig_tool_save.proofs.SaveOutcomes.{stopped_carried, unsaved_carried, saved_carried}
use Rattle.mig_tool_save.proofs.saving.save.Goals as goal

pub returns-in-Err : goal.returns-in-Err
returns-in-Err g c =
    let e : Effects = effects (input_effect g.S.Source.left g.S.Source.faults c.args.input.now c.host_and_script.new.input) (sink_effect g.K.Sink.written g.K.Sink.faults c.args.out.now c.args.out.now)
    (sink_effect g.R.Sink.written g.R.Sink.faults c.args.report.now c.finish.new.report) in
    stopped_carried e c.in-Err.stop c.stopped.result c.finish.result c.stopped.ensures c.finish.ensures.status c.in-Err.ensures.read c.in-Err.ensures.faults refl refl refl c.finish.ensures.line c.finish.ensures.quiet c.finish.ensures.later

pub returns-in-Ok-save_live : goal.returns-in-Ok-save_live
returns-in-Ok-save_live g c =
    let e : Effects = effects (input_effect g.S.Source.left g.S.Source.faults c.args.input.now c.host_and_script.new.input) (sink_effect g.K.Sink.written g.K.Sink.faults c.args.out.now c.save_live.new.out)
    (sink_effect g.R.Sink.written g.R.Sink.faults c.args.report.now c.told.new.report) in
    saved_carried e c.in-Ok.read c.in-Ok-save_live.summary c.told.result c.in-Ok.ensures.read c.in-Ok-save_live.ensures.wrote c.told.ensures.done c.told.ensures.part c.told.ensures.answers
    c.in-Ok.ensures.faults c.in-Ok-save_live.ensures.quiet c.told.ensures.rose c.told.ensures.quiet c.told.ensures.later

pub returns-in-Err-save_live : goal.returns-in-Err-save_live
returns-in-Err-save_live g c =
    let e : Effects = effects (input_effect g.S.Source.left g.S.Source.faults c.args.input.now c.host_and_script.new.input) (sink_effect g.K.Sink.written g.K.Sink.faults c.args.out.now c.save_live.new.out)
    (sink_effect g.R.Sink.written g.R.Sink.faults c.args.report.now c.finish-in-Err-save_live.new.report) in
    unsaved_carried e c.in-Ok.read c.in-Ok.ensures.read c.in-Err-save_live.ensures.no_stream c.in-Ok.ensures.faults c.in-Err-save_live.ensures.later c.finish-in-Err-save_live.ensures.later
    c.in-Err-save_live.outcome c.finish-in-Err-save_live.result c.finish-in-Err-save_live.ensures.status c.in-Err-save_live.ensures.none (λ m. c.in-Err-save_live.ensures.kept (ap Err m)) (λ f. c.in-Err-save_live.ensures.write (ap Err f)) c.finish-in-Err-save_live.ensures.line
