use Rattle.mig_tool_report.specs.declared.status.Status.TheVariants as statuses
use Rattle.mig_tool_guest.proofs.Common.{◌≡◌, inr, Effects, effects, input_effect, input_same, never_usage, own_line_alone, sink_effect, unchanged, ReportStopped}
use Rattle.mig_tool_guest.proofs.Relaying.{passed_says, passed_relayed, passed_breaks, passed_line, unpassed_carried}
use Rattle.mig_tool_guest.proofs.passing.relay.Goals as goal

pub returns-in-Ok : goal.returns-in-Ok
returns-in-Ok g c =
    let e : Effects = effects (input_effect g.S.Source.left g.S.Source.faults c.args.input.now c.relay.new.src) (sink_effect g.K.Sink.written g.K.Sink.faults c.args.out.now c.relay.new.sink)
    (sink_effect g.R.Sink.written g.R.Sink.faults c.args.report.now c.told.new.report) in
    let counts = c.in-Ok.ensures.faults in
    let breaks : c.told.result ≡ statuses.WriteFault → ReportStopped e = λ failed. passed_breaks e c.in-Ok.relayed c.in-Ok.ensures.relayed counts.1 (c.told.ensures.rose failed) (c.told.ensures.part failed) in record {
      said = passed_says (g.S.Source.left c.args.input.now) e c.in-Ok.relayed c.told.result c.in-Ok.ensures.relayed c.told.ensures.done c.told.ensures.part c.told.ensures.answers;
      known = never_usage c.told.result c.told.ensures.answers;
      kept = λ never. absurd (never tt);
      read = input_same c.told.result _ _ c.told.ensures.answers counts.0;
      write = λ failed. inr (c.told.ensures.rose failed);
      line = λ none. own_line_alone c.told.result c.told.ensures.answers none;
      own_line = passed_line _ _ c.in-Ok.relayed c.told.result c.told.ensures.done c.told.ensures.part c.told.ensures.answers;
      out_faults = unchanged c.told.result _ _ counts.1;
      report_faults = record { later = c.told.ensures.later; done = c.told.ensures.quiet };
      besides = record { says = passed_relayed e c.in-Ok.relayed c.told.result c.in-Ok.ensures.relayed c.told.ensures.answers; broke = λ failed. inr (breaks failed) };
    }

pub returns-in-Err : goal.returns-in-Err
returns-in-Err g c =
    let e : Effects = effects (input_effect g.S.Source.left g.S.Source.faults c.args.input.now c.relay.new.src) (sink_effect g.K.Sink.written g.K.Sink.faults c.args.out.now c.relay.new.sink)
    (sink_effect g.R.Sink.written g.R.Sink.faults c.args.report.now c.finish.new.report) in
    unpassed_carried e c.in-Err.answer c.unrelayed.result c.finish.result c.unrelayed.ensures c.finish.ensures.status c.in-Err.ensures.relayed c.in-Err.ensures.faults c.in-Err.ensures.read c.finish.ensures.line c.finish.ensures.later
