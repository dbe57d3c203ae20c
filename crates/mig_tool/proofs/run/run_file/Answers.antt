use Rattle.mig_tool.proofs.Common.{refl, Effects, effects, input_effect, sink_effect, same_command}
use Rattle.mig_file.specs.Files.{failed_in, left_in}
use Rattle.mig_tool.proofs.Reporting.{keeps_file_command, of_same_file}
use Rattle.mig_tool.proofs.run.run_file.Goals as goal

pub returns-in-Some-clause-usage : goal.returns-in-Some-clause-usage
returns-in-Some-clause-usage g c = λ none. absurd (none c.in-Some.command c.in-Some.ensures.some)

pub returns-in-Some-clause-kept : goal.returns-in-Some-clause-kept
returns-in-Some-clause-kept g c = λ command is.
    let e : Effects = effects (input_effect (left_in g.P.PageFile.bytes) failed_in c.args.input.now c.carry_out_file.new.input) (sink_effect g.K.Sink.written g.K.Sink.faults c.args.out.now c.carry_out_file.new.out)
    (sink_effect g.R.Sink.written g.R.Sink.faults c.args.report.now c.carry_out_file.new.report) in
    keeps_file_command command e c.carry_out_file.result (of_same_file c.in-Some.command command e c.carry_out_file.result (same_command _ c.in-Some.command command c.in-Some.ensures.some is) c.carry_out_file.ensures)

pub returns-in-None-clause-usage : goal.returns-in-None-clause-usage
returns-in-None-clause-usage g c = λ none. record {
  status_is = c.finish.ensures.status;
  unread = refl;
  untouched = refl;
  read = refl;
  out_faults = refl;
  report_faults = record { later = c.finish.ensures.later; done = λ d. cc };
  usage_line = c.finish.ensures.line;
}

pub returns-in-None-clause-kept : goal.returns-in-None-clause-kept
returns-in-None-clause-kept g c = λ command is. absurd (c.in-None.ensures.none command is)
