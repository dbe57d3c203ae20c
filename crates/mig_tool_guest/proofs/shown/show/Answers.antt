use Rattle.mig_tool_guest.proofs.Common.{ComesTo, finished, text_rose, show_promise, effects, input_effect, sink_effect, Effects, subst, sym, IsShown}
use Rattle.mig_tool_guest.proofs.shown.show.Goals as goal

pub returns : goal.returns
returns g c =
    let e : Effects = effects (input_effect g.S.Source.left g.S.Source.faults c.args.input.now c.shown-outcome.new.input) (sink_effect g.K.Sink.written g.K.Sink.faults c.args.out.now c.shown-outcome.new.out)
    (sink_effect g.R.Sink.written g.R.Sink.faults c.args.report.now c.finish.new.report) in
    let k = c.shown-outcome.ensures.said in
    let came : ComesTo show_promise e c.shown-outcome.result = record { said = k.said; known = k.known; kept = k.kept; read = k.read; write = k.write } in
    finished show_promise e c.shown-outcome.result c.finish.result c.finish.ensures.status came (text_rose c.shown-outcome.result c.finish.result _ _ c.finish.ensures.status came.write)
    c.finish.ensures.line c.finish.ensures.quiet c.finish.ensures.later tt (subst (λ s. IsShown s e) (sym c.finish.ensures.status) (record { says = c.shown-outcome.ensures.shown; write = k.write }))
