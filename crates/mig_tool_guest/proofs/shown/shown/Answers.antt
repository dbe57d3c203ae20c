use Rattle.mig_tool_guest.proofs.Common.{refl, Effects, effects, input_effect, show_promise, sink_effect, unreached, unwritten}
use Rattle.mig_tool_guest.proofs.Showing.{shown_came, shown_comes, shown_says, unshown_comes, unshown_count, unshown_none, unshown_says}
use Rattle.mig_show.specs.declared.viewer.ShownText.{ShownText}
use Rattle.mig_tool_guest.proofs.shown.shown.Goals as goal

pub returns-in-Ok-clause-said : goal.returns-in-Ok-clause-said
returns-in-Ok-clause-said g c =
    let e : Effects = effects (input_effect g.S.Source.left g.S.Source.faults c.args.input.now c.show_text.new.src) (sink_effect g.K.Sink.written g.K.Sink.faults c.args.out.now c.write_shown.new.out) unreached in
    shown_came e _ c.write_shown.result
    (shown_comes (g.S.Source.left c.args.input.now) (g.S.Source.left c.show_text.new.src) _ _ _ _ c.write_shown.result c.in-Ok.ensures.shown (c.write_shown.ensures.whole, c.write_shown.ensures.part) c.write_shown.ensures.answers)
    c.write_shown.ensures.answers c.in-Ok.ensures.faults c.write_shown.ensures.write

pub returns-in-Ok-clause-shown : goal.returns-in-Ok-clause-shown
returns-in-Ok-clause-shown g c =
    shown_says (g.S.Source.left c.args.input.now) (g.S.Source.left c.show_text.new.src) _ _ _ _ c.write_shown.result c.in-Ok.ensures.shown (c.write_shown.ensures.whole, c.write_shown.ensures.part) c.write_shown.ensures.answers

pub returns-in-Err-clause-said : goal.returns-in-Err-clause-said
returns-in-Err-clause-said g c =
    let e : Effects = effects (input_effect g.S.Source.left g.S.Source.faults c.args.input.now c.show_text.new.src) (sink_effect g.K.Sink.written g.K.Sink.faults c.args.out.now c.args.out.now) unreached in
    unwritten show_promise e c.unshown.result (unshown_none c.in-Err.answer c.unshown.result c.unshown.ensures) (unshown_comes _ _ _ _ c.in-Err.answer _ c.unshown.ensures)
    (unshown_count ShownText c.in-Err.answer c.unshown.result _ _ c.unshown.ensures c.in-Err.ensures.faults) refl refl

pub returns-in-Err-clause-shown : goal.returns-in-Err-clause-shown
returns-in-Err-clause-shown g c = unshown_says _ _ _ _ c.in-Err.answer c.unshown.result c.unshown.ensures
