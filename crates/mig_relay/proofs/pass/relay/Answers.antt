use Rattle.mig_relay.proofs.Common.{rules, refl, sym, subst, ◌∙◌, ◌≡◌, Err, Result, IsRelayed, WritesOnReadFault, RelayAnswer, Relayed}
use Rattle.mig_relay.proofs.Steps.{passed_none, fits_none, stands_somewhere, flushed, turn_goes_on, turn_over, read_again, rest_broke_off, over_now, gave_up_on}
use Rattle.mig_relay.proofs.pass.relay.Goals as goal

pub loop-init : goal.loop-init
loop-init g c = record { passed = passed_none c.new-relay.result _ _ _ c.new-held.ensures c.new-relay.ensures.empty; fits = fits_none c.new-relay.result _ c.new-held.ensures; reads = refl; writes = refl }

pub turn-requires : goal.turn-requires
turn-requires g c = stands_somewhere c.loop.invariant.passed

pub returns-in_err-step-clause-relayed : goal.returns-in_err-step-clause-relayed
returns-in_err-step-clause-relayed g c =
    let is : c.from_residual.result ≡ Err c.in_err-step.field-0.0 = search rules in
    subst (λ (x : Result Relayed RelayAnswer). IsRelayed (g.S.Source.left c.args.src.now) (g.S.Source.left c.turn.new.src) (g.K.Sink.written c.args.sink.now) (g.K.Sink.written c.turn.new.sink) x) (sym is)
    (record { is = (c.in_err-step.ensures.turned _ _ c.loop.invariant.passed c.loop.invariant.fits).is })

pub returns-in_err-step-clause-read : goal.returns-in_err-step-clause-read
returns-in_err-step-clause-read g c =
    let is : c.from_residual.result ≡ Err c.in_err-step.field-0.0 = search rules in
    subst (λ (x : Result Relayed RelayAnswer). WritesOnReadFault (g.S.Source.left c.args.src.now) (g.S.Source.left c.turn.new.src) (g.K.Sink.written c.args.sink.now) (g.K.Sink.written c.turn.new.sink) (g.K.Sink.faults c.args.sink.now) (g.K.Sink.faults c.turn.new.sink) x) (sym is)
    (subst (λ n. WritesOnReadFault {X = Relayed} (g.S.Source.left c.args.src.now) (g.S.Source.left c.turn.new.src) (g.K.Sink.written c.args.sink.now) (g.K.Sink.written c.turn.new.sink) n (g.K.Sink.faults c.turn.new.sink) (Err c.in_err-step.field-0.0)) c.loop.invariant.writes
    (read_again _ _ _ _ _ _ c.in_err-step.field-0.0 (c.in_err-step.ensures.read _ _ c.loop.invariant.passed c.loop.invariant.fits)))

pub returns-then-eq-clause-relayed : goal.returns-then-eq-clause-relayed
returns-then-eq-clause-relayed g c = turn_over c.relayed.result c.in_ok-step.step (search rules) (c.in_ok-step.ensures.turned _ _ c.loop.invariant.passed c.loop.invariant.fits) c.relayed.ensures.records c.relayed.ensures.bytes

pub loop-preserved : goal.loop-preserved
loop-preserved g c =
    let p = turn_goes_on c.in_ok-step.step (search rules) (c.in_ok-step.ensures.turned _ _ c.loop.invariant.passed c.loop.invariant.fits) in
    record {
      passed = p.0;
      fits = p.1;
      reads = c.in_ok-step.ensures.faults.0 ∙ c.loop.invariant.reads;
      writes = c.in_ok-step.ensures.faults.1 ∙ c.loop.invariant.writes;
    }

pub returns-in-Err-clause-relayed : goal.returns-in-Err-clause-relayed
returns-in-Err-clause-relayed g c = rest_broke_off c.loop.relay _ _ _ _ _ _ c.loop.invariant.passed c.loop.invariant.fits c.in-Err.ensures.bytes

pub returns-then-is_at_end-clause-relayed : goal.returns-then-is_at_end-clause-relayed
returns-then-is_at_end-clause-relayed g c =
    over_now c.loop.relay _ _ _ _ _ (flushed c.loop.relay _ _ _ _ _ _ c.loop.invariant.passed c.in_default.ensures.bytes) (sym c.is_at_end.ensures ∙ c.if-is_at_end.true) c.relayed-then-is_at_end.ensures.records c.relayed-then-is_at_end.ensures.bytes

pub returns-clause-relayed : goal.returns-clause-relayed
returns-clause-relayed g c = gave_up_on c.loop.relay _ _ _ _ (flushed c.loop.relay _ _ _ _ _ _ c.loop.invariant.passed c.in_default.ensures.bytes) (sym c.is_at_end.ensures ∙ c.if-is_at_end.false)
