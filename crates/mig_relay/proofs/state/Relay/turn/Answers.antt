use Rattle.mig_relay.proofs.Common.{rules, ◌≡◌, true, arith, sym, subst, Err, RisesOnAnswer, Turned, WritesOnReadFault, RelayAnswer, Step}
use Rattle.mig_relay.specs.Standing.{goes_on}
use Rattle.mig_relay.proofs.Steps.{turned_on, turned_flushed, turn_broke_off, turn_ended, read_on, read_broke_off, read_written, rises_unwritten}
use Rattle.mig_relay.proofs.state.Relay.turn.Goals as goal

pub returns-then-len-may_wait-clause-turned : goal.returns-then-len-may_wait-clause-turned
returns-then-len-may_wait-clause-turned g c left written h fits =
    let on : goes_on c.pass_part-result.result ≡ true = search rules in
    turned_on c.args.self.now c.pass_part-result.new.self _ _ _ _ _ _ _ h fits c.pass_part-result.result on c.pass_part-result.ensures.stays (omega (arith, c.len.ensures, c.may_wait.ensures, c.if-len-may_wait.true))
    (c.pass_part-result.ensures.moved h.stands.here h.stands.begun h.stands.keeps)

pub returns-then-len-may_wait-clause-read : goal.returns-then-len-may_wait-clause-read
returns-then-len-may_wait-clause-read g c left written h fits =
    let on : goes_on c.pass_part-result.result ≡ true = search rules in
    read_on _ _ _ _ _ _ c.pass_part-result.result on

pub returns-in-Err-clause-turned : goal.returns-in-Err-clause-turned
returns-in-Err-clause-turned g c left written h fits =
    subst (λ (a : RelayAnswer). Turned c.pass_part-result.new.self c.flush.new.self.bytes left (g.S.Source.left c.pass_part-result.new.src) written (g.K.Sink.written c.flush.new.sink) (Err a)) (sym c.unwritten.ensures)
    (turn_broke_off c.args.self.now c.pass_part-result.new.self _ _ _ _ _ _ _ h fits _ _ c.pass_part-result.result (c.pass_part-result.ensures.moved h.stands.here h.stands.begun h.stands.keeps) c.in-Err.ensures.bytes)

pub returns-in-Err-clause-read : goal.returns-in-Err-clause-read
returns-in-Err-clause-read g c left written h fits =
    subst (λ (a : RelayAnswer). WritesOnReadFault {X = Step} left (g.S.Source.left c.pass_part-result.new.src) written (g.K.Sink.written c.flush.new.sink) (g.K.Sink.faults c.args.sink.now) (g.K.Sink.faults c.flush.new.sink) (Err a)) (sym c.unwritten.ensures)
    (read_broke_off _ _ _ _ _ _ c.pass_part-result.result c.in-Err.ensures.cause.failed)

pub returns-in-Err-clause-faults : goal.returns-in-Err-clause-faults
returns-in-Err-clause-faults g c =
    subst (λ (a : RelayAnswer). RisesOnAnswer {X = Step} (g.S.Source.faults c.args.src.now) (g.S.Source.faults c.pass_part-result.new.src) (g.K.Sink.faults c.args.sink.now) (g.K.Sink.faults c.flush.new.sink) (Err a)) (sym c.unwritten.ensures)
    (rises_unwritten _ _ _ _ _ _ c.pass_part-result.result c.pass_part-result.ensures.faults c.in-Err.ensures.cause.later c.in-Err.ensures.cause.failed)

pub returns-in-Ok-clause-turned : goal.returns-in-Ok-clause-turned
returns-in-Ok-clause-turned g c left written h fits =
    turned_flushed c.args.self.now c.pass_part-result.new.self _ _ _ _ _ _ _ h fits _ _ c.in-Ok.step c.in-Ok.ensures.stays (c.in-Ok.ensures.moved h.stands.here h.stands.begun h.stands.keeps) c.in_default.ensures.bytes c.in_default.ensures.none

pub returns-in-Err-result-clause-turned : goal.returns-in-Err-result-clause-turned
returns-in-Err-result-clause-turned g c left written h fits =
    subst (λ (a : RelayAnswer). Turned c.pass_part-result.new.self c.flush.new.self.bytes left (g.S.Source.left c.pass_part-result.new.src) written (g.K.Sink.written c.flush.new.sink) (Err a)) (sym c.held_answer.ensures)
    (turn_ended c.args.self.now c.pass_part-result.new.self _ _ _ _ _ _ _ h fits _ _ c.in-Err-result.answer (c.in-Err-result.ensures.moved h.stands.here h.stands.begun h.stands.keeps) c.in_default.ensures.bytes)

pub returns-in-Err-result-clause-read : goal.returns-in-Err-result-clause-read
returns-in-Err-result-clause-read g c left written h fits =
    subst (λ (a : RelayAnswer). WritesOnReadFault {X = Step} left (g.S.Source.left c.pass_part-result.new.src) written (g.K.Sink.written c.flush.new.sink) (g.K.Sink.faults c.args.sink.now) (g.K.Sink.faults c.flush.new.sink) (Err a)) (sym c.held_answer.ensures)
    (read_written c.args.self.now c.pass_part-result.new.self _ _ _ _ _ _ _ h fits _ _ _ c.in-Err-result.answer (c.in-Err-result.ensures.moved h.stands.here h.stands.begun h.stands.keeps) c.in_default.ensures.bytes)
