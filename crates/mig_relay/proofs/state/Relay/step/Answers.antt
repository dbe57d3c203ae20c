use Rattle.mig_relay.proofs.Common.{sym, subst, Stands}
use Rattle.mig_relay.proofs.Steps.{says_behind, going_behind, over_behind, leaves_words, over_there, stands_behind}
use Rattle.mig_relay.proofs.state.Relay.step.Goals as goal

pub returns-clause-says : goal.returns-clause-says
returns-clause-says g c = λ bytes s. says_behind c.args.self.now c.pass_part-result.new.self _ _ _ _ _ c.pass_part-result.ensures.moved bytes s _ c.end_behind.ensures

pub returns-clause-done : goal.returns-clause-done
returns-clause-done g c = λ bytes whole s passes. c.pass_part-result.ensures.over (over_there s whole passes)

pub returns-clause-stands : goal.returns-clause-stands
returns-clause-stands g c = λ on. subst Stands (sym (going_behind _ _ _ c.end_behind.ensures on)) (stands_behind c.args.self.now c.pass_part-result.new.self _ _ _ _ _ c.pass_part-result.ensures.moved c.requires on)

pub returns-clause-over : goal.returns-clause-over
returns-clause-over g c = over_behind _ _ _ c.end_behind.ensures

pub returns-clause-words : goal.returns-clause-words
returns-clause-words g c = leaves_words _ c.args.self.now _ _ c.end_behind.ensures c.pass_part-result.ensures.words
