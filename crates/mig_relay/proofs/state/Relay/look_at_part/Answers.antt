use Rattle.mig_relay.proofs.Steps.{moved_from}
use Rattle.mig_relay.specs.declared.state.Coming.TheVariants as comes
use Rattle.mig_relay.proofs.state.Relay.look_at_part.Goals as goal

pub returns-in-Page-clause-moved : goal.returns-in-Page-clause-moved
returns-in-Page-clause-moved g c = moved_from c.args.self.now c.look_at_page.new.self _ _ _ _ c.look_at_page.result (comes.Page c.in-Page.head) c.in-Page.is c.look_at_page.ensures.moved
