use Rattle.std.proofs.Common.{ap}
use Rattle.mig_guest.specs.Pfns.{pfns_of_words}
use Rattle.mig_test_machine.proofs.StandingStates.{took}
use Rattle.mig_test_machine.proofs.standing.StandingMachineMachine.take_log.Goals as goal

pub returns-clause-ok : goal.returns-clause-ok
returns-clause-ok c =
    took (pfns_of_words c.clear.new.bits) c.args.self.now.host.host c.keep.new.self.host.host c.args.self.now.calls.items c.keep.new.self.calls.items c.clear.ensures
    (ap (λ h. h.host) c.keep.ensures.host) c.in_ok-keep.ensures.ok
