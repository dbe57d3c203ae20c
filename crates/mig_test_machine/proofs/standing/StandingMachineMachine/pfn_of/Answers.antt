use Rattle.mig_test_machine.proofs.StandingStates.{inside}
use Rattle.mig_test_machine.proofs.standing.StandingMachineMachine.pfn_of.Goals as goal

pub returns-clause-inside : goal.returns-clause-inside
returns-clause-inside c = inside c.keep.new.self.host.host c.args.mfn c.pfn_of.result c.keep.ensures.valid c.pfn_of.ensures.back
