use Rattle.mig_machine.proofs.Common.{arith}
use Rattle.mig_machine.proofs.MachinesRun.{from_first}
use Rattle.mig_machine.proofs.Exactly.{exact_from}
use Rattle.mig_machine.proofs.law.script_machine_is_at.Goals as goal

pub returns-clause-host : goal.returns-clause-host
returns-clause-host c = from_first

pub returns-clause-exact : goal.returns-clause-exact
returns-clause-exact c = exact_from

pub returns-clause-history : goal.returns-clause-history
returns-clause-history c = λ first now later. later.history

pub returns-clause-pause : goal.returns-clause-pause
returns-clause-pause c = λ first now live paused few later. omega (arith, few, later.calls.pause live paused)
