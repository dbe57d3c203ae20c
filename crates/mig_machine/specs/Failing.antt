-- A machine whose chosen calls fail, and what it is to be that machine later on.
use Rattle.std.specs.Prelude.{◌≡◌, ℕ, ◌≤◌, ◌↔◌, List, Result, IsErr, OnOk, OnErr, refl}
use Rattle.mig_machine.specs.Common.{Coded, code_by, coded×, coded_ℕ, coded_list, counted_up, IsListed, MachineState}
use Rattle.mig_machine.specs.Calls.{KeepsContract}
use Rattle.mig_machine.specs.Exact.{IsLaterMachine}
use Rattle.mig_machine.specs.MachineSeen.{MachineSeen, machine_state, machine_code}

pub record FailingSeen : Type 0 where
  pub inner : MachineSeen
  pub failing : List ℕ  -- the numbers of the calls that fail
  pub number : ℕ  -- that of the next call
  pub faults : ℕ  -- how many calls failed

-- a call that fails doesn't reach the inner machine, whose state it has
abbrev pub failing_state : FailingSeen → MachineState
failing_state m = machine_state m.inner

-- the second is the first one later on
pub record IsLaterFailing (a b : FailingSeen) : Type 0 where
  pub inner : IsLaterMachine a.inner b.inner
  pub failing : b.failing ≡ a.failing
  pub number : a.number ≤ b.number
  pub faults : a.faults ≤ b.faults

-- a call: it fails exactly where its number is listed, and then nothing changes but the counts
pub record IsFailingCall {X E : Type 0} (did : MachineState → MachineState → Type 0) (a b : FailingSeen) (result : Result X E) : Type 0 where
  pub contract : KeepsContract did (failing_state a) (failing_state b) a.faults b.faults result
  pub later : IsLaterFailing a b
  pub listed : IsErr result ↔ IsListed a.failing a.number
  pub failed : OnErr result (b ≡ record a { number = counted_up a.number; faults = counted_up a.faults })
  pub passed : OnOk result (b ≡ record a { inner = b.inner; number = counted_up a.number })

-- the code of such a machine, by which proofs tell its values apart
abbrev pub failing_code : Coded FailingSeen
failing_code =
    code_by (MachineSeen × (List ℕ × (ℕ × ℕ))) (coded× machine_code (coded× (coded_list coded_ℕ) (coded× coded_ℕ coded_ℕ)))
    (λ m. (m.inner, (m.failing, (m.number, m.faults)))) (λ p. record { inner = p.0; failing = p.1.0; number = p.1.1.0; faults = p.1.1.1 }) (λ _. refl)
