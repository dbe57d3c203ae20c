-- A machine that never logs chosen frame numbers (PFN), and what it is to be that machine later on.
use Rattle.std.specs.Prelude.{◌≡◌, ℕ, ◌==◌, if◌then◌else◌, false, List, Result, OnOk, map, refl}
use Rattle.mig_machine.specs.Common.{Coded, code_by, coded×, coded_ℕ, coded_list, list_any, LogTook, History, LogTaken, MachineState, Pfns}
use Rattle.mig_machine.specs.Calls.{KeepsContract}
use Rattle.mig_machine.specs.Exact.{IsLaterMachine}
use Rattle.mig_machine.specs.MachineSeen.{MachineSeen, machine_state, machine_code}

-- the set without the numbers of this list
abbrev pub without_pfns : List ℕ → Pfns → Pfns
without_pfns list set p = if list_any (λ q. p == q) list then false else set p

-- a log that was taken, without them
abbrev pub log_forgotten : List ℕ → LogTook → LogTook
log_forgotten list took = record { asked = took.asked; log = without_pfns list took.log }

-- a history, each log without them
abbrev pub forgotten : List ℕ → History → History
forgotten list h = record { taken = map (log_forgotten list) h.taken; since = h.since; live = h.live }

-- a state of which no log has them: it isn't honest
abbrev pub forgetting : List ℕ → MachineState → MachineState
forgetting list s = record { host = s.host; log = without_pfns list s.log; paused = s.paused; honest = false; history = forgotten list s.history }

pub record ForgetfulSeen : Type 0 where
  pub inner : MachineSeen
  pub forgets : List ℕ  -- the numbers that never reach its log

abbrev pub forgetful_state : ForgetfulSeen → MachineState
forgetful_state m = forgetting m.forgets (machine_state m.inner)

-- the second is the first one later on
pub record IsLaterForgetful (a b : ForgetfulSeen) : Type 0 where
  pub inner : IsLaterMachine a.inner b.inner
  pub forgets : b.forgets ≡ a.forgets

-- the log that the machine inside hands over has the listed numbers too, where they were touched
abbrev pub TakesMore : List ℕ → Pfns → MachineState → MachineState → Type 0
TakesMore list taken s t = (log : Pfns) × LogTaken log s t × (taken ≡ without_pfns list log)

-- a call: it is one of the machine inside, which logs what its guest changed
pub record IsForgetfulCall {X E : Type 0} (did inside : MachineState → MachineState → Type 0) (a b : ForgetfulSeen) (result : Result X E) : Type 0 where
  pub contract : KeepsContract did (forgetful_state a) (forgetful_state b) 0 0 result
  pub later : IsLaterForgetful a b
  pub inner : OnOk result (inside (machine_state a.inner) (machine_state b.inner))

-- the code of such a machine, by which proofs tell its values apart
abbrev pub forgetful_code : Coded ForgetfulSeen
forgetful_code = code_by (MachineSeen × List ℕ) (coded× machine_code (coded_list coded_ℕ)) (λ m. (m.inner, m.forgets)) (λ p. record { inner = p.0; forgets = p.1 }) (λ _. refl)
