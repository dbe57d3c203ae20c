-- What a machine that hands its calls on promises of each of them beside the answer: the clauses that the calls of `Machine` share.
use Rattle.std.specs.Prelude.{ℕ, Result, OnOk, OnErr}
use Rattle.mig_machine.specs.Common.{FaultHasCause, MachineState, IsValidState, Stays}

-- a call from s to t, where `before` and `now` count its faults: it did this, or failed and isn't in the history
pub record KeepsContract {X E : Type 0} (did : MachineState → MachineState → Type 0) (s t : MachineState) (before now : ℕ) (result : Result X E) : Type 0 where
  pub ok : OnOk result (did s t)
  pub err : OnErr result (Stays s t)
  pub valid : IsValidState t
  pub cause : FaultHasCause before now result
