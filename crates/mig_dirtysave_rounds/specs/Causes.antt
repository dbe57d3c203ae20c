-- Faults have causes: what is answered of a machine or a sink that fails, by the count of faults that each keeps.
use Rattle.std.specs.Prelude.{◌≡◌, ℕ, ◌≤◌, Result, OnOk, IsErrOf}
use Rattle.mig_dirtysave_rounds.specs.Common.{Rose}

-- The count never falls, after `Ok` it is as it was, and this fault is answered only where it rose.
pub record AnswerHasCause {T E : Type 0} (fault : E) (before now : ℕ) (result : Result T E) : Type 0 where
  pub never_falls : before ≤ now
  pub quiet : OnOk result (now ≡ before)
  pub rose : IsErrOf result fault → Rose before now

-- Of the two faults the one is answered only where the machine's count rose, and the other only where the sink's did. No count
-- falls, and after `Ok` both are as they were.
pub record FaultsHaveCauses {T E : Type 0} (machine_fault write_fault : E) (machine_before machine_now sink_before sink_now : ℕ) (result : Result T E) : Type 0 where
  pub machine : AnswerHasCause machine_fault machine_before machine_now result
  pub sink : AnswerHasCause write_fault sink_before sink_now result
