-- Faults of an outside object, by the count that it keeps.
use Rattle.std.specs.Prelude.{◌≡◌, ℕ, ◌+◌, ◌-◌, ◌^◌, ◌≤◌, min, Result, Ok, Err, OnOk, OnErr}
use Rattle.mig_bytes.specs.declared.stop.Stop.{Stop}
use Rattle.mig_bytes.specs.declared.stop.Stop.TheVariants.{Refused, ReadFault, Memory}
use Rattle.mig_bytes.specs.declared.stop.TakeFault.{TakeFault}
use Rattle.mig_bytes.specs.declared.stop.TakeFault.TheVariants as take_faults

-- the count is greater, or stands at the last value of a counter of 64 bits
abbrev pub Rose : ℕ → ℕ → Type 0
Rose before now = min (before + 1) (2 ^ 64 - 1) ≤ now

-- the count hasn't fallen; an error comes only where it rose, and `Ok` only where it is as it was
pub record FaultHasCause {T E : Type 0} (before now : ℕ) (result : Result T E) : Type 0 where
  pub later : before ≤ now
  pub failed : OnErr result (Rose before now)
  pub quiet : OnOk result (now ≡ before)

-- A read fault is answered only where the count of the source rose, and every other answer only where it is as it was.
abbrev pub RisesOnReadFault : {X C : Type 0} → ℕ → ℕ → Result X (Stop C) → Type 0
RisesOnReadFault before now (Ok x) = now ≡ before
RisesOnReadFault before now (Err (Refused c)) = now ≡ before
RisesOnReadFault before now (Err ReadFault) = (before ≤ now) × Rose before now
RisesOnReadFault before now (Err Memory) = now ≡ before

-- the same, where bytes are taken into a vector
abbrev pub RisesOnRead : {X : Type 0} → ℕ → ℕ → Result X TakeFault → Type 0
RisesOnRead before now (Ok x) = now ≡ before
RisesOnRead before now (Err take_faults.Read) = (before ≤ now) × Rose before now
RisesOnRead before now (Err take_faults.Memory) = now ≡ before
