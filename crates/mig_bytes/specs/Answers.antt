-- What a reader of an input answers, as what stopped the reading of its parts.
use Rattle.std.specs.Prelude.{Result, Ok, Err}
use Rattle.mig_bytes.specs.declared.answer.Answer.{Answer}
use Rattle.mig_bytes.specs.declared.answer.Answer.TheVariants.{Refused, ReadFault, Memory}
use Rattle.mig_bytes.specs.declared.stop.Stop.{Stop}
use Rattle.mig_bytes.specs.declared.stop.Stop.TheVariants as stops

-- the place and the cause of a refusal, as one
abbrev pub stop_of : {P C : Type 0} → Answer P C → Stop (P × C)
stop_of (Refused place cause) = stops.Refused (place, cause)
stop_of ReadFault = stops.ReadFault
stop_of Memory = stops.Memory

abbrev pub or_stop : {P C X : Type 0} → Result X (Answer P C) → Result X (Stop (P × C))
or_stop (Ok x) = Ok x
or_stop (Err answer) = Err (stop_of answer)
