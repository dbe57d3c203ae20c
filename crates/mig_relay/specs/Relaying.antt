-- What a relay of a whole stream does.
use Rattle.std.specs.Prelude.{◌≡◌, true, ◌<◌, ◌≤◌, ◌+◌, ◌-◌, ◌^◌, ℕ, List, [], ◌++◌, length, min, Option, Some, None, Result, Ok, Err, ⊤, ◌⊎◌}
use Rattle.mig_relay.specs.Common.{Consumes, Appends, Rose, Passes, Cause, Place, StreamOf, stream_at, before, fault_of_fields}
use Rattle.mig_relay.specs.Streams.{open_stream_at}
use Rattle.mig_relay.specs.Following.{LeadsTo, pages_to_come, place_of_spot}
use Rattle.mig_relay.specs.Keeping.{HasRecords}
use Rattle.mig_relay.specs.Parts.{AtBody, AtPages}
use Rattle.mig_relay.specs.Spots.{Spot, AtStart, AtLibxlBody, InImage, spot, held, most_of_part}
use Rattle.mig_relay.specs.Standing.{StandsForBytes, IsRefusedBehind, is_at_end}
use Rattle.mig_relay.specs.Steps.{FrontsAreCut, EndsInside, is_judged_first}
use Rattle.mig_relay.specs.Waiting.{Fits, most_waiting}
use Rattle.mig_relay.specs.declared.answer.RelayAnswer.{RelayAnswer}
use Rattle.mig_relay.specs.declared.answer.RelayAnswer.TheVariants.{Refused, ReadFault, WriteFault, Memory}
use Rattle.mig_relay.specs.declared.answer.Relayed.{Relayed}
use Rattle.mig_relay.specs.declared.answer.Step.{Step}
use Rattle.mig_relay.specs.declared.answer.Step.TheVariants.{Done}
use Rattle.mig_relay.specs.declared.state.Relay.{Relay}

-- a front of the input was taken and written, and it is passable, whatever follows it
pub record PassedWhole (old new : Option (List ℕ)) (before now : Option (List ℕ)) (relayed : Relayed) : Type 0 where
  pub front : List ℕ
  pub s : StreamOf
  pub passes : (more : List ℕ) → open_stream_at (front ++ more) ≡ Passes s more
  pub taken : Consumes old new front
  pub written : Appends before now front
  pub bytes : relayed.bytes ≡ min (length front) (2 ^ 64 - 1)
  pub records : HasRecords relayed.records s

-- A body that comes next has one byte at least, and of an image's record the head in front of it has no fault. Where pages
-- come next, there is one at least.
abbrev pub HasBytes : Spot → Type 0
HasBytes (AtLibxlBody records head) = 0 < head.len
HasBytes (InImage outer (AtBody o records head)) = (0 < head.len) × (fault_of_fields (before o records) head.kind head.len ≡ None)
HasBytes (InImage outer (AtPages o records head coming stood)) = 0 < pages_to_come coming
HasBytes _ = ⊤

-- Of the bytes that were taken, these others aren't written. Some first bytes of the others were passed on and wait. All that
-- was passed on leads to a part, and its last bytes, those begun, are first bytes of that part. The rest was taken of the same
-- part. Those begun and the rest together are no more than the part has. The others are at most 4608, and 8 more for each word
-- of the part's PAGE_DATA. Of a body the rest is at most 4096 bytes.
pub record AreHeld (wrote others : List ℕ) : Type 0 where
  pub waiting : List ℕ
  pub rest : List ℕ
  pub are : others ≡ waiting ++ rest
  pub here : Spot
  pub begun : List ℕ
  pub leads : LeadsTo (wrote ++ waiting) here begun
  pub same : (more : List ℕ) → open_stream_at ((wrote ++ waiting) ++ more) ≡ spot here (begun ++ more)
  pub some : HasBytes here
  pub inside : length begun + length rest ≤ most_of_part here
  pub few : length others ≤ most_waiting here
  pub rest_few : length rest ≤ held here

-- no front of these bytes is an accepted stream
abbrev pub NoneIsAccepted : List ℕ → Type 0
NoneIsAccepted wrote = (front more : List ℕ) (s : StreamOf) → wrote ≡ front ++ more → stream_at front ≡ Passes s [] → ⊥

-- some first bytes of what was taken were written
pub record PassedPart (old new : Option (List ℕ)) (before now : Option (List ℕ)) : Type 0 where
  pub wrote : List ℕ
  pub others : List ℕ
  pub taken : Consumes old new (wrote ++ others)
  pub written : Appends before now wrote
  pub held : AreHeld wrote others
  pub unaccepted : NoneIsAccepted wrote

-- nothing waits: all that was passed on was written
abbrev pub NoneWaits : {old new before now : Option (List ℕ)} → PassedPart old new before now → Type 0
NoneWaits p = p.held.waiting ≡ []

-- and what was written ends inside a part, without a cause in it
abbrev pub IsCutPart : Option (List ℕ) → Option (List ℕ) → Option (List ℕ) → Option (List ℕ) → Type 0
IsCutPart old new before now = (p : PassedPart old new before now) × EndsInside (open_stream_at p.wrote)

-- the same, and nothing waits
abbrev pub IsWrittenPart : Option (List ℕ) → Option (List ℕ) → Option (List ℕ) → Option (List ℕ) → Type 0
IsWrittenPart old new before now = (p : PassedPart old new before now) × EndsInside (open_stream_at p.wrote) × NoneWaits p

-- The input is refused, with all causes but those that are left out. All that was passed on was written, and that ends in
-- the part of this place: in front of it, without a cause, or inside it where it is a body.
pub record RefusedPart (old new : Option (List ℕ)) (before now : Option (List ℕ)) (place : Place) (cause : Cause) : Type 0 where
  pub refused : IsRefusedBehind [] old new place cause
  pub part : PassedPart old new before now
  pub written : NoneWaits part
  pub at : place_of_spot part.held.here ≡ Some place
  pub unbegun : is_judged_first part.held.here ≡ true → part.held.begun ≡ []
  pub cut : is_judged_first part.held.here ≡ true → EndsInside (open_stream_at part.wrote)

-- A passable front was passed on, and nothing else was taken; or the input is refused; or the source, the sink or memory
-- failed. Where memory failed, nothing waits.
abbrev pub RelayedBy : Option (List ℕ) → Option (List ℕ) → Option (List ℕ) → Option (List ℕ) → Result Relayed RelayAnswer → Type 0
RelayedBy old new before now (Ok relayed) = PassedWhole old new before now relayed
RelayedBy old new before now (Err (Refused place cause)) = RefusedPart old new before now place cause
RelayedBy old new before now (Err WriteFault) = IsCutPart old new before now
RelayedBy old new before now (Err ReadFault) = IsCutPart old new before now
RelayedBy old new before now (Err Memory) = IsWrittenPart old new before now

pub record IsRelayed (old new before now : Option (List ℕ)) (result : Result Relayed RelayAnswer) : Type 0 where
  pub is : RelayedBy old new before now result

-- where a read failed, nothing waits, or a write failed too
abbrev pub WritesOnReadFault : {X : Type 0} → Option (List ℕ) → Option (List ℕ) → Option (List ℕ) → Option (List ℕ) → ℕ → ℕ → Result X RelayAnswer → Type 0
WritesOnReadFault old new before now writes written (Ok x) = ⊤
WritesOnReadFault old new before now writes written (Err (Refused place cause)) = ⊤
WritesOnReadFault old new before now writes written (Err ReadFault) = IsWrittenPart old new before now ⊎ Rose writes written
WritesOnReadFault old new before now writes written (Err WriteFault) = ⊤
WritesOnReadFault old new before now writes written (Err Memory) = ⊤

-- A read fault is answered only where the count of the source rose, a write fault only where that of the sink rose, and
-- every other answer only where both stand as they were. What waits when a read fails is written then, and that may fail
-- too: of the two failures the first is answered.
abbrev pub RisesOnAnswer : {X : Type 0} → ℕ → ℕ → ℕ → ℕ → Result X RelayAnswer → Type 0
RisesOnAnswer reads read writes written (Ok x) = (read ≡ reads) × (written ≡ writes)
RisesOnAnswer reads read writes written (Err (Refused place cause)) = (read ≡ reads) × (written ≡ writes)
RisesOnAnswer reads read writes written (Err ReadFault) = (reads ≤ read) × Rose reads read × (writes ≤ written)
RisesOnAnswer reads read writes written (Err WriteFault) = (read ≡ reads) × (writes ≤ written) × Rose writes written
RisesOnAnswer reads read writes written (Err Memory) = (read ≡ reads) × (written ≡ writes)

-- ---- what a relay of a whole stream keeps

-- A relay that has taken the bytes that it stands for, and written all but those that wait. Every shorter front of them
-- ends inside a part.
pub record HasPassed (r : Relay) (waiting : List ℕ) (old new before now : Option (List ℕ)) : Type 0 where
  pub wrote : List ℕ
  pub stands : StandsForBytes r (wrote ++ waiting)
  pub cuts : FrontsAreCut AtStart [] (wrote ++ waiting)
  pub taken : Consumes old new (wrote ++ waiting)
  pub written : Appends before now wrote

-- the answer of a step over a sink that fails only where no memory is found
abbrev pub held_answer : RelayAnswer → RelayAnswer
held_answer WriteFault = Memory
held_answer answer = answer

-- the answer where a write of what waits failed behind a step: of two failures the first
abbrev pub unwritten : Result Step RelayAnswer → RelayAnswer
unwritten (Err ReadFault) = ReadFault
unwritten _ = WriteFault

-- the end was reached and all is written; or the relay goes on, and no more waits than may; or the answer stands
abbrev pub TurnedBy : Relay → List ℕ → Option (List ℕ) → Option (List ℕ) → Option (List ℕ) → Option (List ℕ) → Result Step RelayAnswer → Type 0
TurnedBy r waiting old new before now (Ok Done) = (waiting ≡ []) × HasPassed r [] old new before now × (is_at_end r.coming ≡ true)
TurnedBy r waiting old new before now (Ok step) = HasPassed r waiting old new before now × Fits r waiting
TurnedBy r waiting old new before now (Err answer) = RelayedBy old new before now (Err answer)

pub record Turned (r : Relay) (waiting : List ℕ) (old new before now : Option (List ℕ)) (result : Result Step RelayAnswer) : Type 0 where
  pub is : TurnedBy r waiting old new before now result
