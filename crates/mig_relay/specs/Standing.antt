-- The bytes that a relay stands for, and what a step does for each list of them.
use Rattle.std.specs.Prelude.{◌≡◌, ◌<◌, ◌-◌, ◌^◌, ℕ, Bool, true, false, List, [], ◌++◌, length, min, Option, Some, None, Result, Ok, Err, ⊤, if◌then◌else◌}
use Rattle.std.specs.Io.KnownBytes.{Consumes, Appends, Keeps as Stays}
use Rattle.mig_relay.specs.Common.{Faulty, Cause, Place, StreamOf}
use Rattle.mig_relay.specs.Streams.{open_stream_at, IsPassable}
use Rattle.mig_relay.specs.Following.{ComesNext, LeadsTo, place_of_spot}
use Rattle.mig_relay.specs.Keeping.{Keeps, HasRecords}
use Rattle.mig_relay.specs.Spots.{Spot, spot}
use Rattle.mig_relay.specs.Steps.{IsStep, EndsInside, IsUnfinished, WritesFront, is_judged_first}
use Rattle.mig_relay.specs.declared.answer.RelayAnswer.{RelayAnswer}
use Rattle.mig_relay.specs.declared.answer.RelayAnswer.TheVariants.{Refused, ReadFault, WriteFault, Memory}
use Rattle.mig_relay.specs.declared.answer.Step.{Step}
use Rattle.mig_relay.specs.declared.answer.Step.TheVariants.{Done}
use Rattle.mig_relay.specs.declared.state.Coming.{Coming}
use Rattle.mig_relay.specs.declared.state.Coming.TheVariants as comes
use Rattle.mig_relay.specs.declared.state.Relay.{Relay}

-- A relay stands for these bytes: they lead to what comes next; whatever follows them, an input is judged as that is judged
-- from there on; and it has counted them.
pub record StandsForBytes (r : Relay) (bytes : List ℕ) : Type 0 where
  pub here : Spot
  pub begun : List ℕ
  pub keeps : Keeps r here begun
  pub leads : LeadsTo bytes here begun
  pub same : (more : List ℕ) → open_stream_at (bytes ++ more) ≡ spot here (begun ++ more)
  pub count : r.passed ≡ min (length bytes) (2 ^ 64 - 1)

-- a relay that has answered Done or an error
abbrev pub is_past : Coming → Bool
is_past comes.Over = true
is_past _ = false

abbrev pub is_over : Relay → Bool
is_over r = is_past r.coming

-- nothing is left to pass on: the next step answers Done
abbrev pub is_at_end : Coming → Bool
is_at_end comes.End = true
is_at_end _ = false

-- nothing was taken yet
abbrev pub is_at_start : Coming → Bool
is_at_start comes.Start = true
is_at_start _ = false

-- the input isn't refused
abbrev pub IsNotRefused : Result Step RelayAnswer → Type 0
IsNotRefused (Ok step) = ⊤
IsNotRefused (Err (Refused place cause)) = ⊥
IsNotRefused (Err ReadFault) = ⊤
IsNotRefused (Err WriteFault) = ⊤
IsNotRefused (Err Memory) = ⊤

-- what comes next is a part of a record behind its head
abbrev pub is_within : Coming → Bool
is_within (comes.LibxlBody head) = true
is_within (comes.LibxlPadding head) = true
is_within (comes.Body head) = true
is_within (comes.Front head) = true
is_within (comes.Words head n) = true
is_within (comes.Page head) = true
is_within (comes.Padding head) = true
is_within _ = false

-- a piece was taken and written, and the relay stands for the bytes with it at their end
pub record PassesOn (here : Spot) (begun bytes : List ℕ) (step : Step) (r t : Relay) (old new : Option (List ℕ)) (before now : Option (List ℕ)) : Type 0 where
  pub piece : List ℕ
  pub some : 0 < length piece
  pub taken : Consumes old new piece
  pub written : Appends before now piece
  pub stands : StandsForBytes t (bytes ++ piece)
  pub follows : ComesNext here begun piece stands.here stands.begun
  pub is : IsStep here piece t step

-- the open refusal of these bytes and those that are left
abbrev pub IsRefusedBehind : List ℕ → Option (List ℕ) → Option (List ℕ) → Place → Cause → Type 0
IsRefusedBehind bytes None new place cause = ⊤
IsRefusedBehind bytes (Some left) new place cause = (rest : List ℕ) × (open_stream_at (bytes ++ left) ≡ Faulty (place, cause) rest) × (new ≡ Some rest)

-- some first bytes of what was taken were written, none of a part that is judged first, and no stream is whole in them;
-- and the place of the part is this one
abbrev pub WritesSomeBehind : Spot → List ℕ → List ℕ → Option (List ℕ) → Option (List ℕ) → Option (List ℕ) → Option (List ℕ) → Place → Type 0
WritesSomeBehind here begun bytes old new before now place = (wrote : List ℕ) × WritesFront here begun old new before now wrote × (is_judged_first here ≡ true → wrote ≡ []) × IsUnfinished (open_stream_at (bytes ++ wrote)) × (place_of_spot here ≡ Some place)

-- it stopped in a part, before that was written whole
abbrev pub StopsInside : Spot → List ℕ → List ℕ → Option (List ℕ) → Option (List ℕ) → Option (List ℕ) → Option (List ℕ) → Type 0
StopsInside here begun bytes old new before now = (wrote : List ℕ) × WritesFront here begun old new before now wrote × EndsInside (open_stream_at (bytes ++ wrote))

-- What a step does, for bytes that the relay stands for. The last of them were begun of the part that comes next.
-- Done: the bytes are passable.
-- Another value: a piece more was passed on.
-- An error: the bytes with those left are refused; or the source, the sink or memory failed inside the part.
abbrev pub StepSays : Spot → List ℕ → List ℕ → Relay → Relay → Option (List ℕ) → Option (List ℕ) → Option (List ℕ) → Option (List ℕ) → Result Step RelayAnswer → Type 0
StepSays here begun bytes r t old new before now (Ok Done) = (s : StreamOf) × IsPassable bytes s × Stays old new × Stays before now × HasRecords r.seen.records s
StepSays here begun bytes r t old new before now (Ok step) = PassesOn here begun bytes step r t old new before now
StepSays here begun bytes r t old new before now (Err (Refused place cause)) = IsRefusedBehind bytes old new place cause × WritesSomeBehind here begun bytes old new before now place
StepSays here begun bytes r t old new before now (Err ReadFault) = StopsInside here begun bytes old new before now
StepSays here begun bytes r t old new before now (Err WriteFault) = StopsInside here begun bytes old new before now
StepSays here begun bytes r t old new before now (Err Memory) = StopsInside here begun bytes old new before now

-- whether a step's answer leaves a relay that goes on
abbrev pub goes_on : Result Step RelayAnswer → Bool
goes_on (Ok Done) = false
goes_on (Ok step) = true
goes_on (Err answer) = false

-- a relay behind a step: it is over, where the step doesn't leave one that goes on
abbrev pub behind_step : Result Step RelayAnswer → Relay → Relay
behind_step result r = if goes_on result then r else record r { coming = comes.Over }
