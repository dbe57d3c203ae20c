-- What a step does.
use Rattle.std.specs.Prelude.{◌≡◌, ◌<◌, ◌≤◌, ◌+◌, ◌-◌, ◌*◌, ◌^◌, ◌==◌, ℕ, true, false, Bool, List, [], ◌++◌, length, min, Option, Some, None, Result, Ok, Err, ⊤}
use Rattle.std.specs.Io.KnownBytes.{Consumes, Appends, Keeps as Stays}
use Rattle.mig_relay.specs.Common.{Rose, be32, be64, le32, Passes, Faulty, libxl_ident, kind_of_number, Cause, Truncated, Place, StreamOf, head_in, Stop}
use Rattle.mig_bytes.specs.Judged.{Judged as Verdict}
use Rattle.mig_bytes.specs.declared.stop.Stop.TheVariants as stops
use Rattle.mig_records.specs.Words.{words as words_in}
use Rattle.mig_relay.specs.Following.{ComesNext, place_of_spot}
use Rattle.mig_relay.specs.Keeping.{Keeps, HasRecords, words_in_hand}
use Rattle.mig_relay.specs.Parts.{AtMarker, AtVersion, AtKind, AtHead, AtBody, AtFront, AtWords, AtPages, AtPadding}
use Rattle.mig_relay.specs.Spots.{Spot, AtStart, AtLibxlHeader, AtLibxlHead, AtLibxlBody, AtLibxlPadding, InImage, spot, held, most_of_part}
use Rattle.mig_relay.specs.declared.answer.RelayAnswer.{RelayAnswer}
use Rattle.mig_relay.specs.declared.answer.RelayAnswer.TheVariants.{Refused, ReadFault, WriteFault, Memory}
use Rattle.mig_relay.specs.declared.answer.Step.{Step}
use Rattle.mig_relay.specs.declared.answer.Step.TheVariants.{Marker, Version, Kind, Head, Words, Piece, Done}
use Rattle.mig_relay.specs.declared.state.Relay.{Relay}

-- the answer for what stopped the reading of a part
abbrev pub answer_of : Place → Stop Cause → RelayAnswer
answer_of place (stops.Refused cause) = Refused place cause
answer_of place stops.ReadFault = ReadFault
answer_of place stops.Memory = Memory

-- A read fault is answered only where the count of the source rose, a write fault only where that of the sink rose, and
-- every other answer only where both stand as they were.
abbrev pub RisesOnFault : {X : Type 0} → ℕ → ℕ → ℕ → ℕ → Result X RelayAnswer → Type 0
RisesOnFault reads read writes written (Ok x) = (read ≡ reads) × (written ≡ writes)
RisesOnFault reads read writes written (Err (Refused place cause)) = (read ≡ reads) × (written ≡ writes)
RisesOnFault reads read writes written (Err ReadFault) = (reads ≤ read) × Rose reads read × (written ≡ writes)
RisesOnFault reads read writes written (Err WriteFault) = (read ≡ reads) × (writes ≤ written) × Rose writes written
RisesOnFault reads read writes written (Err Memory) = (read ≡ reads) × (written ≡ writes)

-- a count of bytes with so many more, in 64 bits; it stands still at their end
abbrev pub counted : ℕ → ℕ → ℕ
counted n more = min (n + more) (2 ^ 64 - 1)

-- ---- which part a step passed on

-- a piece of a body, padding, or what has no value of its own
abbrev pub is_piece : Spot → Bool
is_piece AtLibxlHeader = true
is_piece (AtLibxlBody records head) = true
is_piece (AtLibxlPadding records head content) = true
is_piece (InImage outer (AtBody o records head)) = true
is_piece (InImage outer (AtFront o records head)) = true
is_piece (InImage outer (AtPages o records head coming stood)) = true
is_piece (InImage outer (AtPadding o records head content)) = true
is_piece _ = false

-- the value of a step that passed on these bytes of what came next; and which words the relay has in hand behind it
abbrev pub IsStep : Spot → List ℕ → Relay → Step → Type 0
IsStep AtStart piece t (Marker wrapped) = wrapped ≡ (be64 piece 0 == libxl_ident)
IsStep (InImage outer AtMarker) piece t (Marker wrapped) = wrapped ≡ false
IsStep (InImage outer AtVersion) piece t (Version version) = version ≡ be32 piece 4
IsStep (InImage outer (AtKind version)) piece t (Kind kind) = kind ≡ kind_of_number (le32 piece 0)
IsStep (InImage outer (AtHead o records)) piece t (Head wrapped head) = (wrapped ≡ false) × (head ≡ head_in piece) × (words_in_hand t ≡ [])
IsStep (AtLibxlHead records) piece t (Head wrapped head) = (wrapped ≡ true) × (head ≡ head_in piece) × (words_in_hand t ≡ [])
IsStep (InImage outer (AtWords o records head n)) piece t Words = (words_in_hand t ≡ words_in n piece) × (length piece ≡ 8 * n)
IsStep here piece t Piece = (is_piece here ≡ true) × (length piece ≤ 4096)
IsStep here piece t step = ⊥

-- ---- what it does, where this comes next and these first bytes of it were taken

-- of the bytes so far a part isn't whole, and no cause stands in them
abbrev pub EndsInside : Verdict (Place × Cause) StreamOf → Type 0
EndsInside judged = (place : Place) × (judged ≡ Faulty (place, Truncated) [])

-- where any last bytes of the piece are missing, a part isn't whole, and no cause stands in what is there
abbrev pub FrontsAreCut : Spot → List ℕ → List ℕ → Type 0
FrontsAreCut here begun piece = (front more : List ℕ) → piece ≡ front ++ more → 0 < length more → EndsInside (spot here (begun ++ front))

-- a piece with no value of its own leaves the words in hand
abbrev pub KeepsWordsInHand : Relay → Relay → Step → Type 0
KeepsWordsInHand r t step = step ≡ Piece → words_in_hand t ≡ words_in_hand r

-- Behind a head no words are in hand, and behind words these; whatever else is answered, they are the words of before.
abbrev pub LeavesWords : Result Step RelayAnswer → Relay → Relay → Type 0
LeavesWords (Ok (Head wrapped head)) r t = words_in_hand t ≡ []
LeavesWords (Ok Words) r t = ⊤
LeavesWords result r t = words_in_hand t ≡ words_in_hand r

-- a piece was taken and written, and the relay has it behind it
pub record PassedPiece (here : Spot) (begun : List ℕ) (step : Step) (r t : Relay) (old new : Option (List ℕ)) (before now : Option (List ℕ)) : Type 0 where
  pub piece : List ℕ
  pub next : Spot
  pub front : List ℕ
  pub some : 0 < length piece
  pub taken : Consumes old new piece
  pub written : Appends before now piece
  pub same : (more : List ℕ) → spot here (begun ++ (piece ++ more)) ≡ spot next (front ++ more)
  pub keeps : Keeps t next front
  pub small : length piece ≤ held here
  pub inside : length begun + length piece ≤ most_of_part here
  pub cuts : FrontsAreCut here begun piece
  pub follows : ComesNext here begun piece next front
  pub count : t.passed ≡ counted r.passed (length piece)
  pub is : IsStep here piece t step
  pub words : KeepsWordsInHand r t step

-- Of the bytes that were taken the first were written. They are no more than may be held of the part that comes next. With
-- those begun before they are no more than it has.
pub record WritesFront (here : Spot) (begun : List ℕ) (old new : Option (List ℕ)) (before now : Option (List ℕ)) (wrote : List ℕ) : Type 0 where
  pub others : List ℕ
  pub few : length wrote + length others ≤ held here
  pub inside : length begun + (length wrote + length others) ≤ most_of_part here
  pub taken : Consumes old new (wrote ++ others)
  pub written : Appends before now wrote

-- the bytes so far are no stream
abbrev pub IsUnfinished : Verdict (Place × Cause) StreamOf → Type 0
IsUnfinished judged = (fault : Place × Cause) × (rest : List ℕ) × (judged ≡ Faulty fault rest)

-- all but bodies is written only once it is judged
abbrev pub is_judged_first : Spot → Bool
is_judged_first (AtLibxlBody records head) = false
is_judged_first (InImage outer (AtBody o records head)) = false
is_judged_first _ = true

-- some first bytes of what was taken were written, and none of a part that is judged first; and its place is this one
abbrev pub WritesSome : Spot → List ℕ → Option (List ℕ) → Option (List ℕ) → Option (List ℕ) → Option (List ℕ) → Place → Type 0
WritesSome here begun old new before now place = (wrote : List ℕ) × WritesFront here begun old new before now wrote × (is_judged_first here ≡ true → wrote ≡ []) × IsUnfinished (spot here (begun ++ wrote)) × FrontsAreCut here begun wrote × (place_of_spot here ≡ Some place)

-- the bytes that are left are refused, and all up to the end of the faulty part was taken
abbrev pub Refuses : Spot → List ℕ → Option (List ℕ) → Option (List ℕ) → Place → Cause → Type 0
Refuses here begun None new place cause = ⊤
Refuses here begun (Some left) new place cause = (rest : List ℕ) × (spot here (begun ++ left) ≡ Faulty (place, cause) rest) × (new ≡ Some rest)

-- the relay stopped in a part, before it was written whole
abbrev pub Stops : Spot → List ℕ → Option (List ℕ) → Option (List ℕ) → Option (List ℕ) → Option (List ℕ) → Type 0
Stops here begun old new before now = (wrote : List ℕ) × WritesFront here begun old new before now wrote × EndsInside (spot here (begun ++ wrote)) × FrontsAreCut here begun wrote

abbrev pub MovedBy : Spot → List ℕ → Relay → Relay → Option (List ℕ) → Option (List ℕ) → Option (List ℕ) → Option (List ℕ) → Result Step RelayAnswer → Type 0
MovedBy here begun r t old new before now (Ok Done) = (s : StreamOf) × ((more : List ℕ) → spot here (begun ++ more) ≡ Passes s more) × Stays old new × Stays before now × HasRecords r.seen.records s
MovedBy here begun r t old new before now (Ok step) = PassedPiece here begun step r t old new before now
MovedBy here begun r t old new before now (Err (Refused place cause)) = Refuses here begun old new place cause × WritesSome here begun old new before now place
MovedBy here begun r t old new before now (Err ReadFault) = Stops here begun old new before now
MovedBy here begun r t old new before now (Err WriteFault) = Stops here begun old new before now
MovedBy here begun r t old new before now (Err Memory) = Stops here begun old new before now

pub record StepMoved (here : Spot) (begun : List ℕ) (r t : Relay) (old new : Option (List ℕ)) (before now : Option (List ℕ)) (result : Result Step RelayAnswer) : Type 0 where
  pub is : MovedBy here begun r t old new before now result
