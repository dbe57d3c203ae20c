-- What a viewer has of a stream, and what it has behind a step of the relay.
use Rattle.std.specs.Prelude.{ℕ, Bool, true, false, ◌||◌, List, length, count_by, Option, Some, None, option_map, Result, Ok, Err}
use Rattle.mig_show.specs.Common.{Cause, Place, word_has_data}
use Rattle.mig_records.specs.declared.head.RecordHead.{RecordHead}
use Rattle.mig_relay.specs.declared.answer.RelayAnswer.{RelayAnswer}
use Rattle.mig_relay.specs.declared.answer.RelayAnswer.TheVariants as answers
use Rattle.mig_relay.specs.declared.answer.Step.{Step}
use Rattle.mig_relay.specs.declared.answer.Step.TheVariants.{Marker, Version, Kind, Head, Words, Piece, Done}
use Rattle.mig_show.specs.Fronts.{ShownFront, with_shown}
use Rattle.mig_show.specs.declared.record.Seen1.{Seen1}
use Rattle.mig_show.specs.declared.viewer.ShowAnswer.{ShowAnswer}
use Rattle.mig_show.specs.declared.viewer.ShowAnswer.TheVariants.{ReadFault, Memory}

-- what is whole, and the record in hand, whose head was passed on
pub record SeenState : Type 0 where
  pub front : ShownFront
  pub hand : Option Seen1

-- what a head says
abbrev pub begun_record : Bool → RecordHead → Seen1
begun_record wrapped head = record { wrapped = wrapped; kind = head.kind; len = head.len; words = 0; pages = 0 }

-- and these words
abbrev pub counted_record : List ℕ → Seen1 → Seen1
counted_record ws shown = record shown { words = length ws; pages = count_by word_has_data ws }

abbrev pub with_step : SeenState → Step → List ℕ → SeenState
with_step seen (Marker wrapped) ws = record seen { front = record seen.front { wrapper = seen.front.wrapper || wrapped } }
with_step seen (Version version) ws = record seen { front = record seen.front { version = Some version } }
with_step seen (Kind kind) ws = record seen { front = record seen.front { kind = Some kind } }
with_step seen (Head wrapped head) ws = record seen { hand = Some (begun_record wrapped head) }
with_step seen Words ws = record seen { hand = option_map (counted_record ws) seen.hand }
with_step seen Piece ws = seen
with_step seen Done ws = seen

-- a record whose bytes all came is whole
abbrev pub with_hand : ShownFront → Option Seen1 → ShownFront
with_hand front None = front
with_hand front (Some shown) = with_shown front shown

abbrev pub with_end : Bool → SeenState → SeenState
with_end true seen = seen
with_end false seen = record { front = with_hand seen.front seen.hand; hand = None }

-- what ends a stream before its end: a refusal, which is shown, or what failed; a viewer writes nothing
abbrev pub ended_by : RelayAnswer → Result (Option (Place × Cause)) ShowAnswer
ended_by (answers.Refused place cause) = Ok (Some (place, cause))
ended_by answers.ReadFault = Err ReadFault
ended_by answers.WriteFault = Err Memory
ended_by answers.Memory = Err Memory
