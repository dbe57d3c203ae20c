-- Where a save is: while the guest runs, when the rounds are over, and in the end.
use Rattle.std.specs.Prelude.{◌≡◌, ℕ, ◌+◌, ◌*◌, ◌^◌, ◌<◌, ◌≤◌, List, [], length, true, false, Option, Some, None, get_or}
use Rattle.mig_dirtysave_rounds.specs.Common.{option_map, Kind, Unsound, PageType, FrameMap, HostFrame, HostFrames, FrameTold, all_told, BatchesWritten, AreSized, IsSent, Pfns, size, footprint, footprint_of, LogTook, nothing_asked, MachineState, IsSameShape, OfEachLog, GoesOn, AreCalls, Rounds, Tight, to_read, rounds_read, all_read, least_log, most_rounds}
use Rattle.std.specs.FinMap as maps
use Rattle.mig_headers.specs.declared.unsound.Unsound.TheVariants as unsounds
use Rattle.mig_pvtables.specs.Blank.{each_value}
use Rattle.mig_dirtysave_rounds.specs.declared.found.Worst.{Worst}
use Rattle.mig_dirtysave_rounds.specs.Forms.{form_of_print, superpage_slot, lost_slot}
use Rattle.mig_dirtysave_rounds.specs.Parts.{entries_read}
use Rattle.mig_dirtysave_rounds.specs.Entries.{frames_meant, pfns_sent, AreTold, MostSent}
use Rattle.mig_dirtysave_rounds.specs.Current.{Notes, Current}
use Rattle.mig_dirtysave_rounds.specs.Sends.{first_pfn}

-- what of a machine is the same at both times
pub record KeepsShape (s t : MachineState) : Type 0 where
  pub shape : IsSameShape s.host t.host
  pub honest : t.honest ≡ s.honest

-- ---- while the guest runs

-- these logs, which stand the latest first, end rounds, as the words of `Rounds` say one by one
pub record AreRounds (kind : Kind) (width : ℕ) (logs : List LogTook) : Type 0 where
  pub reads : OfEachLog (λ before log. log.asked.read ≡ to_read width before) logs
  pub sizes : OfEachLog (λ before log. GoesOn width before) logs
  pub calls : OfEachLog (λ before log. AreCalls kind (size width log.asked.read) log.asked.calls) logs
  pub once : OfEachLog (λ before log. log.asked.twice ≡ false) logs

-- rounds are over, nothing was asked since, and the next one has to read this set
pub record Live (s : MachineState) (set : Pfns) : Type 0 where
  pub paused : s.paused ≡ false
  pub since : s.history.since ≡ nothing_asked
  pub rounds : AreRounds s.host.kind s.host.width s.history.taken
  pub number : s.history.live ≡ length s.history.taken
  pub unread : set ≡ to_read s.host.width s.history.taken

-- what was sent in them: an entry for each PFN that was read, in that order, and the invariant holds
pub record LiveSent (s : MachineState) (set : Pfns) (sent : List FrameTold) (notes : Notes) : Type 0 where
  pub order : pfns_sent sent ≡ rounds_read s.host.width s.history.taken
  pub told : AreTold s.host.kind s.host.width sent
  pub current : s.honest ≡ true → Current set s.log s.host.frames sent notes

-- so many rounds are over, and no further one comes
pub record Ended (rounds : ℕ) (s : MachineState) (set : Pfns) : Type 0 where
  pub live : Live s set
  pub number : rounds ≡ length s.history.taken
  pub some : 0 < rounds
  pub most : rounds ≤ most_rounds
  pub few : rounds < most_rounds → size s.host.width set < least_log

-- from s, before the first round, to t so many rounds were sent
abbrev pub SendsRounds : ℕ → MachineState → MachineState → Pfns → Pfns → Option (List ℕ) → Option (List ℕ) → Notes → Notes → Type 0
SendsRounds rounds s t set next old new notes later = (start : Option (List ℕ)) (before : List FrameTold) → IsSent start old 0 [] before → LiveSent s set before notes
    → (after : List FrameTold) × IsSent start new rounds [] after × LiveSent t next after later

-- where what was sent at s was all that was read before, most of what was read at t stands in whole records
abbrev pub RoundsLeaveBehind : ℕ → MachineState → MachineState → Pfns → Option (List ℕ) → Option (List ℕ) → Notes → Type 0
RoundsLeaveBehind flushes s t set old new notes = (start : Option (List ℕ)) (before : List FrameTold) → IsSent start old flushes [] before → LiveSent s set before notes
    → MostSent start new s.host.kind s.host.width t.history

-- ---- the end

-- the frames of a host as a stream has them
abbrev pub forms : HostFrames → FrameMap
forms frames = each_value (λ _ (f : HostFrame). form_of_print (footprint_of frames f)) frames

-- the type of the frame at a PFN
abbrev pub type_in : HostFrames → ℕ → Option PageType
type_in frames p = option_map (λ (f : HostFrame). f.type) (maps.get frames p)

-- a superpage comes before an entry whose machine frame has no PFN
abbrev pub table_fault : Option (ℕ × ℕ) → Option (ℕ × ℕ) → Option Unsound
table_fault (Some at) lost = Some (unsounds.Superpage at.0 at.1)
table_fault None (Some at) = Some (unsounds.NoFrame at.0 at.1)
table_fault None None = None

abbrev pub worst_fault : Worst → Option Unsound
worst_fault worst = table_fault worst.superpage worst.lost

-- the first thing that is wrong with the tables of a host of this width
abbrev pub tables_unsound : HostFrames → ℕ → Option Unsound
tables_unsound frames width = table_fault (first_pfn (λ q. superpage_slot (footprint frames q)) width) (first_pfn (λ q. lost_slot (footprint frames q)) width)

-- it is wrong at this place
abbrev pub IsUnsound : HostFrames → Unsound → Type 0
IsUnsound frames (unsounds.Superpage p slot) = superpage_slot (footprint frames p) ≡ Some slot
IsUnsound frames (unsounds.NoFrame p slot) = lost_slot (footprint frames p) ≡ Some slot
IsUnsound frames _ = ⊥

-- over an honest machine this is the first thing that is wrong with its tables, or nothing is
abbrev pub AnswersTables : MachineState → Option Unsound → Type 0
AnswersTables t answer = t.honest ≡ true → tables_unsound t.host.frames t.host.width ≡ answer

abbrev pub HasRounds : MachineState → Type 0
HasRounds t = Rounds t.host.kind t.host.width t.history

-- over an honest machine nothing was read after the pause but what the last two logs name
abbrev pub ReadsExactly : MachineState → Type 0
ReadsExactly t = t.honest ≡ true → Tight t.host.kind t.host.width t.history

-- the machine is paused, and the history is one of so many rounds
pub record Saved (rounds : ℕ) (t : MachineState) : Type 0 where
  pub paused : t.paused ≡ true
  pub number : rounds ≡ t.history.live
  pub are : HasRounds t

-- what was sent in all: an entry for each PFN that was read, in that order. Over an honest machine the worst that was
-- found is the first thing that is wrong with the tables, and the types that were seen last are the types of the
-- frames. Where nothing is wrong, nothing was read after the pause but what the logs name, and the entries mean the
-- frames.
pub record SavedSent (t : MachineState) (sent : List FrameTold) (worst : Worst) (notes : Notes) : Type 0 where
  pub order : pfns_sent sent ≡ all_read t.host.width t.history
  pub told : AreTold t.host.kind t.host.width sent
  pub first : t.honest ≡ true → worst_fault worst ≡ tables_unsound t.host.frames t.host.width
  pub types : t.honest ≡ true → (p : ℕ) → notes.types p ≡ type_in t.host.frames p
  pub tight : t.honest ≡ true → worst_fault worst ≡ None → Tight t.host.kind t.host.width t.history
  pub means : t.honest ≡ true → worst_fault worst ≡ None → frames_meant sent ≡ forms t.host.frames

-- from s, behind so many rounds, to t the last entries were sent
abbrev pub SendsLast : ℕ → MachineState → MachineState → Pfns → Option (List ℕ) → Option (List ℕ) → Notes → Notes → Worst → Type 0
SendsLast rounds s t set old new notes later worst = (start : Option (List ℕ)) (before : List FrameTold) → IsSent start old rounds [] before → LiveSent s set before notes
    → (after : List FrameTold) × IsSent start new (rounds + 1) [] after × SavedSent t after worst later

-- Batches were written that name all that was read, in that order. Over an honest machine where nothing is wrong with the
-- tables they mean the frames of its host.
pub record FramesSaved (old new : Option (List ℕ)) (t : MachineState) (unsound : Option Unsound) : Type 0 where
  pub batches : List (List FrameTold)
  pub written : BatchesWritten old new batches
  pub sized : AreSized batches
  pub few : length batches ≤ 6 * 2 ^ 18 + 6
  pub count : length (all_told batches) ≡ entries_read t.host.width t.history
  pub order : pfns_sent (all_told batches) ≡ all_read t.host.width t.history
  pub told : AreTold t.host.kind t.host.width (all_told batches)
  pub means : t.honest ≡ true → unsound ≡ None → frames_meant (all_told batches) ≡ forms t.host.frames

-- over an honest machine each type that was kept in mind is the type of the frame
abbrev pub SawTypes : List (Option PageType) → MachineState → Type 0
SawTypes types t = t.honest ≡ true → (p : ℕ) → get_or types p None ≡ type_in t.host.frames p
