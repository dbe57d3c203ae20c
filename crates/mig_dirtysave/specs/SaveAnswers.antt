-- What a save has written, and what it answers.
use Rattle.std.specs.Prelude.{◌≡◌, ◌⊎◌, ℕ, ◌≤◌, true, List, [], ◌∷◌, ◌++◌, length, map, Option, None, Some, Result, Ok, Err}
use Rattle.mig_dirtysave.specs.Common.{AllByRecursion, Appends, Hvm, Unsound, HostOf, Record, text_of, headers, FrameTold, telling_record, all_told, AreRecordsWithin, unsoundness, view, is_of_no_type, UnsoundHas, wrapper_opening, wrapper_closing, AcceptedStream, IsOtherRecord, History, MachineState, AreTold, TellMost, pfns_sent, HasRounds, KeepsShape, ReadsExactly, entries_read}
use Rattle.mig_guest.specs.Rounds.{all_read}
use Rattle.mig_records_pages.specs.PageData.{most_entries}
use Rattle.mig_dirtysave.specs.Unread.{WroteNoStream}
use Rattle.mig_dirtysave.specs.declared.answer.SaveAnswer.{SaveAnswer}
use Rattle.mig_dirtysave.specs.declared.answer.SaveReport.{SaveReport}
use Rattle.mig_dirtysave.specs.declared.answer.SaveAnswer.TheVariants as answers
use Rattle.mig_dirtysave_rounds.specs.declared.found.SendFault.{SendFault}
use Rattle.mig_dirtysave_rounds.specs.declared.found.SendFault.TheVariants as faults

-- what is answered as wrong with the host, where the answer says so
abbrev pub IfUnsound : {X : Type 0} → Result X SaveAnswer → (Unsound → Type 0) → Type 0
IfUnsound (Ok x) P = Unit {0}
IfUnsound (Err (answers.Unsound u)) P = P u
IfUnsound (Err answers.MachineFault) P = Unit {0}
IfUnsound (Err answers.WriteFault) P = Unit {0}

-- what a save answers where its rounds failed
abbrev pub answer_to : SendFault → SaveAnswer
answer_to faults.MachineFault = answers.MachineFault
answer_to faults.WriteFault = answers.WriteFault

-- the types that a saver saw last are those of the host's frames: the machine is honest, or no type is asked of an HVM host
abbrev pub IsTrusted : MachineState → Type 0
IsTrusted t = (t.honest ≡ true) ⊎ (t.host.kind ≡ Hvm)

-- From old to new a stream was written: headers, PAGE_DATA records between others, and END, inside a libxl stream with the
-- emulators behind the image where the host has parts of some. A reader may take each record, and each entry is one that a
-- stream of the host's kind can have: they name what was read of the machine, in that order. Over an honest machine the
-- stream is accepted, whatever follows it, and its guest is what the machine's host is seen as.
pub record SaveWritten (old new : Option (List ℕ)) (t : MachineState) : Type 0 where
  pub before : List Record
  pub batches : List (List FrameTold)
  pub behind : List Record
  pub text : List ℕ
  pub image : List ℕ
  pub image_is : image ≡ headers t.host.kind ++ text_of (before ++ (map telling_record batches ++ (behind ++ (0, []) ∷ [])))
  pub is : text ≡ wrapper_opening t.host.parts ++ (image ++ wrapper_closing t.host.parts)
  pub appended : Appends old new text
  pub others : AllByRecursion IsOtherRecord (before ++ behind)
  pub within : AreRecordsWithin (before ++ (map telling_record batches ++ behind))
  pub told : AreTold t.host.kind t.host.width (all_told batches)
  pub order : pfns_sent (all_told batches) ≡ all_read t.host.width t.history
  pub means : t.honest ≡ true → (rest : List ℕ) → AcceptedStream (text ++ rest) (view t.host) rest

-- What was written from old to new of this host, behind what is before the image, begins with headers and whole records
-- that a reader may take. These are some that aren't PAGE_DATA, and behind them the batches with most of what was read.
pub record WroteMost (old new : Option (List ℕ)) (h : HostOf) (k : History) : Type 0 where
  pub before : List Record
  pub batches : List (List FrameTold)
  pub rest : List ℕ
  pub others : AllByRecursion IsOtherRecord before
  pub within : AreRecordsWithin (before ++ map telling_record batches)
  pub appended : Appends old new (wrapper_opening h.parts ++ (headers h.kind ++ (text_of (before ++ map telling_record batches) ++ rest)))
  pub most : TellMost h.kind h.width k batches

-- at most 1024 of the frame numbers that were read stand in no record that was written from old to new
abbrev pub IsLittleBehind : Option (List ℕ) → Option (List ℕ) → HostOf → History → Type 0
IsLittleBehind old new h k = (entries_read h.width k ≤ most_entries) ⊎ WroteMost old new h k

-- ---- how a save ends

-- The machine is paused, behind rounds that are those of the definition. It is still the one that was asked first: what
-- never changes of a host, and honesty, are as they were.
pub record PausesMachine (s t : MachineState) : Type 0 where
  pub paused : t.paused ≡ true
  pub rounds : HasRounds t
  pub kept : KeepsShape s t

-- No front of what was written is an accepted stream, and at most 1024 of the frame numbers that were read stand in no whole
-- record.
pub record LeavesNoStream (s t : MachineState) (old new : Option (List ℕ)) : Type 0 where
  pub no_stream : WroteNoStream old new
  pub behind : IsLittleBehind old new s.host t.history

-- With `Ok` the stream of the paused host was written. Over a machine that is trusted the host can be seen as a guest; over an
-- honest one nothing was read after the pause but what the last two logs name. The report counts the logs that were taken
-- before the pause, and an entry for each frame number that was read.
pub record EndsSaved (s t : MachineState) (old new : Option (List ℕ)) (report : SaveReport) : Type 0 where
  pub pause : PausesMachine s t
  pub exact : ReadsExactly t
  pub sound : IsTrusted t → unsoundness t.host ≡ None
  pub stream : SaveWritten old new t
  pub rounds : report.rounds ≡ t.history.live
  pub entries : report.entries ≡ length (all_read t.host.width t.history)

-- With `Unsound` the paused host can't be seen as a guest. Over a machine that is trusted the cause is the first one in the
-- host; over any machine it stands in the host, unless it speaks of the types of frames.
pub record EndsUnsound (s t : MachineState) (old new : Option (List ℕ)) (unsound : Unsound) : Type 0 where
  pub pause : PausesMachine s t
  pub first : IsTrusted t → unsoundness t.host ≡ Some unsound
  pub stands : is_of_no_type unsound ≡ true → (place : ℕ) × UnsoundHas t.host place unsound
  pub unwritten : LeavesNoStream s t old new

-- How a save ends that takes a machine from s to t and writes from old to new, by its answer.
abbrev pub SaveEnds : MachineState → MachineState → Option (List ℕ) → Option (List ℕ) → Result SaveReport SaveAnswer → Type 0
SaveEnds s t old new (Ok report) = EndsSaved s t old new report
SaveEnds s t old new (Err (answers.Unsound unsound)) = EndsUnsound s t old new unsound
SaveEnds s t old new (Err answers.MachineFault) = LeavesNoStream s t old new
SaveEnds s t old new (Err answers.WriteFault) = LeavesNoStream s t old new
