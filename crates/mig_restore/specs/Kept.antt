-- What is kept of the frames that records set: all of them, or less.
use Rattle.std.specs.Prelude.{◌≡◌, ℕ, List, Option, None}
use Rattle.std.specs.FinMap as maps
use Rattle.mig_restore.specs.Common.{Kind, FrameMap, FrameEntry, GuestOf, Content, put_entries, sent, ImageOf, fault_of_guest}
use Rattle.mig_restore_form.specs.Record.Content.{Frames}

-- what an entry makes of frames that are kept
abbrev pub EntryStep : Type 0
EntryStep = Kind → FrameMap → FrameEntry → FrameMap

-- a guest of whose frames this is kept
abbrev pub kept_guest : (FrameMap → FrameMap) → GuestOf → GuestOf
kept_guest kept g = record { kind = g.kind; top = g.top; frames = kept g.frames; parts = g.parts }

-- no guest of which this is kept has a fault at END
abbrev pub IsOfFaultless : (FrameMap → FrameMap) → GuestOf → Type 0
IsOfFaultless kept h = (g : GuestOf) → h ≡ kept_guest kept g → fault_of_guest g ≡ None

-- ---- what is noted of the frames of an input, where so much of it is left

-- a value that notes frames goes on: of those that were noted before, what this makes of them is noted then
abbrev pub NotesOn : {K : Type 0} → (K → List ℕ → Option (List ℕ) → FrameMap → Type 0) → K → K → Option (List ℕ) → Option (List ℕ) → (FrameMap → FrameMap) → Type 0
NotesOn notes old new before after makes = (all : List ℕ) (frames : FrameMap) → notes old all before frames → notes new all after (makes frames)

-- where no frames were noted before an image, those that its records send are noted behind it
abbrev pub NotesImage : {K : Type 0} → (K → List ℕ → Option (List ℕ) → FrameMap → Type 0) → K → K → Option (List ℕ) → Option (List ℕ) → ImageOf → Type 0
NotesImage notes old new before after image = (all : List ℕ) → notes old all before maps.empty → notes new all after (sent image.opening.kind image.records).frames

-- what a content makes of frames
abbrev pub put_frames : Kind → Content → FrameMap → FrameMap
put_frames kind (Frames es) frames = put_entries kind frames es
put_frames kind _ frames = frames
