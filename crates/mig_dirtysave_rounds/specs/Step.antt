-- The step that reads one frame number (PFN), of which the machine may let its guest run on.
use Rattle.std.specs.Prelude.{◌≡◌, ℕ, ◌+◌, ◌*◌, ◌^◌, ◌-◌, ◌<◌, ◌≤◌, min, ◌||◌, ◌⊎◌, List, true, false, Option, Some, None}
use Rattle.byteorder.specs.Endian.{little_bytes}
use Rattle.mig_bytes.specs.Fields.{with_field}
use Rattle.mig_dirtysave_rounds.specs.Common.{Kind, PageType, HostFrames, pfn_in, Entry, Blank, NotPresent, Superpage, Frame, entry, blanked_table, IsWithin, first_superpage, with_frame, renamed_by, with_pfn, Footprint, footprint, names_in, History, one_more, MachineState, Ran}
use Rattle.mig_headers.specs.declared.kind.Kind.TheVariants.{Pv, Hvm}
use Rattle.mig_guest.specs.Longs.{long_at}
use Rattle.mig_dirtysave_rounds.specs.Forms.{lost_in}
use Rattle.mig_dirtysave_rounds.specs.Findings.{Finding, judged, frame_sent, CanBeTold}

-- What was read of a PFN is what it has now: the machine is honest and the PFN isn't in the log, or the machine is paused.
abbrev pub Settled : MachineState → ℕ → Type 0
Settled t p = ((t.honest ≡ true) × (t.log p ≡ false)) ⊎ (t.paused ≡ true)

-- from s to t at most n machine frames were looked up, and nothing else was asked
pub record Looks (n : ℕ) (s t : MachineState) : Type 0 where
  pub ran : Ran s t t.log
  pub paused : t.paused ≡ s.paused
  pub taken : t.history.taken ≡ s.history.taken
  pub live : t.history.live ≡ s.history.live
  pub read : t.history.since.read ≡ s.history.since.read
  pub twice : t.history.since.twice ≡ s.history.since.twice
  pub least : min s.history.since.calls (2 ^ 64 - 1) ≤ t.history.since.calls
  pub most : t.history.since.calls ≤ s.history.since.calls + n

-- ---- a table

-- the footprint of a table of this type and level with this raw page
abbrev pub raw_print : HostFrames → PageType → ℕ → List ℕ → Footprint
raw_print frames kind level raw = record { type = kind; page = Some raw; names = names_in frames (Some (level, raw)) }

-- a page in which the entry of a slot has its form in a stream, where `name` is the PFN that has its machine frame
abbrev pub put_slot : List ℕ → ℕ → Entry → Option ℕ → List ℕ
put_slot page slot Blank name = with_field page (8 * slot) (little_bytes 8 0)
put_slot page slot NotPresent name = page
put_slot page slot Superpage name = page
put_slot page slot (Frame mfn) None = page
put_slot page slot (Frame mfn) (Some pfn) = with_field page (8 * slot) (little_bytes 8 (with_frame (long_at page slot) pfn))

-- where the entry of a slot names a machine frame, the PFN that has it is below the width
abbrev pub NameIsInside : MachineState → ℕ → List ℕ → ℕ → Type 0
NameIsInside t level page slot = (mfn pfn : ℕ) → entry level page slot ≡ Frame mfn → pfn_in t.host.frames mfn ≡ Some pfn → pfn < t.host.width

-- where the PFN is settled, it has a table of this type with this raw page
pub record IsRaw (t : MachineState) (p : ℕ) (kind : PageType) (level : ℕ) (raw : List ℕ) : Type 0 where
  pub print : Settled t p → footprint t.host.frames p ≡ Some (raw_print t.host.frames kind level raw)

-- Where the PFN is settled, `lost` is the first slot whose machine frame has no PFN, and without one the page has the form
-- that the raw page has in a stream. Settled or not, without one, and without a superpage in the raw page, each slot of the
-- page names a PFN below the width, or none.
pub record IsRenamed (t : MachineState) (p level : ℕ) (raw page : List ℕ) (lost : Option ℕ) : Type 0 where
  pub first : Settled t p → lost ≡ lost_in (Some (level, raw)) (names_in t.host.frames (Some (level, raw)))
  pub whole : Settled t p → lost ≡ None → page ≡ renamed_by (names_in t.host.frames (Some (level, raw))) level (blanked_table level raw)
  pub within : first_superpage level raw ≡ None → lost ≡ None → (slot : ℕ) → slot < 512 → IsWithin (t.host.width - 1) (entry level page slot)

-- ---- the step

-- where the PFN is settled, what was found is what its footprint says now
abbrev pub IsRight : MachineState → ℕ → Finding → Type 0
IsRight t p found = Settled t p → found ≡ judged (footprint t.host.frames p)

-- the most calls that one PFN takes: a table has 512 entries to look up, and an HVM guest has no tables
abbrev pub most_calls : Kind → ℕ
most_calls Pv = 513
most_calls Hvm = 1

-- what the reading of one PFN adds to a history
pub record Asks (kind : Kind) (p : ℕ) (h k : History) : Type 0 where
  pub taken : k.taken ≡ h.taken
  pub live : k.live ≡ h.live
  pub read : k.since.read ≡ with_pfn p h.since.read
  pub twice : k.since.twice ≡ (h.since.twice || h.since.read p)
  pub least : one_more h.since.calls ≤ k.since.calls
  pub most : k.since.calls ≤ h.since.calls + most_calls kind

-- what it adds at most, also where it failed: the PFN was read, or nothing was
pub record Strays (p : ℕ) (h k : History) : Type 0 where
  pub taken : k.taken ≡ h.taken
  pub read : (k.since.read ≡ h.since.read) ⊎ (k.since.read ≡ with_pfn p h.since.read)

-- One PFN was read from s to t. The guest may have run between its calls. Where the PFN is settled at t, its page and
-- the PFNs that were looked up at different moments belong to one footprint, and that is the footprint now.
pub record ReadsOne (p : ℕ) (s t : MachineState) (found : Finding) : Type 0 where
  pub ran : Ran s t t.log
  pub paused : t.paused ≡ s.paused
  pub asks : Asks s.host.kind p s.history t.history
  pub right : IsRight t p found
  pub told : CanBeTold s.host.kind s.host.width (frame_sent found)
