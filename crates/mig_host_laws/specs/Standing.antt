-- How a guest stands: in a stream, in a machine, or before a saver that looks names up one at a time.
use Rattle.std.specs.Prelude.{ℕ, Bool, true, false, List, Option, Some, None, option_and_then}
use Rattle.mig_host_laws.specs.Common.{option_map, Unsound, PageType, Entry, NotPresent, GuestOf, HostOf, pfn_in, PartMap, entry, type_at, Usage, is_used, is_used_somewhere, guest_in}
use Rattle.std.specs.FinMap as maps
use Rattle.mig_headers.specs.declared.kind.Kind.{Kind}
use Rattle.mig_headers.specs.declared.unsound.Unsound.TheVariants.{P2mFrame, VcpuFrame}
use Rattle.mig_pagetypes.specs.PageTypes.{level_of}
use Rattle.mig_guest.specs.Frames.{FrameOf, FrameMap}

-- what is asked of a guest, wherever it stands: no map of frames, so that names and types may come one at a time
pub record Standing : Type 0 where
  pub kind : Kind
  -- the PFN of the frame that a number in an entry or a field names
  pub names : ℕ → Option ℕ
  -- which fields count
  pub used : Usage
  -- the type of a PFN's frame, where it has one
  pub types : ℕ → Option PageType
  -- what a slot of a PFN's table says; a frame that is no table says nothing
  pub says : ℕ → ℕ → Entry
  pub parts : PartMap

-- the type of the frame that a number names
abbrev pub type_named : Standing → ℕ → Option PageType
type_named s n = option_and_then s.types (s.names n)

-- ---- those that stand

-- what a slot of a page says, where that is a table of some level
abbrev pub said_in : Option ℕ → Option (List ℕ) → ℕ → Entry
said_in (Some level) (Some page) slot = entry level page slot
said_in (Some level) None slot = NotPresent
said_in None page slot = NotPresent

-- what a slot of a frame says
abbrev pub said_of : Option FrameOf → ℕ → Entry
said_of None slot = NotPresent
said_of (Some frame) slot = said_in (level_of frame.type) frame.page slot

-- what a slot of a PFN's frame says
abbrev pub says_in : FrameMap → ℕ → ℕ → Entry
says_in frames pfn slot = said_of (maps.get frames pfn) slot

-- a number that names the frame of this number
abbrev pub itself_in : FrameMap → ℕ → Option ℕ
itself_in frames n = option_map (λ _. n) (maps.get frames n)

-- a guest in a stream, whose entries and fields name PFNs
abbrev pub in_stream : GuestOf → Standing
in_stream g = record { kind = g.kind; names = itself_in g.frames; used = is_used; types = type_at g.frames; says = says_in g.frames; parts = g.parts }

-- frames and parts in a machine, where pfn_of gives the PFN of a machine frame
abbrev pub in_machine : Kind → FrameMap → PartMap → (ℕ → Option ℕ) → Standing
in_machine kind frames parts pfn_of = record { kind = kind; names = pfn_of; used = is_used_somewhere; types = type_at frames; says = says_in frames; parts = parts }

-- a host, whose entries and fields name machine frames
abbrev pub in_host : HostOf → Standing
in_host h = in_machine h.kind (guest_in h).frames h.parts (pfn_in h.frames)

-- ---- a saver

-- a host as a saver has it at the pause: parts and names are the host's, types are those that it saw last
abbrev pub before_saver : HostOf → (ℕ → Option PageType) → Standing
before_saver h seen = record (in_host h) { types = seen }

-- the rows that don't speak of types
abbrev pub is_of_no_type : Unsound → Bool
is_of_no_type (P2mFrame k) = false
is_of_no_type (VcpuFrame id field) = false
is_of_no_type _ = true
