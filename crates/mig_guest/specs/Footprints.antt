-- What of a frame must be logged where it changes while the guest runs, and which parts of a host never change.
use Rattle.std.specs.Prelude.{ℕ, List, Option, Some, None, option_and_then}
use Rattle.mig_guest.specs.Common.{option_map, PageType, level_of}
use Rattle.std.specs.FinMap as maps
use Rattle.mig_guest.specs.declared.table.Entry.{Entry}
use Rattle.mig_guest.specs.declared.table.Entry.TheVariants.{Blank, NotPresent, Superpage, Frame}
use Rattle.mig_guest.specs.Hosts.{HostFrame, HostFrames, pfn_in}
use Rattle.mig_guest.specs.Longs.{long_at}
use Rattle.mig_guest.specs.Tables.{entry, named_frame}

-- the machine frame that a present entry outside the blank slots names, where e is the number in its slot; a superpage
-- names its first one
abbrev pub named_by : Entry → ℕ → Option ℕ
named_by Blank e = None
named_by NotPresent e = None
named_by Superpage e = Some (named_frame e)
named_by (Frame mfn) e = Some mfn

-- the machine frame that this slot of a table names
abbrev pub machine_named : ℕ → List ℕ → ℕ → Option ℕ
machine_named level page slot = named_by (entry level page slot) (long_at page slot)

-- a table's level and its page
abbrev pub table_in : Option ℕ → Option (List ℕ) → Option (ℕ × List ℕ)
table_in None page = None
table_in (Some level) page = option_map (λ raw. (level, raw)) page

-- of each slot the PFN that has the machine frame which it names
abbrev pub names_in : HostFrames → Option (ℕ × List ℕ) → ℕ → Option ℕ
names_in frames None slot = None
names_in frames (Some t) slot = option_and_then (pfn_in frames) (machine_named t.0 t.1 slot)

-- a frame's type, its raw page, and the PFNs that its slots name
pub record Footprint : Type 0 where
  pub type : PageType
  pub page : Option (List ℕ)
  pub names : ℕ → Option ℕ

abbrev pub footprint_of : HostFrames → HostFrame → Footprint
footprint_of frames frame = record { type = frame.type; page = frame.page; names = names_in frames (table_in (level_of frame.type) frame.page) }

-- none where the PFN has no frame; its own machine frame isn't in it
abbrev pub footprint : HostFrames → ℕ → Option Footprint
footprint frames p = option_map (footprint_of frames) (maps.get frames p)
