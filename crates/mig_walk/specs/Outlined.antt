-- A guest of which its outline is kept, and where in a file the pages of its frames stand.
use Rattle.std.specs.Prelude.{◌≡◌, ℕ, List, Option, option_and_then}
use Rattle.std.specs.FinMap as maps
use Rattle.std.specs.Option.{option_map}
use Rattle.mig_guest.specs.Frames.{FrameMap}
use Rattle.mig_guest.specs.Guests.{GuestOf}
use Rattle.mig_pagestore.specs.FrameView.{cell_type}
use Rattle.mig_pagestore_index.specs.Indexed.{ValueMap}
use Rattle.mig_pagetypes.specs.declared.page_type.PageType.{PageType}
use Rattle.mig_pvtables.specs.VcpuContexts.{is_used}
use Rattle.mig_walk.specs.Common.{level_of, Standing, in_stream, said_in}

-- the type that the cell of a PFN says
abbrev pub type_of_cell : ValueMap → ℕ → Option PageType
type_of_cell cells pfn = option_map cell_type (maps.get cells pfn)

-- the page that an outline has of a frame
abbrev pub page_outlined : FrameMap → ℕ → Option (List ℕ)
page_outlined frames pfn = option_and_then (λ f. f.page) (maps.get frames pfn)

-- how a guest stands: types are those of the cells, and tables and parts those of the outline
abbrev pub in_outline : GuestOf → ValueMap → Standing
in_outline outline cells = record {
  kind = outline.kind;
  names = λ n. option_map (λ _. n) (type_of_cell cells n);
  used = is_used;
  types = type_of_cell cells;
  says = λ pfn slot. said_in (option_and_then level_of (type_of_cell cells pfn)) (page_outlined outline.frames pfn) slot;
  parts = outline.parts;
}

-- the outline and the cells stand as the guest does in a stream
abbrev pub StandForGuest : GuestOf → ValueMap → GuestOf → Type 0
StandForGuest outline cells g = in_outline outline cells ≡ in_stream g
