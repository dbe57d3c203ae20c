-- Whether a host can be seen as a guest, and what is in the way: each cause at its least place.
use Rattle.std.specs.Prelude.{◌≡◌, ◌≤◌, ℕ, ⊤, Bool, true, List, [], ◌∷◌, Option, Some, None, Result, Ok, Err, IsSome, is_none, ◌==◌, ◌&&◌, nat_lt, option_and_then, if◌then◌else◌}
use Rattle.mig_host_view.specs.Common.{option_map, scan, ContextFault, Kind, Missing, P2mFrame, Superpage, NoFrame, GdtEnts, VcpuFrame, BadContext, PartKey, gdt_ents, FrameOf, FrameMap, GuestOf, HostOf, pfn_in, PartMap, context_key, EachEntry, is_unknown, NamesKnown, first_some, first_cause, type_at, fits_field, find_p2m, find_entry, find_in_contexts, misses, is_superpage, field_value, is_used_somewhere, frame_of_field}
use Rattle.std.specs.FinMap as maps
use Rattle.mig_headers.specs.declared.unsound.Unsound.{Unsound}
use Rattle.mig_pagetypes.specs.declared.page_type.PageType.{PageType}
use Rattle.mig_guest.specs.Limits.{most_gdt_entries}
pub use Rattle.mig_pvtables.specs.Faults.{needed_keys}
use Rattle.mig_pvtables.specs.WholePv.{AreP2mFrames}
use Rattle.mig_host_view.specs.View.{guest_in}

-- ---- a sound host

abbrev pub AreThere : PartMap → List PartKey → Type 0
AreThere parts [] = ⊤
AreThere parts (key ∷ keys) = IsSome (maps.get parts key) × AreThere parts keys

-- the type of the frame that has a machine frame
abbrev pub machine_type : FrameMap → (ℕ → Option ℕ) → ℕ → Option PageType
machine_type frames pfn_of mfn = option_and_then (type_at frames) (pfn_of mfn)

-- each field that a vCPU uses in a host says a machine frame, and the frame that has it is of the type of the field
abbrev pub FieldsName : FrameMap → (ℕ → Option ℕ) → PartMap → Type 0
FieldsName frames pfn_of parts =
    (key : PartKey) (context : List ℕ) → maps.get parts key ≡ Some context → key.code ≡ 4
    → (field : ℕ) → field ≤ 18 → is_used_somewhere key.key1 (gdt_ents context) field (field_value context field) ≡ true
    → fits_field field (machine_type frames pfn_of (frame_of_field field (field_value context field))) ≡ true

-- a guest that is in a machine, where pfn_of gives the PFN of a machine frame, can be seen
pub record CanBeSeen (g : GuestOf) (pfn_of : ℕ → Option ℕ) : Type 0 where
  pub parts : AreThere g.parts (needed_keys g.kind)
  pub p2m : AreP2mFrames g.frames g.parts
  pub entries : (pfn : ℕ) (frame : FrameOf) → maps.get g.frames pfn ≡ Some frame → EachEntry (NamesKnown pfn_of) frame
  pub gdt : (key : PartKey) (context : List ℕ) → maps.get g.parts key ≡ Some context → key.code ≡ 4 → gdt_ents context ≤ most_gdt_entries
  pub fields : FieldsName g.frames pfn_of g.parts
  pub context : (bytes : List ℕ) → maps.get g.parts context_key ≡ Some bytes → (end : ℕ) × (scan bytes ≡ Ok end)

abbrev pub IsSound : HostOf → Type 0
IsSound h = CanBeSeen (guest_in h) (pfn_in h.frames)

-- ---- what is in the way

abbrev pub absent : PartMap → PartKey → Option Unsound
absent parts key = if is_none (maps.get parts key) then Some (Missing key.code) else None

-- the field is used in a host, and says no machine frame of its type
abbrev pub misnames : FrameMap → (ℕ → Option ℕ) → ℕ → List ℕ → ℕ → Bool
misnames frames pfn_of id context field = misses is_used_somewhere (machine_type frames pfn_of) id context field

-- the first vCPU whose GDT has too many descriptors, by its id and their number
abbrev pub find_gdt : PartMap → Option (ℕ × ℕ)
find_gdt parts = first_some (λ e. if (e.0.code == 4) && nat_lt most_gdt_entries (gdt_ents e.1) then Some (e.0.key1, gdt_ents e.1) else None) (maps.entries parts)

abbrev pub fault_in : Result ℕ ContextFault → Option ContextFault
fault_in (Ok end) = None
fault_in (Err fault) = Some fault

-- what is wrong with the context of an HVM guest
abbrev pub find_context_fault : PartMap → Option ContextFault
find_context_fault parts = option_and_then (λ bytes. fault_in (scan bytes)) (maps.get parts context_key)

-- the causes that are tried, in the order of their numbers
abbrev pub unsound_rows : Kind → FrameMap → PartMap → (ℕ → Option ℕ) → List (Option Unsound)
unsound_rows kind frames parts pfn_of =
    first_some (absent parts) (needed_keys kind)
    ∷ option_map (λ k. P2mFrame k) (find_p2m frames parts)
    ∷ option_map (λ at. Superpage at.0 at.1) (find_entry is_superpage frames)
    ∷ option_map (λ at. NoFrame at.0 at.1) (find_entry (is_unknown pfn_of) frames)
    ∷ option_map (λ at. GdtEnts at.0 at.1) (find_gdt parts)
    ∷ option_map (λ at. VcpuFrame at.0 at.1) (find_in_contexts (misnames frames pfn_of) parts)
    ∷ option_map (λ fault. BadContext fault) (find_context_fault parts)
    ∷ []

-- the first cause that a host isn't sound
abbrev pub unsoundness : HostOf → Option Unsound
unsoundness h = first_cause (unsound_rows h.kind (guest_in h).frames h.parts (pfn_in h.frames))
