-- What a footprint says of a frame: the frame as a stream has it, and what of a table no stream can have.
use Rattle.std.specs.Prelude.{ℕ, Bool, false, List, Option, Some, None, find, is_none}
use Rattle.mig_dirtysave_rounds.specs.Common.{option_map, PageType, level_of, Entry, Frame, FrameOf, entry, blanked_table, renamed_by, first_superpage, Footprint, table_in}
use Rattle.mig_pvtables.specs.Faults.{slots}

-- the level and the raw page, where the frame is a table
abbrev pub table_of : Footprint → Option (ℕ × List ℕ)
table_of f = table_in (level_of f.type) f.page

abbrev pub superpage_in : Option (ℕ × List ℕ) → Option ℕ
superpage_in None = None
superpage_in (Some t) = first_superpage t.0 t.1

-- the slot of the first superpage
abbrev pub superpage_slot : Option Footprint → Option ℕ
superpage_slot None = None
superpage_slot (Some f) = superpage_in (table_of f)

-- an entry names a machine frame that has no PFN; a superpage isn't asked
abbrev pub is_lost : Entry → Option ℕ → Bool
is_lost (Frame mfn) name = is_none name
is_lost _ name = false

abbrev pub lost_at : ℕ → List ℕ → (ℕ → Option ℕ) → ℕ → Bool
lost_at level raw names slot = is_lost (entry level raw slot) (names slot)

abbrev pub lost_in : Option (ℕ × List ℕ) → (ℕ → Option ℕ) → Option ℕ
lost_in None names = None
lost_in (Some t) names = find (lost_at t.0 t.1 names) slots

-- the first slot whose entry names a machine frame that has no PFN
abbrev pub lost_slot : Option Footprint → Option ℕ
lost_slot None = None
lost_slot (Some f) = lost_in (table_of f) f.names

abbrev pub form_page : Option (ℕ × List ℕ) → (ℕ → Option ℕ) → Option (List ℕ) → Option (List ℕ)
form_page None names page = page
form_page (Some t) names page = Some (renamed_by names t.0 (blanked_table t.0 t.1))

-- the frame as a stream has it: a table has 0 in its blank slots, and names PFNs
abbrev pub form_of_print : Footprint → FrameOf
form_of_print f = record { type = f.type; page = form_page (table_of f) f.names f.page }

abbrev pub type_of_print : Option Footprint → Option PageType
type_of_print f = option_map (λ (g : Footprint). g.type) f
