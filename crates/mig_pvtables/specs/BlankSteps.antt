-- The steps of a walk over a guest: one frame or part after another.
use Rattle.std.specs.Prelude.{ℕ, ◌-◌, ◌/◌, Bool, false, List, length, Option, None, Some, ◌==◌, ◌&&◌, not, nat_lt, is_some, find, if◌then◌else◌}
use Rattle.mig_pvtables.specs.Common.{range_with_len, eq_by_cmp, is_lt, option_map, Ordering, level_of, PartKey, FrameOf, long_at, part_cmp, PartMap, p2m_key}
use Rattle.std.specs.FinMap as maps
use Rattle.mig_pvtables.specs.Blank.{zero_page, table_changed}
use Rattle.mig_pvtables.specs.P2mFrames.{place_of}

-- the value of one key changed
abbrev pub only : {K X : Type 0} → (K → K → Ordering) → K → (X → X) → K → X → X
only R key f q x = if eq_by_cmp R q key then f x else x

-- a frame with this page, where it has one
abbrev pub with_other_page : List ℕ → FrameOf → FrameOf
with_other_page page frame = record { type = frame.type; page = option_map (λ _. page) frame.page }

-- a frame whose page is zeros, where it has one
abbrev pub with_zero_page : FrameOf → FrameOf
with_zero_page frame = with_other_page zero_page frame

-- a frame whose page is changed, where it is a table
abbrev pub with_table_changed : (ℕ → List ℕ → List ℕ) → FrameOf → FrameOf
with_table_changed f frame = record { type = frame.type; page = table_changed f (level_of frame.type) frame.page }

-- the frames of the numbers that are listed changed
abbrev pub where_listed : PartMap → (FrameOf → FrameOf) → ℕ → FrameOf → FrameOf
where_listed parts f pfn frame = if is_some (place_of parts pfn) then f frame else frame

-- the parts of a code changed
abbrev pub blanked_code : ℕ → (PartKey → List ℕ → List ℕ) → PartKey → List ℕ → List ℕ
blanked_code code f key bytes = if key.code == code then f key bytes else bytes

-- whether the key isn't above another
abbrev pub is_reached : Option PartKey → PartKey → Bool
is_reached None key = false
is_reached (Some after) key = not (is_lt (part_cmp after key))

-- the parts of a code changed that aren't above a key
abbrev pub blanked_up_to : ℕ → (PartKey → List ℕ → List ℕ) → Option PartKey → PartKey → List ℕ → List ℕ
blanked_up_to code f after key bytes = if (key.code == code) && is_reached after key then f key bytes else bytes

-- the frames below a number changed
abbrev pub blanked_below : ℕ → (FrameOf → FrameOf) → ℕ → FrameOf → FrameOf
blanked_below n f pfn frame = if nat_lt pfn n then f frame else frame

-- ---- the pages of P2M frames, where f gives that of P2M frame k

-- a frame that is listed at a place, where it is, with its page
abbrev pub written_at : (ℕ → List ℕ) → Option ℕ → FrameOf → FrameOf
written_at f None frame = frame
written_at f (Some k) frame = with_other_page (f k) frame

-- each P2M frame with its page
abbrev pub written_where_listed : PartMap → (ℕ → List ℕ) → ℕ → FrameOf → FrameOf
written_where_listed parts f pfn frame = written_at f (place_of parts pfn) frame

-- the least index from k on at which a PFN is listed
unfoldable pub place_from_in : Option (List ℕ) → ℕ → ℕ → Option ℕ
place_from_in None k pfn = None
place_from_in (Some bytes) k pfn = find (λ j. long_at bytes j == pfn) (range_with_len k (length bytes / 8 - k))

-- each P2M frame that is listed from k on with its page
abbrev pub written_from : PartMap → ℕ → (ℕ → List ℕ) → ℕ → FrameOf → FrameOf
written_from parts k f pfn frame = written_at f (place_from_in (maps.get parts p2m_key) k pfn) frame
