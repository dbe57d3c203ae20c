-- Page tables (libxc migration stream, "PAGE_DATA"; the layout of entries is the processor's): 512 entries of 8 bytes, in
-- slots 0 to 511. Bit 0 says that an entry is present, bit 7 that it is a superpage (levels 2 to 4), and bits 12 to 51
-- name a frame.
use Rattle.std.specs.Prelude.{◌≡◌, ◌≤◌, ◌<◌, ⊤, ℕ, ◌/◌, ◌%◌, ◌^◌, Bool, List, Some, ◌==◌, ◌&&◌, not, nat_le, if◌then◌else◌}
use Rattle.mig_guest.specs.Common.{level_of}
use Rattle.mig_guest.specs.declared.table.Entry.{Entry}
use Rattle.mig_guest.specs.declared.table.Entry.TheVariants.{Blank, NotPresent, Superpage, Frame}
use Rattle.mig_guest.specs.Longs.{long_at, each_long}
use Rattle.mig_guest.specs.Frames.{FrameOf}

abbrev pub is_present : ℕ → Bool
is_present e = e % 2 == 1

abbrev pub is_large : ℕ → Bool
is_large e = e / 2 ^ 7 % 2 == 1

-- the number in bits 12 to 51
abbrev pub named_frame : ℕ → ℕ
named_frame e = e / 2 ^ 12 % 2 ^ 40

-- the slots of a level 4 table that the hypervisor keeps for itself
abbrev pub is_blank_slot : ℕ → ℕ → Bool
is_blank_slot level slot = (level == 4) && (nat_le 256 slot && nat_le slot 271)

-- what the number e says in this slot of a table of this level
unfoldable pub entry_of : ℕ → ℕ → ℕ → Entry
entry_of level slot e = if is_blank_slot level slot then Blank else if not (is_present e) then NotPresent else if nat_le 2 level && is_large e then Superpage else Frame (named_frame e)

-- what this slot of a page says, as a table of this level
abbrev pub entry : ℕ → List ℕ → ℕ → Entry
entry level page slot = entry_of level slot (long_at page slot)

-- P holds of what each slot of the frame says, where the frame is a table
abbrev pub EachEntry : (Entry → Type 0) → FrameOf → Type 0
EachEntry P frame = (level : ℕ) (page : List ℕ) → level_of frame.type ≡ Some level → frame.page ≡ Some page → (slot : ℕ) → slot < 512 → P (entry level page slot)

-- no superpage, and no frame number above top
abbrev pub IsWithin : ℕ → Entry → Type 0
IsWithin top Blank = ⊤
IsWithin top NotPresent = ⊤
IsWithin top Superpage = ⊥
IsWithin top (Frame n) = n ≤ top

-- ---- the blank form

unfoldable pub blanked_entry : ℕ → ℕ → ℕ → ℕ
blanked_entry level slot e = if is_blank_slot level slot then 0 else e

-- a table of this level with 0 in the blank slots
abbrev pub blanked_table : ℕ → List ℕ → List ℕ
blanked_table level page = each_long 512 (blanked_entry level) page
