-- What is wrong with a page table in a stream (libxc migration stream, "PAGE_DATA"), and what it is to change an entry.
use Rattle.std.specs.Prelude.{ℕ, ◌+◌, ◌*◌, ◌/◌, ◌%◌, ◌^◌, Bool, true, false, List, Option, nat_lt, find}
use Rattle.mig_pvtables.specs.Common.{option_map, option_or, Cause, Entry, long_at, entry, named_frame}
use Rattle.mig_headers.specs.declared.fault.Cause.TheVariants as causes
use Rattle.mig_guest.specs.declared.table.Entry.TheVariants.{Superpage, Frame}
use Rattle.mig_pvtables.specs.Faults.{slots}

abbrev pub is_superpage : Entry → Bool
is_superpage Superpage = true
is_superpage _ = false

-- it names a frame above top
abbrev pub names_above : ℕ → Entry → Bool
names_above top (Frame n) = nat_lt top n
names_above top _ = false

abbrev pub first_superpage : ℕ → List ℕ → Option ℕ
first_superpage level page = find (λ slot. is_superpage (entry level page slot)) slots

abbrev pub first_outside : ℕ → ℕ → List ℕ → Option ℕ
first_outside top level page = find (λ slot. names_above top (entry level page slot)) slots

-- of the table at this place of its record: the first superpage, and where there is none, the first entry that names a
-- frame above top
abbrev pub fault_of_page_table : ℕ → ℕ → ℕ → List ℕ → Option Cause
fault_of_page_table place top level page =
    option_or (option_map (λ slot. causes.Superpage place slot) (first_superpage level page))
    (option_map (λ slot. causes.EntryOutside place slot (named_frame (long_at page slot))) (first_outside top level page))

-- the number e with another frame in bits 12 to 51
abbrev pub with_frame : ℕ → ℕ → ℕ
with_frame e frame = e / 2 ^ 52 * 2 ^ 52 + (frame * 2 ^ 12 + e % 2 ^ 12)
