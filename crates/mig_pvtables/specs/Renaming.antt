-- Tables whose entries name other frames: in a stream frame numbers (PFN), in a machine machine frames (MFN).
use Rattle.std.specs.Prelude.{◌≡◌, ◌<◌, ◌^◌, ℕ, List, Option, Some, None}
use Rattle.mig_pvtables.specs.Common.{Entry, Frame, each_long}
use Rattle.mig_guest.specs.Tables.{entry, entry_of, blanked_table}
use Rattle.mig_pvtables.specs.Tables.{with_frame}

-- the number e with this frame in it, where there is one
abbrev pub with_name : ℕ → Option ℕ → ℕ
with_name e None = e
with_name e (Some frame) = with_frame e frame

-- the number e, which says this entry: where that names a frame, e gets the name
abbrev pub named_anew : Option ℕ → ℕ → Entry → ℕ
named_anew name e (Frame n) = with_name e name
named_anew name e _ = e

-- the number e in this slot of a table of this level, with the slot's name in it where it names a frame
unfoldable pub renamed_entry : (ℕ → Option ℕ) → ℕ → ℕ → ℕ → ℕ
renamed_entry names level slot e = named_anew (names slot) e (entry_of level slot e)

-- a table of this level in which the entry of each slot names the frame that `names` gives for the slot, where the entry
-- names a frame and `names` gives one; all other entries, and all other bits, stay
abbrev pub renamed_by : (ℕ → Option ℕ) → ℕ → List ℕ → List ℕ
renamed_by names level page = each_long 512 (renamed_entry names level) page

-- what f gives for the frame that an entry names
abbrev pub name_for : (ℕ → Option ℕ) → Entry → Option ℕ
name_for f (Frame n) = f n
name_for f _ = None

-- a table in which each entry that names n names f n, where there is one
abbrev pub renamed_table : (ℕ → Option ℕ) → ℕ → List ℕ → List ℕ
renamed_table f level page = renamed_by (λ slot. name_for f (entry level page slot)) level page

-- the form of a machine's table in a stream, where f gives the frame number of a machine frame
abbrev pub normalised_table : (ℕ → Option ℕ) → ℕ → List ℕ → List ℕ
normalised_table f level page = renamed_table f level (blanked_table level page)

-- ---- what is said anew

-- what an entry says once it has this name
abbrev pub entry_named : Option ℕ → Entry → Entry
entry_named (Some name) (Frame n) = Frame name
entry_named _ x = x

-- where an entry of the table names a frame, its new name fits into the bits of an entry
abbrev pub NamesFit : (ℕ → Option ℕ) → ℕ → List ℕ → Type 0
NamesFit names level page = (slot n name : ℕ) → slot < 512 → entry level page slot ≡ Frame n → names slot ≡ Some name → name < 2 ^ 40

-- f gives n a name that fits, for which back gives n
pub record GoesBack (f back : ℕ → Option ℕ) (n : ℕ) : Type 0 where
  pub name : ℕ
  pub there : f n ≡ Some name
  pub small : name < 2 ^ 40
  pub again : back name ≡ Some n
