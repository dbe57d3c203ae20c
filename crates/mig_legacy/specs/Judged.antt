-- The data of the toolstack, judged field by field.
use Rattle.std.specs.Prelude.{◌≡◌, ℕ, zero, suc, ◌+◌, Bool, List, [], ◌∷◌, length, take, drop, Option, Some, None, ◌==◌, ◌||◌, not, nat_lt, if◌then◌else◌}
use Rattle.mig_legacy.specs.Common.{position_or_len, le32, le64, first_fault}
use Rattle.mig_legacy.specs.Toolstack.{Physmap, IsToolstack}

-- no bytes, or the first zero is the last byte
abbrev pub is_name : List ℕ → Bool
is_name bytes = (length bytes == 0) || (position_or_len (λ b. b == 0) bytes + 1 == length bytes)

-- the name whose bytes these are
abbrev pub name_in : List ℕ → Option (List ℕ)
name_in [] = None
name_in (b ∷ bytes) = Some (take (length bytes) (b ∷ bytes))

-- how long the name's bytes are in the entry at the front
abbrev pub name_len : List ℕ → ℕ
name_len bytes = le32 bytes 24

-- the name's bytes in the entry at the front
abbrev pub name_at : List ℕ → List ℕ
name_at bytes = take (name_len bytes) (drop 28 bytes)

abbrev pub entry_len : List ℕ → ℕ
entry_len bytes = 32 + name_len bytes

-- what can be wrong with the fields of the entry at the front, and where these stand: one isn't whole, or is no name
abbrev pub entry_rows : List ℕ → List (Bool × ℕ)
entry_rows bytes =
    (nat_lt (length bytes) 8, 0)
    ∷ (nat_lt (length bytes) 16, 8)
    ∷ (nat_lt (length bytes) 24, 16)
    ∷ (nat_lt (length bytes) 28, 24)
    ∷ (nat_lt (length bytes) (28 + name_len bytes), 28)
    ∷ (not (is_name (name_at bytes)), 28)
    ∷ (nat_lt (length bytes) (entry_len bytes), 28 + name_len bytes)
    ∷ []

-- where the first field stands that is wrong in the entry at the front
unfoldable pub entry_fault : List ℕ → Option ℕ
entry_fault bytes = first_fault (entry_rows bytes)

-- the entry at the front
abbrev pub entry_in : List ℕ → Physmap
entry_in bytes = record { phys = le64 bytes 0; start = le64 bytes 8; size = le64 bytes 16; name = name_in (name_at bytes) }

-- the fault of an entry at this offset; else what is wrong behind it
abbrev pub fault_or : ℕ → Option ℕ → Option ℕ → Option ℕ
fault_or at None behind = behind
fault_or at (Some field) behind = Some (at + field)

-- what is wrong with so many entries from this offset on, behind which nothing stands
unfoldable pub entries_fault : ℕ → ℕ → List ℕ → Option ℕ
entries_fault zero at bytes = if length bytes == 0 then None else Some at
entries_fault (suc n) at bytes = fault_or at (entry_fault bytes) (entries_fault n (at + entry_len bytes) (drop (entry_len bytes) bytes))

-- so many entries
unfoldable pub physmaps_in : ℕ → List ℕ → List Physmap
physmaps_in zero bytes = []
physmaps_in (suc n) bytes = entry_in bytes ∷ physmaps_in n (drop (entry_len bytes) bytes)

-- Where the first wrong field is. It isn't whole, is a version other than 1, is a name without its one zero at the end,
-- or is what follows the last entry.
unfoldable pub toolstack_fault : List ℕ → Option ℕ
toolstack_fault body = if nat_lt (length body) 4 || not (le32 body 0 == 1) then Some 0 else if nat_lt (length body) 8 then Some 4 else entries_fault (le32 body 4) 8 (drop 8 body)

unfoldable pub toolstack : List ℕ → List Physmap
toolstack body = physmaps_in (le32 body 4) (drop 8 body)

-- data have no fault exactly where they are spelled as entries, and these are they
pub record ToolstackIsSpelled (body : List ℕ) : Type 0 where
  pub faultless : toolstack_fault body ≡ None → IsToolstack body (toolstack body)
  pub spelled : (es : List Physmap) → IsToolstack body es → (toolstack_fault body ≡ None) × (toolstack body ≡ es)
