-- Where the first field stands that is wrong in the data of a toolstack (Xen's libxl, up to Xen 4.5).
use Rattle.std.specs.Prelude.{◌≡◌, ◌<◌, ◌≤◌, ℕ, ◌+◌, List, ◌++◌, length, Option}
use Rattle.mig_refusals.specs.Common.{le32}
use Rattle.mig_legacy.specs.Toolstack.{Physmap, IsName, IsPhysmapHead, name_bytes}

-- the field at this offset of an entry is the first that is wrong: it isn't whole, or it is no name with a zero behind it
pub data EntryWrong (bytes : List ℕ) : ℕ → Type 0 where
  short_phys : length bytes < 8 → EntryWrong bytes 0
  short_start : 8 ≤ length bytes → length bytes < 16 → EntryWrong bytes 8
  short_size : 16 ≤ length bytes → length bytes < 24 → EntryWrong bytes 16
  short_length : 24 ≤ length bytes → length bytes < 28 → EntryWrong bytes 24
  short_name : 28 ≤ length bytes → length bytes < 28 + le32 bytes 24 → EntryWrong bytes 28
  no_name : (head text rest : List ℕ) → bytes ≡ head ++ (text ++ rest) → length head ≡ 28 → le32 head 24 ≡ length text → ((name : Option (List ℕ)) → IsName name → text ≡ name_bytes name → ⊥) → EntryWrong bytes 28
  short_padding : (head padding : List ℕ) (e : Physmap) → bytes ≡ head ++ (name_bytes e.name ++ padding) → IsPhysmapHead head e → IsName e.name → length padding < 4 → EntryWrong bytes (28 + length (name_bytes e.name))

-- a version of 1, a number of entries, and whole entries up to this offset; so many are to follow, and these bytes are left
pub data PhysmapsTo (body : List ℕ) : ℕ → ℕ → List ℕ → Type 0 where
  at_first : (head left : List ℕ) → body ≡ head ++ left → length head ≡ 8 → le32 head 0 ≡ 1 → PhysmapsTo body 8 (le32 head 4) left
  one_more : (offset n : ℕ) (head padding left : List ℕ) (e : Physmap) → PhysmapsTo body offset (n + 1) (head ++ (name_bytes e.name ++ (padding ++ left))) → IsPhysmapHead head e → IsName e.name → length padding ≡ 4
      → PhysmapsTo body (offset + (32 + length (name_bytes e.name))) n left

-- the first field that is wrong stands at this offset: the version, the number of entries, a field of an entry, or what
-- follows the last one
pub data FieldWrong (body : List ℕ) : ℕ → Type 0 where
  short_version : length body < 4 → FieldWrong body 0
  other_version : (le32 body 0 ≡ 1 → ⊥) → FieldWrong body 0
  short_count : 4 ≤ length body → le32 body 0 ≡ 1 → length body < 8 → FieldWrong body 4
  in_entry : (offset n field : ℕ) (left : List ℕ) → PhysmapsTo body offset (n + 1) left → EntryWrong left field → FieldWrong body (offset + field)
  more_bytes : (offset : ℕ) (left : List ℕ) → PhysmapsTo body offset 0 left → 0 < length left → FieldWrong body offset
