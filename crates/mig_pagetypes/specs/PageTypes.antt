-- The page types of a stream: the number of each, whether its frame comes with a page, and the level of a table.
use Rattle.std.specs.Prelude.{ℕ, Bool, true, false, List, [], ◌∷◌, Option, Some, None, ◌==◌, find}
use Rattle.mig_pagetypes.specs.declared.page_type.PageType.{PageType}
use Rattle.mig_pagetypes.specs.declared.page_type.PageType.TheVariants.{Notab, L1Tab, L2Tab, L3Tab, L4Tab, L1Pinned, L2Pinned, L3Pinned, L4Pinned, Broken, Xalloc, Xtab}

-- the number that a type has in a stream
abbrev pub number_of : PageType → ℕ
number_of Notab = 0
number_of L1Tab = 1
number_of L2Tab = 2
number_of L3Tab = 3
number_of L4Tab = 4
number_of L1Pinned = 9
number_of L2Pinned = 0xA
number_of L3Pinned = 0xB
number_of L4Pinned = 0xC
number_of Broken = 0xD
number_of Xalloc = 0xE
number_of Xtab = 0xF

-- whether a page comes with a frame of this type
abbrev pub type_has_data : PageType → Bool
type_has_data Notab = true
type_has_data L1Tab = true
type_has_data L2Tab = true
type_has_data L3Tab = true
type_has_data L4Tab = true
type_has_data L1Pinned = true
type_has_data L2Pinned = true
type_has_data L3Pinned = true
type_has_data L4Pinned = true
type_has_data Broken = false
type_has_data Xalloc = false
type_has_data Xtab = false

-- the level of a page table, pinned or not
abbrev pub level_of : PageType → Option ℕ
level_of Notab = None
level_of L1Tab = Some 1
level_of L2Tab = Some 2
level_of L3Tab = Some 3
level_of L4Tab = Some 4
level_of L1Pinned = Some 1
level_of L2Pinned = Some 2
level_of L3Pinned = Some 3
level_of L4Pinned = Some 4
level_of Broken = None
level_of Xalloc = None
level_of Xtab = None

-- all types, in the order of their numbers
abbrev pub all_types : List PageType
all_types = Notab ∷ L1Tab ∷ L2Tab ∷ L3Tab ∷ L4Tab ∷ L1Pinned ∷ L2Pinned ∷ L3Pinned ∷ L4Pinned ∷ Broken ∷ Xalloc ∷ Xtab ∷ []

-- the type that has this number
abbrev pub type_of : ℕ → Option PageType
type_of n = find (λ t. number_of t == n) all_types

-- the type that was found, and XTAB, which stands for no frame, where there is none
abbrev pub type_or_none : Option PageType → PageType
type_or_none None = Xtab
type_or_none (Some type) = type
