-- Guests that are well formed: what a guest on its way to a whole one keeps, whatever records come.
use Rattle.std.specs.Prelude.{◌≡◌, ◌≤◌, ◌<◌, ℕ, ◌+◌, ◌^◌, ⊤, Bool, true, false, List, [], ◌∷◌, length, Some, Ok, ◌==◌, ◌||◌}
use Rattle.std.specs.FinMap as maps
use Rattle.mig_guest.specs.Common.{le64, Kind, Pv, Hvm, pfn_limit, top_limit}
use Rattle.mig_headers.specs.Contexts.{scan, cut_at}
use Rattle.mig_headers.specs.Pairs.{AreCanonicalPairs}
use Rattle.mig_guest.specs.declared.part_code.PartCode.{PartCode}
use Rattle.mig_guest.specs.declared.part_code.PartCode.TheVariants.{VcpuBasic, HvmContext, EmulatorPairs}
use Rattle.mig_guest.specs.declared.part_key.PartKey.{PartKey}
use Rattle.mig_guest.specs.Limits.{most_gdt_entries}
use Rattle.mig_guest.specs.PartCodes.{row_of, code_number}
use Rattle.mig_guest.specs.Frames.{FrameOf, IsFrame, is_type_of}
use Rattle.mig_guest.specs.Guests.{GuestOf}
use Rattle.mig_guest.specs.Parts.{PartMap, FitsPolicy}
use Rattle.mig_guest.specs.Tables.{EachEntry, IsWithin}

-- ---- a part, by its row of the table

-- a part of a guest of this kind that has so many frame numbers; `asks` says what its bytes have to be
pub record IsRowPart (asks : PartCode → List ℕ → Type 0) (kind : Kind) (width : ℕ) (key : PartKey) (bytes : List ℕ) : Type 0 where
  pub code : PartCode
  pub number : key.code ≡ code_number code
  pub of_kind : (row_of code).of_kind kind ≡ true
  pub keys : (row_of code).keys key.key1 key.key2 ≡ true
  pub small1 : key.key1 < 2 ^ 32
  pub small2 : key.key2 < 2 ^ 32
  pub len : (row_of code).allows width (length bytes) ≡ true
  pub content : asks code bytes

-- a chain that ends with 8 zero bytes as its only END entry
abbrev pub IsCut : List ℕ → Type 0
IsCut bytes = (o : ℕ) × (scan bytes ≡ Ok o) × (cut_at bytes o ≡ bytes)

-- how many descriptors a vCPU's GDT has
abbrev pub gdt_ents : List ℕ → ℕ
gdt_ents context = le64 context 4960

-- what the bytes of a host's part have to be; contexts are raw there
abbrev pub IsRawContent : PartCode → List ℕ → Type 0
IsRawContent EmulatorPairs bytes = AreCanonicalPairs bytes
IsRawContent _ bytes = ⊤

-- what the bytes of a guest's part have to be
abbrev pub IsContent : PartCode → List ℕ → Type 0
IsContent EmulatorPairs bytes = AreCanonicalPairs bytes
IsContent HvmContext bytes = IsCut bytes
IsContent VcpuBasic bytes = gdt_ents bytes ≤ most_gdt_entries
IsContent _ bytes = ⊤

abbrev pub IsPart : Kind → ℕ → PartKey → List ℕ → Type 0
IsPart = IsRowPart IsContent

-- the codes of which a record replaces all parts
abbrev pub is_policy : ℕ → Bool
is_policy code = (code == 17) || (code == 18)

-- the codes of an emulator's parts
abbrev pub is_emulator_code : ℕ → Bool
is_emulator_code code = (code == 258) || (code == 259)

-- ---- a guest

-- how many frame numbers a guest has
abbrev pub width_of : GuestOf → ℕ
width_of g = g.top + 1

-- top is a frame number; an HVM guest has none
abbrev pub IsTop : Kind → ℕ → Type 0
IsTop Pv top = top < top_limit
IsTop Hvm top = top ≡ 0

-- frame numbers end at top, if there is one
abbrev pub IsInside : Kind → ℕ → ℕ → Type 0
IsInside Pv top pfn = pfn ≤ top
IsInside Hvm top pfn = ⊤

-- a frame that a guest of this kind and top may have at this number
pub record IsGuestFrame (kind : Kind) (top pfn : ℕ) (frame : FrameOf) : Type 0 where
  pub small : pfn < pfn_limit
  pub inside : IsInside kind top pfn
  pub is : IsFrame frame
  pub type : is_type_of kind frame.type ≡ true
  pub entries : EachEntry (IsWithin top) frame

pub record IsFormed (g : GuestOf) : Type 0 where
  pub top : IsTop g.kind g.top
  pub frames : (pfn : ℕ) (frame : FrameOf) → maps.get g.frames pfn ≡ Some frame → IsGuestFrame g.kind g.top pfn frame
  pub parts : (key : PartKey) (bytes : List ℕ) → maps.get g.parts key ≡ Some bytes → IsPart g.kind (width_of g) key bytes
  pub policies : (code : ℕ) → is_policy code ≡ true → FitsPolicy code g.parts

-- parts of one code that a guest of this kind and width may have
abbrev pub AreParts : Kind → ℕ → ℕ → List (PartKey × List ℕ) → Type 0
AreParts kind width code [] = ⊤
AreParts kind width code (p ∷ ps) = IsPart kind width p.0 p.1 × (p.0.code ≡ code) × AreParts kind width code ps

-- a guest without emulator parts
abbrev pub HasNoEmulators : PartMap → Type 0
HasNoEmulators parts = (key : PartKey) (bytes : List ℕ) → maps.get parts key ≡ Some bytes → is_emulator_code key.code ≡ false
