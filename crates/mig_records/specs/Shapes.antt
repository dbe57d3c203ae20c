-- The body of each record that sets parts of one code: its shape, a row for each code, and what a body of each shape says
-- (libxc migration stream, "Records").
use Rattle.std.specs.Prelude.{◌≡◌, ◌≤◌, ℕ, ◌+◌, ◌&&◌, Bool, true, false, List, [], ◌∷◌, ◌++◌, length, take, drop, replicate, map, Option, Some, None, Result, Ok, Err, ◌==◌, not, nat_lt, if◌then◌else◌, ◌↔◌, ⊤}
use Rattle.mig_records.specs.Common.{AllByRecursion, option_or, little_number, little_bytes, AreBytes, Cause, BadLength, GdtEnts, BadContext, record_row_of, type_of_number, most_body, first_fault, Kind, RecordType, PartCode, P2mFrames, VcpuBasic, VcpuExtended, VcpuXsave, SharedInfo, Tsc, HvmContext, HvmParam, VcpuMsrs, CpuidLeaf, Msr, EmulatorPairs, EmulatorContext, PartKey, Part, PartMap, put_parts, replace_code, parts_of, row_of, code_number, GuestOf, IsFormed, AreParts, gdt_ents, is_policy, most_gdt_entries}
use Rattle.std.specs.FinMap as maps
use Rattle.mig_headers.specs.declared.fault.ContextFault.{ContextFault}
use Rattle.mig_headers.specs.Contexts.{ContextEntry, IsContext, scan, cut_at}
use Rattle.mig_records.specs.declared.shape.Shape.{Shape}
use Rattle.mig_records.specs.declared.shape.Shape.TheVariants.{Table, Single, Named, Chain, Other}
use Rattle.mig_records.specs.Layouts.{layout, fault_of_key, spelled_key, key_in, IsTable, table_text, fault_of_table, parts_of_table, IsLayout, IsSmallKey}

-- ---- the rows

-- a vCPU's id and 4 bytes that are ignored, and then the part, or nothing
abbrev pub of_vcpu : Shape
of_vcpu = Named 0 4 true

abbrev pub shape_of : PartCode → Shape
shape_of P2mFrames = Other
shape_of VcpuBasic = of_vcpu
shape_of VcpuExtended = of_vcpu
shape_of VcpuXsave = of_vcpu
shape_of SharedInfo = Single 4096 0
shape_of Tsc = Single 20 4
shape_of HvmContext = Chain
shape_of HvmParam = Table (layout true 8 0 8)
shape_of VcpuMsrs = of_vcpu
shape_of CpuidLeaf = Table (layout false 4 4 16)
shape_of Msr = Table (layout false 4 0 12)
shape_of EmulatorPairs = Other
shape_of EmulatorContext = Other

-- the parts that stay before a record of this code sets its own
abbrev pub cleared : PartCode → PartMap → PartMap
cleared code m = if is_policy (code_number code) then maps.retain_keys m (λ k. not (k.code == code_number code)) else m

-- what a record of this code does with the parts that its body says
abbrev pub set_parts : PartCode → PartMap → List Part → PartMap
set_parts code m ps = if is_policy (code_number code) then replace_code (code_number code) m ps else put_parts m ps

-- what is refused of a part's bytes: a whole context of a vCPU with too many GDT entries
abbrev pub fault_of_content : PartCode → List ℕ → Option Cause
fault_of_content VcpuBasic bytes = first_fault (((length bytes == 5168) && nat_lt most_gdt_entries (gdt_ents bytes), GdtEnts (gdt_ents bytes)) ∷ [])
fault_of_content _ bytes = None

-- ---- the spelling

-- the key of the one part of a code
abbrev pub sole_key : PartCode → PartKey
sole_key code = record { code = code_number code; key1 = 0; key2 = 0 }

-- a part of this key, or nothing where it is empty and the code has no empty part
abbrev pub named_parts : Bool → PartKey → List ℕ → List Part
named_parts true key [] = []
named_parts true key (x ∷ xs) = (key, x ∷ xs) ∷ []
named_parts false key bytes = (key, bytes) ∷ []

pub record IsSingle (code : PartCode) (len ignored : ℕ) (body : List ℕ) (ps : List Part) : Type 0 where
  pub bytes : List ℕ
  pub behind : List ℕ
  pub whole : body ≡ bytes ++ behind
  pub bytes_len : length bytes ≡ len
  pub behind_len : length behind ≡ ignored
  pub says : ps ≡ (sole_key code, bytes) ∷ []

pub record IsNamed (code : PartCode) (second ignored : ℕ) (skips : Bool) (body : List ℕ) (ps : List Part) : Type 0 where
  pub name1 : List ℕ
  pub name2 : List ℕ
  pub gap : List ℕ
  pub bytes : List ℕ
  pub whole : body ≡ name1 ++ (name2 ++ (gap ++ bytes))
  pub name1_len : length name1 ≡ 4
  pub name2_len : length name2 ≡ second
  pub gap_len : length gap ≡ ignored
  pub named : fault_of_key code (little_number 4 name1) (little_number second name2) ≡ None
  pub fine : fault_of_content code bytes ≡ None
  pub says : ps ≡ named_parts skips (spelled_key code 4 second name1 name2) bytes

-- a context: its entries, and an END of zeros
pub record IsChain (code : PartCode) (body : List ℕ) (ps : List Part) : Type 0 where
  pub entries : List ContextEntry
  pub context : IsContext body entries
  pub says : ps ≡ (sole_key code, cut_at body (length context.before)) ∷ []

abbrev pub IsShaped : Shape → PartCode → List ℕ → List Part → Type 0
IsShaped (Table l) code body ps = IsTable code l body ps
IsShaped (Single len ignored) code body ps = IsSingle code len ignored body ps
IsShaped (Named second ignored skips) code body ps = IsNamed code second ignored skips body ps
IsShaped Chain code body ps = IsChain code body ps
IsShaped Other code body ps = ⊥

-- a body of a record that sets parts of this code, and the parts that it says
abbrev pub IsBody : PartCode → List ℕ → List Part → Type 0
IsBody code body ps = IsShaped (shape_of code) code body ps

-- ---- the canonical text: what is ignored is zero

-- of one part
abbrev pub part_body : Shape → Part → List ℕ
part_body (Table l) p = table_text l (p ∷ [])
part_body (Single len ignored) p = p.1 ++ replicate ignored 0
part_body (Named second ignored skips) p = little_bytes 4 p.0.key1 ++ (little_bytes second p.0.key2 ++ (replicate ignored 0 ++ p.1))
part_body Chain p = p.1
part_body Other p = []

-- one table of all parts, where there are some, or a body for each part
abbrev pub bodies_by_shape : Shape → List Part → List (List ℕ)
bodies_by_shape (Table l) [] = []
bodies_by_shape (Table l) (p ∷ ps) = table_text l (p ∷ ps) ∷ []
bodies_by_shape Other ps = []
bodies_by_shape shape ps = map (part_body shape) ps

-- the bodies of the records that set these parts of a code
abbrev pub canonical_bodies : PartCode → List Part → List (List ℕ)
canonical_bodies code ps = bodies_by_shape (shape_of code) ps

-- what these bodies say: a table all parts, any other one each
abbrev pub contents_by_shape : Shape → List Part → List (List Part)
contents_by_shape (Table l) [] = []
contents_by_shape (Table l) (p ∷ ps) = (p ∷ ps) ∷ []
contents_by_shape Other ps = []
contents_by_shape shape ps = map (λ p. p ∷ []) ps

-- the parts of this code that a guest has
abbrev pub parts_at : PartCode → GuestOf → List Part
parts_at code g = parts_of (code_number code) (maps.entries g.parts)

-- ---- the judging

abbrev pub fault_of_scan : Result ℕ ContextFault → Option Cause
fault_of_scan (Ok end) = None
fault_of_scan (Err fault) = Some (BadContext fault)

-- the chain up to its end, and an END of zeros
abbrev pub cut : Result ℕ ContextFault → List ℕ → List ℕ
cut (Ok end) body = cut_at body end
cut (Err fault) body = []

-- the first fault of a body
abbrev pub fault_by_shape : Shape → PartCode → List ℕ → Option Cause
fault_by_shape (Table l) code body = fault_of_table code l body
fault_by_shape (Single len ignored) code body = first_fault ((not (length body == len + ignored), BadLength (length body)) ∷ [])
fault_by_shape (Named second ignored skips) code body =
    option_or (first_fault ((nat_lt (length body) (4 + second + ignored), BadLength (length body)) ∷ []))
    (option_or (fault_of_key code (little_number 4 body) (little_number second (drop 4 body))) (fault_of_content code (drop (4 + second + ignored) body)))
fault_by_shape Chain code body = fault_of_scan (scan body)
fault_by_shape Other code body = None

-- the parts that a body without fault sets
abbrev pub parts_by_shape : Shape → PartCode → List ℕ → List Part
parts_by_shape (Table l) code body = parts_of_table code l body
parts_by_shape (Single len ignored) code body = (sole_key code, take len body) ∷ []
parts_by_shape (Named second ignored skips) code body = named_parts skips (key_in code 4 second body) (drop (4 + second + ignored) body)
parts_by_shape Chain code body = (sole_key code, cut (scan body) body) ∷ []
parts_by_shape Other code body = []

abbrev pub fault_of_body : PartCode → List ℕ → Option Cause
fault_of_body code body = fault_by_shape (shape_of code) code body

abbrev pub parts_of_body : PartCode → List ℕ → List Part
parts_of_body code body = parts_by_shape (shape_of code) code body

-- ---- what is asked of a row

-- widths that can be read, and only a table replaces all parts of its code
abbrev pub IsRow : PartCode → Shape → Type 0
IsRow code (Table l) = IsLayout code l
IsRow code (Single len ignored) = (len + ignored ≤ most_body) × (is_policy (code_number code) ≡ false)
IsRow code (Named second ignored skips) = (second ≤ 4) × (ignored ≤ 4) × (is_policy (code_number code) ≡ false)
IsRow code _ = Unit {0}

-- whether the shape is a row's, and no body of its own
abbrev pub has_shape : Shape → Bool
has_shape Other = false
has_shape _ = true

abbrev pub is_chain : Shape → Bool
is_chain Chain = true
is_chain _ = false

-- a length that the type of the record has
abbrev pub HasBodyLength : PartCode → ℕ → Type 0
HasBodyLength code len = (type : RecordType) → type_of_number (code_number code) ≡ Some type → (record_row_of type).allows len ≡ true

-- a body that says these parts, of a length that a record of its type has
pub record IsRecordBody (code : PartCode) (body : List ℕ) (ps : List Part) : Type 0 where
  pub says : IsBody code body ps
  pub has : HasBodyLength code (length body)
  pub short : length body ≤ most_body

-- these bodies say these lists of parts
abbrev pub SayAll : PartCode → List (List ℕ) → List (List Part) → Type 0
SayAll code [] [] = ⊤
SayAll code [] (ps ∷ pss) = ⊥
SayAll code (body ∷ bodies) [] = ⊥
SayAll code (body ∷ bodies) (ps ∷ pss) = IsRecordBody code body ps × SayAll code bodies pss

-- ---- laws

-- the bodies without fault, and the parts that they set, are those that are spelled so
abbrev pub BodiesAreSpelled : Type 0
BodiesAreSpelled = (code : PartCode) (body : List ℕ) (ps : List Part) → has_shape (shape_of code) ≡ true
    → ((fault_of_body code body ≡ None) × (parts_of_body code body ≡ ps)) ↔ IsBody code body ps

-- a body says one list of parts
abbrev pub BodiesSayOne : Type 0
BodiesSayOne = (code : PartCode) (body : List ℕ) (ps qs : List Part) → IsBody code body ps → IsBody code body qs → ps ≡ qs

-- a body of a record of this kind says parts that a guest of this kind may have
abbrev pub BodiesSayParts : Type 0
BodiesSayParts = (code : PartCode) (kind : Kind) (width : ℕ) (body : List ℕ) (ps : List Part) → (row_of code).of_kind kind ≡ true → HasBodyLength code (length body) → length body ≤ most_body
    → IsBody code body ps → AllByRecursion (λ p. IsSmallKey p.0) ps → AreParts kind width (code_number code) ps

-- the parts that a body of bytes says are of bytes
abbrev pub BodiesSayBytes : Type 0
BodiesSayBytes = (code : PartCode) (body : List ℕ) (ps : List Part) → IsBody code body ps → AreBytes body → AllByRecursion (λ p. AreBytes p.1) ps

-- a guest that is well formed stays so, whatever body of a record of its kind is read
abbrev pub BodiesKeepFormed : Type 0
BodiesKeepFormed = (code : PartCode) (g : GuestOf) (body : List ℕ) (ps : List Part) → (row_of code).of_kind g.kind ≡ true → HasBodyLength code (length body) → length body ≤ most_body
    → IsBody code body ps → AllByRecursion (λ p. IsSmallKey p.0) ps → IsFormed g → IsFormed (record g { parts = set_parts code g.parts ps })

-- the canonical bodies of the parts of a code that a well formed guest has say these parts
abbrev pub CanonicalBodiesSay : Type 0
CanonicalBodiesSay = (code : PartCode) (g : GuestOf) → IsFormed g → SayAll code (canonical_bodies code (parts_at code g)) (contents_by_shape (shape_of code) (parts_at code g))
