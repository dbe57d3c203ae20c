-- Bodies that are tables: entries one after another, each the numbers of a key and the bytes of a part. How many bytes
-- these have, and whether the number of entries stands before them, is a layout (libxc migration stream, "HVM_PARAMS",
-- "X86_CPUID_POLICY", "X86_MSR_POLICY").
use Rattle.std.specs.Prelude.{◌≡◌, ◌<◌, ◌≤◌, ℕ, zero, suc, ◌+◌, ◌*◌, ◌/◌, ◌^◌, Bool, true, false, List, [], ◌∷◌, ◌++◌, length, take, drop, replicate, Option, None, ◌==◌, not, if◌then◌else◌}
use Rattle.mig_records.specs.Common.{flat_map, option_or, little_number, little_bytes, le32, first_fault, Cause, BadLength, VcpuId, ParamIndex, PartCode, VcpuBasic, VcpuExtended, VcpuXsave, VcpuMsrs, HvmParam, PartKey, code_number, small_number, Part}
use Rattle.mig_records.specs.declared.layout.Layout.{Layout}

-- whether a table's entries are counted, and the bytes of a key's two numbers and of a part
abbrev pub layout : Bool → ℕ → ℕ → ℕ → Layout
layout counted key1 key2 value = record { counted = counted; key1_width = key1; key2_width = key2; value_width = value }

-- ---- keys

-- what is refused of a key: the id of no vCPU, the index of no parameter
abbrev pub fault_of_key : PartCode → ℕ → ℕ → Option Cause
fault_of_key VcpuBasic key1 key2 = first_fault ((not (small_number key1 key2), VcpuId key1) ∷ [])
fault_of_key VcpuExtended key1 key2 = first_fault ((not (small_number key1 key2), VcpuId key1) ∷ [])
fault_of_key VcpuXsave key1 key2 = first_fault ((not (small_number key1 key2), VcpuId key1) ∷ [])
fault_of_key VcpuMsrs key1 key2 = first_fault ((not (small_number key1 key2), VcpuId key1) ∷ [])
fault_of_key HvmParam key1 key2 = first_fault ((not (small_number key1 key2), ParamIndex key1) ∷ [])
fault_of_key _ key1 key2 = None

-- a key whose numbers have 32 bits
abbrev pub IsSmallKey : PartKey → Type 0
IsSmallKey k = (k.key1 < 2 ^ 32) × (k.key2 < 2 ^ 32)

-- the key that two numbers spell, the first in so many bytes, and the second
abbrev pub spelled_key : PartCode → ℕ → ℕ → List ℕ → List ℕ → PartKey
spelled_key code width1 width2 first second = record { code = code_number code; key1 = little_number width1 first; key2 = little_number width2 second }

-- ---- widths

abbrev pub key_width : Layout → ℕ
key_width l = l.key1_width + l.key2_width

abbrev pub entry_width : Layout → ℕ
entry_width l = l.key1_width + l.key2_width + l.value_width

-- the number of entries and 4 bytes that are ignored, or nothing
abbrev pub front_width : Layout → ℕ
front_width l = if l.counted then 8 else 0

-- ---- the spelling

-- entries one after another
abbrev pub AreTableEntries : PartCode → Layout → List ℕ → List Part → Type 0
AreTableEntries code l bytes [] = bytes ≡ []
AreTableEntries code l bytes (p ∷ ps) = (first : List ℕ) × (second : List ℕ) × (rest : List ℕ) × (bytes ≡ first ++ (second ++ (p.1 ++ rest)))
    × (length first ≡ l.key1_width) × (length second ≡ l.key2_width) × (length p.1 ≡ l.value_width) × (p.0 ≡ spelled_key code l.key1_width l.key2_width first second)
    × (fault_of_key code p.0.key1 p.0.key2 ≡ None) × AreTableEntries code l rest ps

abbrev pub IsTableFront : Bool → List ℕ → ℕ → Type 0
IsTableFront true front n = (length front ≡ 8) × (le32 front 0 ≡ n)
IsTableFront false front n = front ≡ []

-- what is before the entries, and the entries
pub record IsTable (code : PartCode) (l : Layout) (body : List ℕ) (ps : List Part) : Type 0 where
  pub front : List ℕ
  pub bytes : List ℕ
  pub whole : body ≡ front ++ bytes
  pub counted : IsTableFront l.counted front (length ps)
  pub each : AreTableEntries code l bytes ps

-- ---- the canonical text: what is ignored is zero

abbrev pub entry_text : Layout → Part → List ℕ
entry_text l p = little_bytes l.key1_width p.0.key1 ++ (little_bytes l.key2_width p.0.key2 ++ p.1)

abbrev pub entries_text : Layout → List Part → List ℕ
entries_text l ps = flat_map (entry_text l) ps

abbrev pub front_text : Bool → ℕ → List ℕ
front_text true n = little_bytes 4 n ++ replicate 4 0
front_text false n = []

abbrev pub table_text : Layout → List Part → List ℕ
table_text l ps = front_text l.counted (length ps) ++ entries_text l ps

-- ---- the judging

-- the key in the first bytes
abbrev pub key_in : PartCode → ℕ → ℕ → List ℕ → PartKey
key_in code width1 width2 bytes = spelled_key code width1 width2 bytes (drop width1 bytes)

-- the part of the first entry
abbrev pub entry_part : PartCode → Layout → List ℕ → Part
entry_part code l bytes = (key_in code l.key1_width l.key2_width bytes, take l.value_width (drop (key_width l) bytes))

-- what is refused of its key
abbrev pub fault_of_entry : PartCode → Layout → List ℕ → Option Cause
fault_of_entry code l bytes = fault_of_key code (little_number l.key1_width bytes) (little_number l.key2_width (drop l.key1_width bytes))

-- the parts of n entries
abbrev pub entry_parts : PartCode → Layout → ℕ → List ℕ → List Part
entry_parts code l zero bytes = []
entry_parts code l (suc n) bytes = entry_part code l bytes ∷ entry_parts code l n (drop (entry_width l) bytes)

-- the first fault of their keys
abbrev pub fault_of_entries : PartCode → Layout → ℕ → List ℕ → Option Cause
fault_of_entries code l zero bytes = None
fault_of_entries code l (suc n) bytes = option_or (fault_of_entry code l bytes) (fault_of_entries code l n (drop (entry_width l) bytes))

-- how many entries a body has
abbrev pub entry_count : Layout → List ℕ → ℕ
entry_count l body = if l.counted then le32 body 0 else length body / entry_width l

abbrev pub parts_of_table : PartCode → Layout → List ℕ → List Part
parts_of_table code l body = entry_parts code l (entry_count l body) (drop (front_width l) body)

-- a body of another length than its entries have, and then the first key that is refused
abbrev pub fault_of_table : PartCode → Layout → List ℕ → Option Cause
fault_of_table code l body =
    option_or (first_fault ((not (length body == front_width l + entry_width l * entry_count l body), BadLength (length body)) ∷ []))
    (fault_of_entries code l (entry_count l body) (drop (front_width l) body))

-- a key's first number has 1 to 8 bytes, its second at most 8, and a part at most 16
pub record AreWidths (l : Layout) : Type 0 where
  pub some : 0 < l.key1_width
  pub first : l.key1_width ≤ 8
  pub second : l.key2_width ≤ 8
  pub value : l.value_width ≤ 16

-- widths that can be read, and where nothing is refused of a key, its numbers have 32 bits
pub record IsLayout (code : PartCode) (l : Layout) : Type 0 where
  pub widths : AreWidths l
  pub small : (key1 key2 : ℕ) → key1 < 256 ^ l.key1_width → key2 < 256 ^ l.key2_width → fault_of_key code key1 key2 ≡ None → (key1 < 2 ^ 32) × (key2 < 2 ^ 32)
