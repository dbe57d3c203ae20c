-- The order of the records of a stream (libxc migration stream, "Records" and "Layout"): what a record's type breaks, by the types of the records before it, as numbers.
use Rattle.std.specs.Prelude.{◌≡◌, ◌≤◌, ◌^◌, ℕ, Bool, List, [], ◌∷◌, Option, Some, None, ◌==◌, ◌&&◌, ◌||◌, not, if◌then◌else◌, IsTrue, IsFalse}
use Rattle.std.specs.List.{list_any}
use Rattle.mig_headers.specs.declared.kind.Kind.{Kind}
use Rattle.mig_headers.specs.declared.kind.Kind.TheVariants.{Pv}
use Rattle.mig_headers.specs.declared.fault.Cause.{Cause}
use Rattle.mig_headers.specs.declared.fault.Cause.TheVariants.{Unsupported, UnknownMandatory, WrongKind, OutOfOrder}
use Rattle.mig_headers.specs.declared.record_type.RecordType.{RecordType}
use Rattle.mig_headers.specs.declared.record_type.RecordType.TheVariants.{End, PageData, X86PvInfo, X86PvP2mFrames, X86PvVcpuBasic, X86PvVcpuExtended, X86PvVcpuXsave, SharedInfo, HvmContext, HvmParams, X86PvVcpuMsrs, Verify, StaticDataEnd, X86CpuidPolicy, X86MsrPolicy}
use Rattle.mig_headers.specs.Rows.{first_fault}
use Rattle.mig_headers.specs.RecordTypes.{record_row_of, pv, type_number, type_of_number, is_optional}

-- records of static data, records of a guest's content, and among these the records of a vCPU
abbrev pub static_records : List RecordType
static_records = X86PvInfo ∷ X86CpuidPolicy ∷ X86MsrPolicy ∷ []

abbrev pub content_records : List RecordType
content_records = End ∷ PageData ∷ X86PvP2mFrames ∷ X86PvVcpuBasic ∷ X86PvVcpuExtended ∷ X86PvVcpuXsave ∷ SharedInfo ∷ HvmContext ∷ HvmParams ∷ X86PvVcpuMsrs ∷ Verify ∷ []

abbrev pub vcpu_records : List RecordType
vcpu_records = X86PvVcpuBasic ∷ X86PvVcpuExtended ∷ X86PvVcpuXsave ∷ X86PvVcpuMsrs ∷ []

-- whether a number is that of one of these types
abbrev pub among : List RecordType → ℕ → Bool
among these number = list_any (λ type. number == type_number type) these

-- whether some record before is of one of these types
abbrev pub some_earlier : List ℕ → List RecordType → Bool
some_earlier types these = list_any (among these) types

-- what the rules ask of the records before: whether some earlier record is of such a type
pub record Earlier : Type 0 where
  pub static_data_end : Bool
  pub content : Bool
  pub pv_info : Bool
  pub p2m_frames : Bool
  pub vcpu : Bool
  pub verify : Bool

abbrev pub earlier_in : List ℕ → Earlier
earlier_in types = record {
  static_data_end = some_earlier types (StaticDataEnd ∷ []);
  content = some_earlier types content_records;
  pv_info = some_earlier types (X86PvInfo ∷ []);
  p2m_frames = some_earlier types (X86PvP2mFrames ∷ []);
  vcpu = some_earlier types vcpu_records;
  verify = some_earlier types (Verify ∷ []);
}

-- whether a type is one of these
abbrev pub is_of : List RecordType → RecordType → Bool
is_of these this = among these (type_number this)

-- rule 1: one STATIC_DATA_END
abbrev pub second_end : Earlier → RecordType → Bool
second_end earlier this = is_of (StaticDataEnd ∷ []) this && earlier.static_data_end

-- rule 2: static records are before STATIC_DATA_END, and both before all content
abbrev pub late_static : Earlier → RecordType → Bool
late_static earlier this =
    (is_of static_records this && earlier.static_data_end) || (is_of (StaticDataEnd ∷ static_records) this && earlier.content)

-- rule 3: in version 3 content stands after STATIC_DATA_END
abbrev pub early_content : ℕ → Earlier → RecordType → Bool
early_content version earlier this = (version == 3) && (is_of content_records this && not earlier.static_data_end)

-- rule 4: one X86_PV_INFO
abbrev pub second_pv_info : Earlier → RecordType → Bool
second_pv_info earlier this = is_of (X86PvInfo ∷ []) this && earlier.pv_info

-- rule 5: X86_PV_P2M_FRAMES stands after X86_PV_INFO
abbrev pub early_p2m_frames : Earlier → RecordType → Bool
early_p2m_frames earlier this = is_of (X86PvP2mFrames ∷ []) this && not earlier.pv_info

-- rule 6: in a PV stream PAGE_DATA stands after X86_PV_P2M_FRAMES
abbrev pub early_pages : Kind → Earlier → RecordType → Bool
early_pages kind earlier this = pv kind && (is_of (PageData ∷ []) this && not earlier.p2m_frames)

-- rule 7: PAGE_DATA stands before all vCPU records
abbrev pub late_pages : Earlier → RecordType → Bool
late_pages earlier this = is_of (PageData ∷ []) this && earlier.vcpu

-- rule 8: one VERIFY, which stands before all vCPU records
abbrev pub late_verify : Earlier → RecordType → Bool
late_verify earlier this = is_of (Verify ∷ []) this && (earlier.verify || earlier.vcpu)

-- the rules, where a record breaks each
abbrev pub broken_rules : ℕ → Kind → Earlier → RecordType → List (Bool × Cause)
broken_rules version kind earlier this =
    (second_end earlier this, OutOfOrder 1)
    ∷ (late_static earlier this, OutOfOrder 2)
    ∷ (early_content version earlier this, OutOfOrder 3)
    ∷ (second_pv_info earlier this, OutOfOrder 4)
    ∷ (early_p2m_frames earlier this, OutOfOrder 5)
    ∷ (early_pages kind earlier this, OutOfOrder 6)
    ∷ (late_pages earlier this, OutOfOrder 7)
    ∷ (late_verify earlier this, OutOfOrder 8)
    ∷ []

-- all causes of a record of a type that the table of record types has
abbrev pub causes : ℕ → Kind → Earlier → RecordType → List (Bool × Cause)
causes version kind earlier this =
    (not (record_row_of this).supported, Unsupported (type_number this))
    ∷ (not ((record_row_of this).of_kind kind), WrongKind (type_number this))
    ∷ broken_rules version kind earlier this

-- the fault of a mandatory type's number, which the table has or hasn't
abbrev pub fault_of_mandatory : ℕ → Kind → Earlier → ℕ → Option RecordType → Option Cause
fault_of_mandatory version kind earlier number None = Some (UnknownMandatory number)
fault_of_mandatory version kind earlier number (Some this) = first_fault (causes version kind earlier this)

-- the fault of a type's number; an optional record may stand anywhere
abbrev pub fault_after : ℕ → Kind → Earlier → ℕ → Option Cause
fault_after version kind earlier number =
    if is_optional number then None else fault_of_mandatory version kind earlier number (type_of_number number)

-- the fault of a type's number behind records of these types
abbrev pub fault_of_type : ℕ → Kind → List ℕ → ℕ → Option Cause
fault_of_type version kind types number = fault_after version kind (earlier_in types) number

-- the rules in their own words, for a record of a type behind records of these types
pub record KeepsOrder (version : ℕ) (kind : Kind) (types : List ℕ) (this : RecordType) : Type 0 where
  pub one_static_data_end : this ≡ StaticDataEnd → IsFalse (some_earlier types (StaticDataEnd ∷ []))
  pub static_before_its_end : IsTrue (is_of static_records this) → IsFalse (some_earlier types (StaticDataEnd ∷ []))
  pub static_before_content : IsTrue (is_of static_records this) → IsFalse (some_earlier types content_records)
  pub static_end_before_content : this ≡ StaticDataEnd → IsFalse (some_earlier types content_records)
  pub content_after_static_end : version ≡ 3 → IsTrue (is_of content_records this) → IsTrue (some_earlier types (StaticDataEnd ∷ []))
  pub one_pv_info : this ≡ X86PvInfo → IsFalse (some_earlier types (X86PvInfo ∷ []))
  pub p2m_after_pv_info : this ≡ X86PvP2mFrames → IsTrue (some_earlier types (X86PvInfo ∷ []))
  pub pv_pages_after_p2m : kind ≡ Pv → this ≡ PageData → IsTrue (some_earlier types (X86PvP2mFrames ∷ []))
  pub pages_before_vcpus : this ≡ PageData → IsFalse (some_earlier types vcpu_records)
  pub one_verify : this ≡ Verify → IsFalse (some_earlier types (Verify ∷ []))
  pub verify_before_vcpus : this ≡ Verify → IsFalse (some_earlier types vcpu_records)

-- a type's number may come behind records of these types: it is optional, or a supported type of this kind that keeps the order
pub data IsInOrder (version : ℕ) (kind : Kind) (types : List ℕ) (number : ℕ) : Type 0 where
  optional : 2 ^ 31 ≤ number → IsInOrder version kind types number
  ordered : (this : RecordType) → number ≡ type_number this → IsTrue (record_row_of this).supported → IsTrue ((record_row_of this).of_kind kind) → KeepsOrder version kind types this → IsInOrder version kind types number
