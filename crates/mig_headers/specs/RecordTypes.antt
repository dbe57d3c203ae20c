-- The record types of a libxc stream (libxc migration stream, "Records"), a row each.
use Rattle.std.specs.Prelude.{◌≡◌, ℕ, ◌+◌, ◌-◌, ◌*◌, ◌^◌, ◌%◌, Bool, true, false, List, [], ◌∷◌, Option, Some, ◌==◌, ◌&&◌, ◌||◌, nat_le, slice_get}
use Rattle.mig_headers.specs.declared.kind.Kind.{Kind}
use Rattle.mig_headers.specs.declared.kind.Kind.TheVariants.{Pv, Hvm}
use Rattle.mig_headers.specs.declared.record_type.RecordType.{RecordType}
use Rattle.mig_headers.specs.declared.record_type.RecordType.TheVariants.{End, PageData, X86PvInfo, X86PvP2mFrames, X86PvVcpuBasic, X86PvVcpuExtended, X86PvVcpuXsave, SharedInfo, X86TscInfo, HvmContext, HvmParams, Toolstack, X86PvVcpuMsrs, Verify, Checkpoint, CheckpointDirtyPfnList, StaticDataEnd, X86CpuidPolicy, X86MsrPolicy}

-- the most bytes that the body of a record may have, as in Xen's reader
abbrev pub most_body : ℕ
most_body = 2 ^ 27

-- the most entries of a policy
abbrev pub most_policy_entries : ℕ
most_policy_entries = 2 ^ 16

-- vCPU ids are below this, and indices of HVM parameters
abbrev pub vcpu_limit : ℕ
vcpu_limit = 4096

-- a row of the table: the type's number, whether it is supported, the kinds of guest that have it, and the body lengths that it may have
pub record Row : Type 0 where
  pub number : ℕ
  pub supported : Bool
  pub of_kind : Kind → Bool
  pub allows : ℕ → Bool

-- the column of kinds
abbrev pub both : Kind → Bool
both kind = true

abbrev pub pv : Kind → Bool
pv Pv = true
pv Hvm = false

abbrev pub hvm : Kind → Bool
hvm Pv = false
hvm Hvm = true

-- the column of lengths
abbrev pub any_length : ℕ → Bool
any_length len = true

abbrev pub exactly : ℕ → ℕ → Bool
exactly n len = len == n

abbrev pub at_least : ℕ → ℕ → Bool
at_least n len = nat_le n len

-- entries of n bytes, of at most so many bytes in all
abbrev pub entries : ℕ → ℕ → ℕ → Bool
entries n most len = (len % n == 0) && nat_le len most

-- a vCPU's id, and a context that is empty or has n bytes
abbrev pub vcpu_context : ℕ → ℕ → Bool
vcpu_context n len = (len == 8) || (len == 8 + n)

-- a vCPU's id, and entries of n bytes
abbrev pub vcpu_entries : ℕ → ℕ → Bool
vcpu_entries n len = nat_le 8 len && ((len - 8) % n == 0)

abbrev pub supported : ℕ → (Kind → Bool) → (ℕ → Bool) → Row
supported number of_kind allows = record { number = number; supported = true; of_kind = of_kind; allows = allows }

abbrev pub unsupported : ℕ → (ℕ → Bool) → Row
unsupported number allows = record { number = number; supported = false; of_kind = both; allows = allows }

abbrev pub record_row_of : RecordType → Row
record_row_of End = supported 0x0 both (exactly 0)
record_row_of PageData = supported 0x1 both (at_least 8)
record_row_of X86PvInfo = supported 0x2 pv (exactly 8)
record_row_of X86PvP2mFrames = supported 0x3 pv (at_least 8)
record_row_of X86PvVcpuBasic = supported 0x4 pv (vcpu_context 5168)
record_row_of X86PvVcpuExtended = supported 0x5 pv (at_least 8)
record_row_of X86PvVcpuXsave = supported 0x6 pv (at_least 8)
record_row_of SharedInfo = supported 0x7 pv (exactly 4096)
record_row_of X86TscInfo = supported 0x8 both (exactly 24)
record_row_of HvmContext = supported 0x9 hvm any_length
record_row_of HvmParams = supported 0xA hvm (at_least 8)
record_row_of Toolstack = unsupported 0xB any_length
record_row_of X86PvVcpuMsrs = supported 0xC pv (vcpu_entries 16)
record_row_of Verify = supported 0xD both (exactly 0)
record_row_of Checkpoint = unsupported 0xE any_length
record_row_of CheckpointDirtyPfnList = unsupported 0xF any_length
record_row_of StaticDataEnd = supported 0x10 both (exactly 0)
record_row_of X86CpuidPolicy = supported 0x11 both (entries 24 (most_policy_entries * 24))
record_row_of X86MsrPolicy = supported 0x12 both (entries 16 (most_policy_entries * 16))

abbrev pub type_number : RecordType → ℕ
type_number type = (record_row_of type).number

-- the types in the order of their numbers
abbrev pub record_types : List RecordType
record_types = End ∷ PageData ∷ X86PvInfo ∷ X86PvP2mFrames ∷ X86PvVcpuBasic ∷ X86PvVcpuExtended ∷ X86PvVcpuXsave ∷ SharedInfo ∷ X86TscInfo ∷ HvmContext ∷ HvmParams ∷ Toolstack ∷ X86PvVcpuMsrs ∷ Verify ∷ Checkpoint ∷ CheckpointDirtyPfnList ∷ StaticDataEnd ∷ X86CpuidPolicy ∷ X86MsrPolicy ∷ []

-- the type of a number, if there is one
abbrev pub type_of_number : ℕ → Option RecordType
type_of_number number = slice_get record_types number

-- bit 31 of a type's 32 bits: a reader may ignore the record
abbrev pub is_optional : ℕ → Bool
is_optional number = nat_le (2 ^ 31) number

-- a type's number has that type, and is the only one that has it
pub record NumbersAreInverse : Type 0 where
  pub type_of : (type : RecordType) → type_of_number (type_number type) ≡ Some type
  pub number_of : (number : ℕ) (type : RecordType) → type_of_number number ≡ Some type → type_number type ≡ number
