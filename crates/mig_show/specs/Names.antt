-- The names of record types in Xen's documents.
use Rattle.std.specs.Prelude.{ℕ, Bool, List, [], ◌∷◌, codes, Option, option_map, unwrap_or, slice_get, if◌then◌else◌}
use Rattle.mig_headers.specs.declared.record_type.RecordType.{RecordType}
use Rattle.mig_show.specs.Common.{End, PageData, X86PvInfo, X86PvP2mFrames, X86PvVcpuBasic, X86PvVcpuExtended, X86PvVcpuXsave, SharedInfo, X86TscInfo, HvmContext, HvmParams, Toolstack, X86PvVcpuMsrs, Verify, Checkpoint, CheckpointDirtyPfnList, StaticDataEnd, X86CpuidPolicy, X86MsrPolicy, type_of_number, is_optional}

-- the name of a libxc record type (libxc migration stream, "Records"), a row each
abbrev pub libxc_name : RecordType → List ℕ
libxc_name End = codes "END"
libxc_name PageData = codes "PAGE_DATA"
libxc_name X86PvInfo = codes "X86_PV_INFO"
libxc_name X86PvP2mFrames = codes "X86_PV_P2M_FRAMES"
libxc_name X86PvVcpuBasic = codes "X86_PV_VCPU_BASIC"
libxc_name X86PvVcpuExtended = codes "X86_PV_VCPU_EXTENDED"
libxc_name X86PvVcpuXsave = codes "X86_PV_VCPU_XSAVE"
libxc_name SharedInfo = codes "SHARED_INFO"
libxc_name X86TscInfo = codes "X86_TSC_INFO"
libxc_name HvmContext = codes "HVM_CONTEXT"
libxc_name HvmParams = codes "HVM_PARAMS"
libxc_name Toolstack = codes "TOOLSTACK"
libxc_name X86PvVcpuMsrs = codes "X86_PV_VCPU_MSRS"
libxc_name Verify = codes "VERIFY"
libxc_name Checkpoint = codes "CHECKPOINT"
libxc_name CheckpointDirtyPfnList = codes "CHECKPOINT_DIRTY_PFN_LIST"
libxc_name StaticDataEnd = codes "STATIC_DATA_END"
libxc_name X86CpuidPolicy = codes "X86_CPUID_POLICY"
libxc_name X86MsrPolicy = codes "X86_MSR_POLICY"

-- the names of the libxl record types (libxl migration stream, "Records") in the order of their numbers, from 0
abbrev pub libxl_names : List (List ℕ)
libxl_names = codes "END" ∷ codes "LIBXC_CONTEXT" ∷ codes "EMULATOR_XENSTORE_DATA" ∷ codes "EMULATOR_CONTEXT" ∷ codes "CHECKPOINT_END" ∷ codes "CHECKPOINT_STATE" ∷ []

-- the name of the type with this number, of a libxl stream or of a libxc stream, if there is one
abbrev pub type_name : Bool → ℕ → Option (List ℕ)
type_name wrapped number = if wrapped then slice_get libxl_names number else option_map libxc_name (type_of_number number)

-- the name that is shown: a record whose type has bit 31 is optional, whatever the other bits are; and a type that is none of
-- its layer has no name
abbrev pub shown_name : Bool → ℕ → List ℕ
shown_name wrapped number = if is_optional number then codes "optional" else unwrap_or (type_name wrapped number) []
