-- The bodies of X86_PV_INFO, X86_PV_P2M_FRAMES and the records of vCPUs (libxc migration stream, "Records").
use Rattle.std.specs.Prelude.{◌≡◌, ℕ, ◌+◌, ◌-◌, ◌*◌, ◌/◌, Bool, true, false, List, [], ◌∷◌, ◌++◌, length, drop, slice_index, Option, Some, None, ◌==◌, ◌&&◌, ◌||◌, not, nat_le, nat_lt, if◌then◌else◌}
use Rattle.std.specs.FinMap as maps
use Rattle.mig_records.specs.Common.{le32, first_fault, Cause, BadLength, Pv32, BadPvInfo, P2mStart, VcpuId, GdtEnts, vcpu_limit, PartCode, VcpuBasic, VcpuExtended, VcpuXsave, VcpuMsrs, GuestOf, gdt_ents, p2m_key, most_gdt_entries}

-- ---- X86_PV_INFO: the guest's width in bytes, the levels of its page tables, and 6 bytes that are ignored

pub record IsPvInfo (body : List ℕ) : Type 0 where
  pub ignored : List ℕ
  pub whole : body ≡ 8 ∷ 4 ∷ ignored

-- a guest of width 4, or any other but one of width 8 and 4 levels
abbrev pub fault_of_pv_info : List ℕ → Option Cause
fault_of_pv_info body =
    first_fault ((slice_index body 0 == 4, Pv32) ∷ (not ((slice_index body 0 == 8) && (slice_index body 1 == 4)), BadPvInfo) ∷ [])

-- ---- X86_PV_P2M_FRAMES: the first and the last frame number whose machine frame the P2M frames hold, and their PFNs

-- how many P2M frames hold the machine frames of the frame numbers from first to last, 512 in each
abbrev pub p2m_count : ℕ → ℕ → ℕ
p2m_count first last = last / 512 - first / 512 + 1

-- it lists the P2M frames of all frame numbers up to last
pub record IsP2m (last : ℕ) (frames body : List ℕ) : Type 0 where
  pub front : List ℕ
  pub whole : body ≡ front ++ frames
  pub front_len : length front ≡ 8
  pub first_is : le32 front 0 ≡ 0
  pub last_is : le32 front 4 ≡ last
  pub listed : length frames ≡ 8 * p2m_count 0 last

-- a body of another length than its two frame numbers ask for, or a first one that isn't 0. Where the first is above the
-- last they ask for no length.
abbrev pub fault_of_p2m : List ℕ → Option Cause
fault_of_p2m body =
    first_fault (
    (nat_le (le32 body 0) (le32 body 4) && not (length body == 8 + 8 * p2m_count (le32 body 0) (le32 body 4)), BadLength (length body))
    ∷ (not (le32 body 0 == 0), P2mStart (le32 body 0))
    ∷ [])

-- the frames that were listed before, where these replace the first of them
abbrev pub listed_over : List ℕ → Option (List ℕ) → List ℕ
listed_over frames None = frames
listed_over frames (Some before) = frames ++ drop (length frames) before

abbrev pub greater : ℕ → ℕ → ℕ
greater m n = if nat_le m n then n else m

-- the guest behind a record that lists the P2M frames up to last
abbrev pub set_p2m : ℕ → List ℕ → GuestOf → GuestOf
set_p2m last frames g = record g { top = greater g.top last; parts = maps.insert g.parts p2m_key (listed_over frames (maps.get g.parts p2m_key)) }

-- ---- the records of vCPUs: a vCPU's id and 4 bytes that are ignored, and then its part, or nothing

-- the codes of the parts that a vCPU has
abbrev pub is_vcpu : PartCode → Bool
is_vcpu VcpuBasic = true
is_vcpu VcpuExtended = true
is_vcpu VcpuXsave = true
is_vcpu VcpuMsrs = true
is_vcpu _ = false

-- an id that is no vCPU's, or a whole context with too many descriptors
abbrev pub fault_of_vcpu : PartCode → List ℕ → Option Cause
fault_of_vcpu VcpuBasic body =
    first_fault (
    (nat_le vcpu_limit (le32 body 0), VcpuId (le32 body 0))
    ∷ (nat_lt 8 (length body) && nat_lt most_gdt_entries (gdt_ents (drop 8 body)), GdtEnts (gdt_ents (drop 8 body)))
    ∷ [])
fault_of_vcpu code body = first_fault ((nat_le vcpu_limit (le32 body 0), VcpuId (le32 body 0)) ∷ [])

-- whether records of this type are a vCPU's: X86_PV_VCPU_BASIC, _EXTENDED, _XSAVE and _MSRS
abbrev pub is_vcpu_type : ℕ → Bool
is_vcpu_type type = (type == 4) || ((type == 5) || ((type == 6) || (type == 12)))

-- the same of a record by its type; one that is no vCPU's has neither fault
abbrev pub fault_of_vcpu_record : ℕ → List ℕ → Option Cause
fault_of_vcpu_record type body =
    first_fault (
    (is_vcpu_type type && nat_le vcpu_limit (le32 body 0), VcpuId (le32 body 0))
    ∷ ((type == 4) && (nat_lt 8 (length body) && nat_lt most_gdt_entries (gdt_ents (drop 8 body))), GdtEnts (gdt_ents (drop 8 body)))
    ∷ [])
