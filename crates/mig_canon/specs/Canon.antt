-- The canonical stream of a guest: stated records in a stated order, keys ascending, all that a reader ignores zero.
-- It has no record of an emulator's parts.
use Rattle.std.specs.Prelude.{ℕ, ◌*◌, List, [], ◌∷◌, ◌++◌, length, take, drop, map, replicate, Option, Some, None}
use Rattle.mig_canon.specs.Common.{little_bytes, Kind, image_header_of, domain_header_of, GuestOf, PartKey, code_number, canonical_bodies, part_body, parts_at, shape_of, Record, text_of, Frame, most_entries, body_of}
use Rattle.std.specs.Int.{div_ceil}
use Rattle.std.specs.List.{flat_map, range_with_len}
use Rattle.std.specs.FinMap as maps
use Rattle.mig_headers.specs.declared.kind.Kind.TheVariants.{Pv, Hvm}
use Rattle.mig_guest.specs.declared.part_code.PartCode.{PartCode}
use Rattle.mig_guest.specs.declared.part_code.PartCode.TheVariants.{VcpuBasic, VcpuExtended, VcpuXsave, SharedInfo, Tsc, HvmContext, HvmParam, VcpuMsrs, CpuidLeaf, Msr}
use Rattle.mig_guest.specs.PartKeys.{p2m_key}

-- ---- frames: as many in each record as one may have, and the rest in the last

abbrev pub batch : List Frame → ℕ → List Frame
batch fs k = take most_entries (drop (most_entries * k) fs)

abbrev pub batches : List Frame → ℕ
batches fs = div_ceil (length fs) most_entries

-- ---- records: a type and a body

-- the records of the first n batches
abbrev pub frame_bodies : List Frame → ℕ → List Record
frame_bodies fs n = map (λ k. (1, body_of (batch fs k))) (range_with_len 0 n)

abbrev pub frames_in : GuestOf → List Frame
frames_in g = maps.entries g.frames

-- the records of the parts of one code: a body as its row says, zero where it is ignored
abbrev pub records_of : PartCode → GuestOf → List Record
records_of code g = map (λ body. (code_number code, body)) (canonical_bodies code (parts_at code g))

-- and of several codes, one after another
abbrev pub records_in_order : List PartCode → GuestOf → List Record
records_in_order codes g = flat_map (λ code. records_of code g) codes

-- the policies, before the frames
abbrev pub static_codes : List PartCode
static_codes = CpuidLeaf ∷ Msr ∷ []

-- of an HVM guest the TSC, the parameters and the context, behind the frames
abbrev pub last_codes : List PartCode
last_codes = Tsc ∷ HvmParam ∷ HvmContext ∷ []

-- of a PV guest the TSC and SHARED_INFO, behind the frames
abbrev pub pv_last_codes : List PartCode
pv_last_codes = Tsc ∷ SharedInfo ∷ []

-- up to STATIC_DATA_END
abbrev pub static_bodies : GuestOf → List Record
static_bodies g = records_in_order static_codes g ++ (0x10, []) ∷ []

-- ---- what a PV guest alone has

-- X86_PV_INFO: it is 8 bytes wide, and its page tables have 4 levels
abbrev pub info_records : Kind → List Record
info_records Pv = (2, 8 ∷ 4 ∷ replicate 6 0) ∷ []
info_records Hvm = []

-- X86_PV_P2M_FRAMES: the P2M frames of the frame numbers from 0 to top
abbrev pub p2m_body : ℕ → List ℕ → List ℕ
p2m_body top frames = replicate 4 0 ++ (little_bytes 4 top ++ frames)

abbrev pub p2m_record : ℕ → Option (List ℕ) → List Record
p2m_record top None = []
p2m_record top (Some frames) = (3, p2m_body top frames) ∷ []

abbrev pub p2m_records : Kind → GuestOf → List Record
p2m_records Pv g = p2m_record g.top (maps.get g.parts p2m_key)
p2m_records Hvm g = []

-- the record of a part, where the guest has it
abbrev pub part_record : PartCode → PartKey → Option (List ℕ) → List Record
part_record code key None = []
part_record code key (Some bytes) = (code_number code, part_body (shape_of code) (key, bytes)) ∷ []

-- the key of a vCPU's part
abbrev pub key_of : PartCode → ℕ → PartKey
key_of code id = record { code = code_number code; key1 = id; key2 = 0 }

abbrev pub vcpu_record : GuestOf → ℕ → PartCode → List Record
vcpu_record g id code = part_record code (key_of code id) (maps.get g.parts (key_of code id))

-- the parts of a vCPU, one after another
abbrev pub vcpu_codes : List PartCode
vcpu_codes = VcpuBasic ∷ VcpuExtended ∷ VcpuXsave ∷ VcpuMsrs ∷ []

abbrev pub records_of_vcpu : GuestOf → ℕ → List Record
records_of_vcpu g id = flat_map (vcpu_record g id) vcpu_codes

-- of the first n vCPUs
abbrev pub vcpus_below : GuestOf → ℕ → List Record
vcpus_below g n = flat_map (records_of_vcpu g) (range_with_len 0 n)

-- the ids of vCPUs are below 4096
unfoldable pub all_vcpus : GuestOf → List Record
all_vcpus g = vcpus_below g 4096

-- ---- the stream

-- behind the frames, up to END
abbrev pub last_records : Kind → GuestOf → List Record
last_records Pv g = records_in_order pv_last_codes g ++ all_vcpus g
last_records Hvm g = records_in_order last_codes g

-- all records of a guest of this kind
abbrev pub bodies_of : Kind → GuestOf → List Record
bodies_of kind g =
    info_records kind ++ (static_bodies g ++ (p2m_records kind g ++ (frame_bodies (frames_in g) (batches (frames_in g)) ++ (last_records kind g ++ (0, []) ∷ []))))

-- version 3, a domain of Xen 0.1
abbrev pub headers : Kind → List ℕ
headers kind = image_header_of 3 ++ domain_header_of kind 0 1

unfoldable pub canon : GuestOf → List ℕ
canon g = headers g.kind ++ text_of (bodies_of g.kind g)
