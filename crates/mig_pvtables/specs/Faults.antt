-- What is wrong with a guest at the end of its stream: each cause at its least place.
use Rattle.std.specs.Prelude.{ℕ, ◌+◌, ◌*◌, Bool, true, false, List, [], ◌∷◌, length, Option, Some, None, is_some, is_none, ◌==◌, ◌&&◌, ◌||◌, not, nat_le, nat_lt, find, if◌then◌else◌}
use Rattle.mig_pvtables.specs.Common.{list_any, range_with_len, option_map, option_or, Kind, Pv, Hvm, Cause, Missing, P2mFrame, TargetAbsent, VcpuFrame, TooManyFrames, PageType, Notab, L4Tab, L4Pinned, level_of, most_frames, PartKey, Entry, Frame, FrameMap, GuestOf, PartMap, p2m_key, vcpu_key, shared_key, context_key, entry, gdt_ents}
use Rattle.std.specs.FinMap as maps
use Rattle.mig_pvtables.specs.VcpuContexts.{Usage, field_value, is_used, frame_of_field}
use Rattle.mig_pvtables.specs.P2mFrames.{count_in, listed_in}

-- the first answer that f gives along a list
abbrev pub first_some : {A C : Type 0} → (A → Option C) → List A → Option C
first_some f [] = None
first_some f (x ∷ xs) = option_or (f x) (first_some f xs)

-- the first of some causes that stands
abbrev pub first_cause : {C : Type 0} → List (Option C) → Option C
first_cause [] = None
first_cause (cause ∷ causes) = option_or cause (first_cause causes)

-- ---- a part that no guest of this kind goes without

abbrev pub needed_keys : Kind → List PartKey
needed_keys Hvm = context_key ∷ []
needed_keys Pv = p2m_key ∷ shared_key ∷ vcpu_key 0 ∷ []

-- the code of a part that isn't there
abbrev pub missing_code : PartMap → PartKey → Option ℕ
missing_code parts key = if is_none (maps.get parts key) then Some key.code else None

abbrev pub missing : PartMap → PartKey → Option Cause
missing parts key = if is_none (maps.get parts key) then Some (Missing key.code) else None

-- ---- a P2M frame, by its index

unfoldable pub slots : List ℕ
slots = range_with_len 0 512

-- the type of a frame
abbrev pub type_at : FrameMap → ℕ → Option PageType
type_at frames pfn = option_map (λ f. f.type) (maps.get frames pfn)

abbrev pub is_notab : Option PageType → Bool
is_notab (Some Notab) = true
is_notab _ = false

-- some PFN of P2M frame k has a frame, where types gives the type of a PFN's frame
abbrev pub is_needed : (ℕ → Option PageType) → ℕ → Bool
is_needed types k = list_any (λ slot. is_some (types (512 * k + slot))) slots

abbrev pub is_this : ℕ → Option ℕ → Bool
is_this pfn None = false
is_this pfn (Some n) = n == pfn

-- the PFN listed at k isn't a NOTAB frame, or it is listed before, at j, and the frames of j or k are needed
abbrev pub is_misplaced : (ℕ → Option PageType) → Option (List ℕ) → ℕ → Option ℕ → Bool
is_misplaced types list k None = false
is_misplaced types list k (Some pfn) =
    not (is_notab (types pfn)) || list_any (λ j. is_this pfn (listed_in list j) && (is_needed types j || is_needed types k)) (range_with_len 0 k)

-- the least place at which a list of P2M frames is wrong
abbrev pub find_misplaced : (ℕ → Option PageType) → Option (List ℕ) → Option ℕ
find_misplaced types list = find (λ k. is_misplaced types list k (listed_in list k)) (range_with_len 0 (count_in list))

abbrev pub find_p2m : FrameMap → PartMap → Option ℕ
find_p2m frames parts = find_misplaced (type_at frames) (maps.get parts p2m_key)

-- ---- an entry of a table, by the table's frame number and its slot

-- the first slot that passes a test, where there is a table of this level
abbrev pub find_slot : (Entry → Bool) → Option ℕ → Option (List ℕ) → Option ℕ
find_slot bad (Some level) (Some page) = find (λ slot. bad (entry level page slot)) slots
find_slot bad (Some level) None = None
find_slot bad None page = None

abbrev pub find_entry : (Entry → Bool) → FrameMap → Option (ℕ × ℕ)
find_entry bad frames = first_some (λ e. option_map (λ slot. (e.0, slot)) (find_slot bad (level_of e.1.type) e.1.page)) (maps.entries frames)

-- it names a frame that isn't there
abbrev pub is_absent : FrameMap → Entry → Bool
is_absent frames (Frame n) = is_none (maps.get frames n)
is_absent frames _ = false

-- ---- a field, by the vCPU's id and its number

unfoldable pub field_numbers : List ℕ
field_numbers = range_with_len 0 19

-- ctrlreg[3] and ctrlreg[1] are for level 4 tables, pinned or not; the other fields for NOTAB frames
abbrev pub is_root : Option PageType → Bool
is_root (Some L4Tab) = true
is_root (Some L4Pinned) = true
is_root _ = false

abbrev pub fits_field : ℕ → Option PageType → Bool
fits_field field type = if nat_le field 16 then is_notab type else is_root type

-- the first field of a context, by the vCPU's id and its number, that passes a test
abbrev pub find_in_contexts : (ℕ → List ℕ → ℕ → Bool) → PartMap → Option (ℕ × ℕ)
find_in_contexts bad parts =
    first_some (λ e. if e.0.code == 4 then option_map (λ field. (e.0.key1, field)) (find (bad e.0.key1 e.1) field_numbers) else None) (maps.entries parts)

-- the field is used, and says no frame of its type, where type_of gives the type of the frame that is said
abbrev pub misses : Usage → (ℕ → Option PageType) → ℕ → List ℕ → ℕ → Bool
misses used type_of id context field = used id (gdt_ents context) field (field_value context field) && not (fits_field field (type_of (frame_of_field field (field_value context field))))

-- the same in a stream
abbrev pub misfits : FrameMap → ℕ → List ℕ → ℕ → Bool
misfits frames id context field = misses is_used (type_at frames) id context field

abbrev pub find_field : FrameMap → PartMap → Option (ℕ × ℕ)
find_field frames parts = find_in_contexts (misfits frames) parts

-- ---- a guest at the end of its stream

abbrev pub too_many : FrameMap → Option Cause
too_many frames = if nat_lt most_frames (length (maps.entries frames)) then Some TooManyFrames else None

-- the causes that are tried, in the order of their numbers, where these frames tell the types that P2M frames and fields
-- ask for. An HVM guest has no P2M frames, tables and contexts of vCPUs.
abbrev pub faults_by : FrameMap → Kind → GuestOf → List (Option Cause)
faults_by typed Hvm g = missing g.parts context_key ∷ too_many g.frames ∷ []
faults_by typed Pv g =
    missing g.parts p2m_key
    ∷ missing g.parts shared_key
    ∷ missing g.parts (vcpu_key 0)
    ∷ option_map (λ k. P2mFrame k) (find_p2m typed g.parts)
    ∷ option_map (λ at. TargetAbsent at.0 at.1) (find_entry (is_absent g.frames) g.frames)
    ∷ option_map (λ at. VcpuFrame at.0 at.1) (find_field typed g.parts)
    ∷ too_many g.frames
    ∷ []

abbrev pub fault_by : FrameMap → GuestOf → Option Cause
fault_by typed g = first_cause (faults_by typed g.kind g)

-- they are told by the guest's own frames
abbrev pub faults_for : Kind → GuestOf → List (Option Cause)
faults_for kind g = faults_by g.frames kind g

abbrev pub fault_of_guest : GuestOf → Option Cause
fault_of_guest g = first_cause (faults_for g.kind g)
