-- Refusals of what only PV guests have, in the words of the format (libxc migration stream): where each cause stands, a
-- line for each. Causes that have places stand at several, all others at place 0.
use Rattle.std.specs.Prelude.{◌≡◌, ◌⊎◌, ℕ, ◌+◌, ◌*◌, ◌/◌, ◌%◌, ◌<◌, ◌≤◌, List, length, drop, filter, Option, Some, None, IsSome, slice_index}
use Rattle.std.specs.FinMap as maps
use Rattle.std.specs.Ordering.{is_lt}
use Rattle.mig_refusals.specs.Common.{le32, le64, Cause, vcpu_limit, most_frames, level_of, FrameOf, GuestOf, part_cmp, PartMap, p2m_key, vcpu_key, shared_key, PartCode, VcpuBasic, PartKey, most_gdt_entries, p2m_count, type_at}
use Rattle.mig_headers.specs.declared.fault.Cause.TheVariants as causes
use Rattle.mig_pagetypes.specs.declared.page_type.PageType.{PageType}
use Rattle.mig_pagetypes.specs.declared.page_type.PageType.TheVariants.{Notab, L4Tab, L4Pinned}
use Rattle.mig_guest.specs.Formed.{gdt_ents}
use Rattle.mig_guest.specs.Tables.{entry}
use Rattle.mig_guest.specs.declared.table.Entry.TheVariants.{Superpage, Frame}
use Rattle.mig_pvtables.specs.P2mFrames.{listed}

-- the page of a table of this level, which stands at this place of its record: at each slot ("PAGE_DATA")
pub data TableHas (top place level : ℕ) (page : List ℕ) : ℕ → Cause → Type 0 where
  superpage : (slot : ℕ) → slot < 512 → entry level page slot ≡ Superpage → TableHas top place level page slot (causes.Superpage place slot)
  outside : (slot n : ℕ) → slot < 512 → entry level page slot ≡ Frame n → top < n → TableHas top place level page slot (causes.EntryOutside place slot n)

-- a body that says the guest's width, in its first byte, and the levels of its page tables, in the second ("X86_PV_INFO")
pub data InfoHas (body : List ℕ) : ℕ → Cause → Type 0 where
  width_4 : slice_index body 0 ≡ 4 → InfoHas body 0 causes.Pv32
  other_width : (slice_index body 0 ≡ 8 → ⊥) → InfoHas body 0 causes.BadPvInfo
  other_levels : (slice_index body 1 ≡ 4 → ⊥) → InfoHas body 0 causes.BadPvInfo

-- a body that lists the P2M frames from its first to its last frame number, which ask for no length where the first is above the last ("X86_PV_P2M_FRAMES")
pub data P2mHas (body : List ℕ) : ℕ → Cause → Type 0 where
  bad_length : le32 body 0 ≤ le32 body 4 → (length body ≡ 8 + 8 * p2m_count (le32 body 0) (le32 body 4) → ⊥) → P2mHas body 0 (causes.BadLength (length body))
  late_start : (le32 body 0 ≡ 0 → ⊥) → P2mHas body 0 (causes.P2mStart (le32 body 0))

-- the body of a vCPU's record that sets parts of this code: its id, and a context where one follows ("X86_PV_VCPU_BASIC" to "X86_PV_VCPU_XSAVE", "X86_PV_VCPU_MSRS")
pub data VcpuHas (code : PartCode) (body : List ℕ) : ℕ → Cause → Type 0 where
  vcpu_id : vcpu_limit ≤ le32 body 0 → VcpuHas code body 0 (causes.VcpuId (le32 body 0))
  descriptors : code ≡ VcpuBasic → 8 < length body → most_gdt_entries < gdt_ents (drop 8 body) → VcpuHas code body 0 (causes.GdtEnts (gdt_ents (drop 8 body)))

-- how many parts have a lesser key
abbrev pub rank_of : PartMap → PartKey → ℕ
rank_of parts key = length (filter (λ e. is_lt (part_cmp e.0 key)) (maps.entries parts))

-- The context of vCPU id uses this field, which says this frame. rdx is field 0, and only vCPU 0 uses it. gdt_frames[i]
-- is field i + 1, used where the GDT has more than 512 * i descriptors, since a frame holds 512. ctrlreg[3] is field
-- 17, always used. ctrlreg[1] is field 18, used where its lowest bit is 1. Both control registers hold a frame number
-- from bit 12 on (Xen public/arch-x86/xen.h, vcpu_guest_context; "X86_PV_VCPU_BASIC")
pub data IsUsedField (id : ℕ) (context : List ℕ) : ℕ → ℕ → Type 0 where
  start_info : id ≡ 0 → IsUsedField id context 0 (le64 context 616)
  descriptors : (i : ℕ) → i < 16 → 512 * i < gdt_ents context → IsUsedField id context (i + 1) (le64 context (4832 + 8 * i))
  tables : IsUsedField id context 17 (le64 context 5008 / 4096)
  user_tables : le64 context 4992 % 2 ≡ 1 → IsUsedField id context 18 (le64 context 4992 / 4096)

-- A frame of this type is one that the field may say ("X86_PV_VCPU_BASIC"). A control register says the root of page
-- tables, a level 4 table, pinned or not. Any other field says a NOTAB frame.
pub data TakesType (field : ℕ) : Option PageType → Type 0 where
  plain : field ≤ 16 → TakesType field (Some Notab)
  root : 17 ≤ field → TakesType field (Some L4Tab)
  pinned_root : 17 ≤ field → TakesType field (Some L4Pinned)

-- the whole PV guest at END ("END"). Of the parts that are missing, the P2M frames are tried first, then the shared page, then
-- the context of vCPU 0. An entry of a table has the place 512 * pfn + slot, with a slot below 512: the tables are tried by
-- their frame numbers, and one by its slots. A field of a vCPU has the place 32 * rank + field, with a field of at most 18: the
-- contexts are tried in the order of their keys, and so of the vCPUs' ids, and one by its fields.
pub data PvGuestHas (g : GuestOf) : ℕ → Cause → Type 0 where
  no_p2m : maps.get g.parts p2m_key ≡ None → PvGuestHas g 0 (causes.Missing 3)
  no_shared : maps.get g.parts shared_key ≡ None → PvGuestHas g 1 (causes.Missing 7)
  no_vcpu : maps.get g.parts (vcpu_key 0) ≡ None → PvGuestHas g 2 (causes.Missing 4)
  other_type : (k pfn : ℕ) → listed g.parts k ≡ Some pfn → (type_at g.frames pfn ≡ Some Notab → ⊥) → PvGuestHas g k (causes.P2mFrame k)
  listed_twice : (j k pfn slot : ℕ) → j < k → listed g.parts j ≡ Some pfn → listed g.parts k ≡ Some pfn
      → slot < 512 → IsSome (maps.get g.frames (512 * j + slot)) ⊎ IsSome (maps.get g.frames (512 * k + slot)) → PvGuestHas g k (causes.P2mFrame k)
  absent : (pfn slot level n : ℕ) (frame : FrameOf) (page : List ℕ) → maps.get g.frames pfn ≡ Some frame → level_of frame.type ≡ Some level → frame.page ≡ Some page
      → slot < 512 → entry level page slot ≡ Frame n → maps.get g.frames n ≡ None → PvGuestHas g (512 * pfn + slot) (causes.TargetAbsent pfn slot)
  field_misfits : (key : PartKey) (field frame : ℕ) (context : List ℕ) → maps.get g.parts key ≡ Some context → key.code ≡ 4
      → IsUsedField key.key1 context field frame → (TakesType field (type_at g.frames frame) → ⊥) → PvGuestHas g (32 * rank_of g.parts key + field) (causes.VcpuFrame key.key1 field)
  many_frames : most_frames < length (maps.entries g.frames) → PvGuestHas g 0 causes.TooManyFrames
