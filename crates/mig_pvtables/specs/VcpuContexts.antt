-- The context of a vCPU (libxc migration stream, "X86_PV_VCPU_BASIC"; Xen public/arch-x86/xen.h, vcpu_guest_context):
-- 5168 bytes, 646 numbers of 8 bytes. Nineteen of them are fields that hold a frame: rdx (field 0), the GDT's frames
-- (fields 1 to 16), ctrlreg[3] (17) and ctrlreg[1] (18).
use Rattle.std.specs.Prelude.{ℕ, ◌+◌, ◌-◌, ◌*◌, ◌/◌, ◌%◌, Bool, true, List, Option, Some, None, ◌==◌, ◌&&◌, not, nat_le, nat_lt, if◌then◌else◌}
use Rattle.mig_pvtables.specs.Common.{long_at, each_long, gdt_ents}

-- the field that stands at place i, where a field does: rdx at byte 616, gdt_frames from byte 4832 on, ctrlreg[3] at
-- byte 5008, ctrlreg[1] at byte 4992
abbrev pub field_at : ℕ → Option ℕ
field_at i = if i == 77 then Some 0 else if nat_le 604 i && nat_lt i 620 then Some (i - 603) else if i == 626 then Some 17 else if i == 624 then Some 18 else None

-- the place at which a field stands
abbrev pub field_place : ℕ → ℕ
field_place field = if field == 0 then 77 else if nat_le field 16 then 603 + field else if field == 17 then 626 else 624

abbrev pub field_value : List ℕ → ℕ → ℕ
field_value context field = long_at context (field_place field)

-- bit 0 of ctrlreg[1] says that a stream uses it
abbrev pub is_marked : ℕ → Bool
is_marked v = v % 2 == 1

-- which fields are used: whether vCPU id uses the field, which has the value v, where its GDT has so many descriptors. In
-- a stream is_used says it, in a host is_used_somewhere.
abbrev pub Usage : Type 0
Usage = (id ents field v : ℕ) → Bool

-- whether vCPU id uses the field in a stream: each of the GDT's frames holds 512 descriptors
abbrev pub is_used : ℕ → ℕ → ℕ → ℕ → Bool
is_used id ents field v = if field == 0 then id == 0 else if nat_le field 16 then nat_lt ((field - 1) * 512) ents else if field == 17 then true else is_marked v

-- the frame that a field's value v says
abbrev pub frame_of_field : ℕ → ℕ → ℕ
frame_of_field field v = if nat_le field 16 then v else v / 4096

-- ---- the blank form

abbrev pub value_blanked : Option ℕ → ℕ → ℕ
value_blanked None v = v
value_blanked (Some field) v = if nat_le field 16 then v else if field == 17 then v / 4096 * 4096 else if is_marked v then v / 4096 * 4096 + 1 else 0

unfoldable pub blanked_value : ℕ → ℕ → ℕ
blanked_value i v = value_blanked (field_at i) v

-- the context with the low 12 bits of ctrlreg[3] 0, and in ctrlreg[1] no more than its frame and bit 0, or 0
abbrev pub blanked_context : List ℕ → List ℕ
blanked_context context = each_long 646 blanked_value context

-- the shared page with bytes 3096 to 3103 zero
unfoldable pub blanked_shared_value : ℕ → ℕ → ℕ
blanked_shared_value i v = if i == 387 then 0 else v

abbrev pub blanked_shared : List ℕ → List ℕ
blanked_shared bytes = each_long 512 blanked_shared_value bytes

-- ---- a field of its own

-- the frame that the field says, where vCPU id uses it
abbrev pub says_where : Usage → ℕ → List ℕ → ℕ → Option ℕ
says_where used id context field = if used id (gdt_ents context) field (field_value context field) then Some (frame_of_field field (field_value context field)) else None

-- the frame that the field says, where vCPU id uses it in a stream
abbrev pub field_says : ℕ → List ℕ → ℕ → Option ℕ
field_says id context field = says_where is_used id context field

-- whether vCPU id uses the field in a stream or in a host: there ctrlreg[1] is used where it isn't 0
abbrev pub is_used_somewhere : ℕ → ℕ → ℕ → ℕ → Bool
is_used_somewhere id ents field v = if field == 18 then not (v == 0) else is_used id ents field v

-- the frame that the field says, where vCPU id uses it in a stream or in a host
abbrev pub field_says_somewhere : ℕ → List ℕ → ℕ → Option ℕ
field_says_somewhere id context field = says_where is_used_somewhere id context field

-- the value that says the frame
abbrev pub field_of_frame : ℕ → ℕ → ℕ
field_of_frame field frame = if nat_le field 16 then frame else if field == 17 then frame * 4096 else frame * 4096 + 1
