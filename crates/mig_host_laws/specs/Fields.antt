-- The nineteen fields of a vCPU's context that hold a frame (Xen public/arch-x86/xen.h, vcpu_guest_context), a row each. A
-- context is 646 numbers of 8 bytes; what a row says of values is said of such a number.
use Rattle.std.specs.Prelude.{◌≡◌, ◌<◌, ⊤, ℕ, ◌+◌, ◌-◌, ◌*◌, ◌/◌, ◌%◌, Bool, true, List, Option, Some, ◌==◌, not, nat_le, nat_lt, if◌then◌else◌}
use Rattle.byteorder.specs.Endian.{little_bytes}
use Rattle.mig_bytes.specs.Fields.{with_field}
use Rattle.mig_host_laws.specs.Common.{PageType, long_at, is_notab, is_root, fits_field, field_place, frame_of_field, field_of_frame, is_used, is_used_somewhere, value_blanked}

-- rdx; the GDT's frames, from 0 on; ctrlreg[3], the root; ctrlreg[1], the root of user space
pub data Field : Type 0 where
  Rdx : Field
  GdtFrame : ℕ → Field
  Root : Field
  UserRoot : Field

-- whether a field is used depends on the vCPU's id, on how many descriptors its GDT has and on the value
abbrev pub UsedWhere : Type 0
UsedWhere = (id ents v : ℕ) → Bool

-- what there is to say of a field
pub record FieldRow : Type 0 where
  -- the number of the field, and the place at which it stands
  pub number : ℕ
  pub place : ℕ
  -- whether a stream uses it, and whether a host does
  pub in_stream : UsedWhere
  pub in_host : UsedWhere
  -- the frame that a value says, and the value that says a frame
  pub frame : ℕ → ℕ
  pub value : ℕ → ℕ
  -- the blank form of a value
  pub blanked : ℕ → ℕ
  -- whether a frame of a type may be said
  pub fits : Option PageType → Bool

-- a field whose value is the frame
abbrev pub plain_field : ℕ → ℕ → UsedWhere → FieldRow
plain_field number place used = record { number = number; place = place; in_stream = used; in_host = used; frame = λ v. v; value = λ n. n; blanked = λ v. v; fits = is_notab }

-- the rows
abbrev pub field_row : Field → FieldRow
field_row Rdx = plain_field 0 77 (λ id ents v. id == 0)
field_row (GdtFrame g) = plain_field (1 + g) (604 + g) (λ id ents v. nat_lt (g * 512) ents)
field_row Root = record {
  number = 17;
  place = 626;
  in_stream = λ id ents v. true;
  in_host = λ id ents v. true;
  frame = λ v. v / 4096;
  value = λ n. n * 4096;
  blanked = λ v. v / 4096 * 4096;
  fits = is_root;
}
field_row UserRoot = record {
  number = 18;
  place = 624;
  in_stream = λ id ents v. v % 2 == 1;
  in_host = λ id ents v. not (v == 0);
  frame = λ v. v / 4096;
  value = λ n. n * 4096 + 1;
  blanked = λ v. if v % 2 == 1 then v / 4096 * 4096 + 1 else 0;
  fits = is_root;
}

-- the GDT has 16 frames
abbrev pub IsField : Field → Type 0
IsField (GdtFrame g) = g < 16
IsField _ = ⊤

-- the field that has a number of at most 18
abbrev pub field_numbered : ℕ → Field
field_numbered n = if n == 0 then Rdx else if nat_le n 16 then GdtFrame (n - 1) else if n == 17 then Root else UserRoot

-- what is said of the fields by their numbers is what the row of this field says
pub record IsNumbered (n : ℕ) (field : Field) : Type 0 where
  pub is : IsField field
  pub number : (field_row field).number ≡ n
  pub place : field_place n ≡ (field_row field).place
  pub stream : (id ents v : ℕ) → is_used id ents n v ≡ (field_row field).in_stream id ents v
  pub host : (id ents v : ℕ) → is_used_somewhere id ents n v ≡ (field_row field).in_host id ents v
  pub frame : (v : ℕ) → frame_of_field n v ≡ (field_row field).frame v
  pub value : (name : ℕ) → field_of_frame n name ≡ (field_row field).value name
  pub blanked : (v : ℕ) → value_blanked (Some n) v ≡ (field_row field).blanked v
  pub fits : (type : Option PageType) → fits_field n type ≡ (field_row field).fits type

-- ---- a field of a context

-- the frame that a field of a context says, used or not
abbrev pub said_by : Field → List ℕ → ℕ
said_by field context = (field_row field).frame (long_at context (field_row field).place)

-- the context once the field says this frame
abbrev pub with_frame_in : Field → ℕ → List ℕ → List ℕ
with_frame_in field frame context = with_field context (8 * (field_row field).place) (little_bytes 8 ((field_row field).value frame))
