-- What a whole PV guest is, in the words of the format.
use Rattle.std.specs.Prelude.{◌≡◌, ◌≤◌, ◌<◌, ℕ, ◌+◌, ◌*◌, true, List, Some, None, IsSome}
use Rattle.std.specs.FinMap as maps
use Rattle.mig_pvtables.specs.Common.{Notab, PartKey, Frame, FrameOf, FrameMap, IsFew, GuestOf, PartMap, p2m_key, vcpu_key, shared_key, EachEntry, IsFormed, gdt_ents}
use Rattle.mig_pvtables.specs.VcpuContexts.{field_value, is_used, frame_of_field}
use Rattle.mig_pvtables.specs.P2mFrames.{listed}
use Rattle.mig_pvtables.specs.Faults.{type_at, fits_field}

-- no PFN of P2M frame k has a frame
abbrev pub IsEmptyRange : FrameMap → ℕ → Type 0
IsEmptyRange frames k = (slot : ℕ) → slot < 512 → maps.get frames (512 * k + slot) ≡ None

-- each PFN that is listed is a NOTAB frame; one is listed twice only for ranges in which no PFN has a frame
pub record AreP2mFrames (frames : FrameMap) (parts : PartMap) : Type 0 where
  pub types : (k pfn : ℕ) → listed parts k ≡ Some pfn → type_at frames pfn ≡ Some Notab
  pub twice : (j k pfn : ℕ) → j < k → listed parts j ≡ Some pfn → listed parts k ≡ Some pfn → IsEmptyRange frames j × IsEmptyRange frames k

-- each field that a vCPU uses says a frame of the field's type
abbrev pub FieldsFit : FrameMap → PartMap → Type 0
FieldsFit frames parts =
    (key : PartKey) (context : List ℕ) → maps.get parts key ≡ Some context → key.code ≡ 4
    → (field : ℕ) → field ≤ 18 → is_used key.key1 (gdt_ents context) field (field_value context field) ≡ true
    → fits_field field (type_at frames (frame_of_field field (field_value context field))) ≡ true

-- a PV guest has what one needs at the end of its stream: its parts, P2M frames, targets of table entries, fields of vCPUs
pub record IsCompletePv (g : GuestOf) : Type 0 where
  pub p2m_there : IsSome (maps.get g.parts p2m_key)
  pub shared_there : IsSome (maps.get g.parts shared_key)
  pub vcpu_there : IsSome (maps.get g.parts (vcpu_key 0))
  pub p2m : AreP2mFrames g.frames g.parts
  pub targets : (pfn : ℕ) (frame : FrameOf) → maps.get g.frames pfn ≡ Some frame → EachEntry (λ e. (n : ℕ) → e ≡ Frame n → IsSome (maps.get g.frames n)) frame
  pub fields : FieldsFit g.frames g.parts
  pub few : IsFew g.frames

pub record IsWholePv (g : GuestOf) : Type 0 where
  pub formed : IsFormed g
  pub complete : IsCompletePv g
