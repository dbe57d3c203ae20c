-- What is in the way of seeing a guest where it is, in words: a line for each row, with its places.
use Rattle.std.specs.Prelude.{◌≡◌, ◌⊎◌, Bool, true, false, ℕ, ◌+◌, ◌*◌, ◌<◌, ◌≤◌, List, length, filter, Option, Some, None, IsSome, IsTrue, IsFalse, Err}
use Rattle.std.specs.Ordering.{is_lt}
use Rattle.std.specs.FinMap as maps
use Rattle.mig_headers.specs.Contexts.{scan}
use Rattle.mig_headers.specs.declared.fault.ContextFault.{ContextFault}
use Rattle.mig_host_laws.specs.Common.{Cause, Pv, Hvm, Unsound, number_of_unsound, Notab, PartKey, gdt_ents, GuestOf, HostOf, PartMap, p2m_key, vcpu_key, shared_key, context_key, most_gdt_entries, fits_field, listed, field_value, frame_of_field, Superpage, Frame}
use Rattle.mig_headers.specs.declared.fault.Cause.TheVariants as faults
use Rattle.mig_headers.specs.declared.unsound.Unsound.TheVariants as causes
use Rattle.mig_pagetypes.specs.Limits.{most_frames}
use Rattle.mig_guest.specs.Order.{part_cmp}
use Rattle.mig_host_laws.specs.NamedFirst.{NamesFirst}
use Rattle.mig_host_laws.specs.Standing.{Standing, type_named, in_stream, in_host}

-- how many parts have a lesser key
abbrev pub key_rank : PartMap → PartKey → ℕ
key_rank parts key = length (filter (λ e. is_lt (part_cmp e.0 key)) (maps.entries parts))

-- What is in the way, a line for each thing that a row says, with its place. Of the parts that are missing, the P2M frames are
-- tried first, then the shared page, then the context of vCPU 0. A P2M frame has its index as its place. An entry has the place
-- 512 * pfn + slot, with a slot below 512: the tables are tried by their frame numbers, and one by its slots. The contexts are
-- tried in the order of their keys, and so of the vCPUs' ids; a field has the place 32 * rank + field, with a field of at most
-- 18.
pub data IsWrong (s : Standing) : ℕ → Unsound → Type 0 where
  no_context : s.kind ≡ Hvm → maps.get s.parts context_key ≡ None → IsWrong s 0 (causes.Missing 9)
  no_p2m : s.kind ≡ Pv → maps.get s.parts p2m_key ≡ None → IsWrong s 0 (causes.Missing 3)
  no_shared : s.kind ≡ Pv → maps.get s.parts shared_key ≡ None → IsWrong s 1 (causes.Missing 7)
  no_vcpu : s.kind ≡ Pv → maps.get s.parts (vcpu_key 0) ≡ None → IsWrong s 2 (causes.Missing 4)
  other_type : (k pfn : ℕ) → listed s.parts k ≡ Some pfn → (s.types pfn ≡ Some Notab → ⊥) → IsWrong s k (causes.P2mFrame k)
  listed_twice : (j k pfn slot : ℕ) → j < k → listed s.parts j ≡ Some pfn → listed s.parts k ≡ Some pfn
      → slot < 512 → IsSome (s.types (512 * j + slot)) ⊎ IsSome (s.types (512 * k + slot)) → IsWrong s k (causes.P2mFrame k)
  large : (pfn slot : ℕ) → slot < 512 → s.says pfn slot ≡ Superpage → IsWrong s (512 * pfn + slot) (causes.Superpage pfn slot)
  nameless : (pfn slot n : ℕ) → slot < 512 → s.says pfn slot ≡ Frame n → s.names n ≡ None → IsWrong s (512 * pfn + slot) (causes.NoFrame pfn slot)
  many_descriptors : (key : PartKey) (context : List ℕ) → maps.get s.parts key ≡ Some context → key.code ≡ 4
      → most_gdt_entries < gdt_ents context → IsWrong s (key_rank s.parts key) (causes.GdtEnts key.key1 (gdt_ents context))
  field_ill : (key : PartKey) (context : List ℕ) (field : ℕ) → maps.get s.parts key ≡ Some context → key.code ≡ 4
      → field ≤ 18 → IsTrue (s.used key.key1 (gdt_ents context) field (field_value context field))
      → IsFalse (fits_field field (type_named s (frame_of_field field (field_value context field)))) → IsWrong s (32 * key_rank s.parts key + field) (causes.VcpuFrame key.key1 field)
  bad_context : (bytes : List ℕ) (fault : ContextFault) → maps.get s.parts context_key ≡ Some bytes → scan bytes ≡ Err fault → IsWrong s 0 (causes.BadContext fault)

-- the same of a host
abbrev pub UnsoundHas : HostOf → ℕ → Unsound → Type 0
UnsoundHas h = IsWrong (in_host h)

-- what is found is the row of least number, at its least place, or there is none
abbrev pub NamesFirstRow : Standing → Option Unsound → Type 0
NamesFirstRow s found = NamesFirst number_of_unsound (IsWrong s) found

-- ---- the same of a PV guest at the end of its stream

-- tables, descriptors and contexts are judged where their records are
abbrev pub is_left_at_end : Unsound → Bool
is_left_at_end (causes.Superpage pfn slot) = false
is_left_at_end (causes.GdtEnts id ents) = false
is_left_at_end (causes.BadContext fault) = false
is_left_at_end _ = true

-- the cause that is named of a guest in a stream
abbrev pub cause_in_stream : Unsound → Cause
cause_in_stream (causes.Missing code) = faults.Missing code
cause_in_stream (causes.P2mFrame k) = faults.P2mFrame k
cause_in_stream (causes.Superpage pfn slot) = faults.Superpage pfn slot
cause_in_stream (causes.NoFrame pfn slot) = faults.TargetAbsent pfn slot
cause_in_stream (causes.GdtEnts id ents) = faults.GdtEnts ents
cause_in_stream (causes.VcpuFrame id field) = faults.VcpuFrame id field
cause_in_stream (causes.BadContext fault) = faults.BadContext fault

-- one of these rows stands in its stream, or it has too many frames
pub data IsWrongAtEnd (g : GuestOf) : ℕ → Cause → Type 0 where
  stands_wrong : (place : ℕ) (row : Unsound) → is_left_at_end row ≡ true → IsWrong (in_stream g) place row → IsWrongAtEnd g place (cause_in_stream row)
  many_frames : most_frames < length (maps.entries g.frames) → IsWrongAtEnd g 0 faults.TooManyFrames
