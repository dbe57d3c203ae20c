-- What a vCPU's context says once its fields have other names.
use Rattle.std.specs.Prelude.{◌≡◌, ◌<◌, ◌^◌, ℕ, true, List, length, Option, Some, None}
use Rattle.mig_host_laws.specs.Common.{AreBytes, gdt_ents, long_at}
use Rattle.mig_host_laws.specs.Fields.{Field, FieldRow, UsedWhere, field_row, IsField, said_by}

-- vCPU id uses the field of its context
abbrev pub Uses : (FieldRow → UsedWhere) → ℕ → List ℕ → Field → Type 0
Uses used id context field = used (field_row field) id (gdt_ents context) (long_at context (field_row field).place) ≡ true

-- each name is one of 52 bits
abbrev pub AreNamesSmall : (ℕ → Option ℕ) → Type 0
AreNamesSmall names = (n name : ℕ) → names n ≡ Some name → name < 2 ^ 52

-- new is the context in which each field that vCPU id uses says the name of the frame that it said, in written form. Of
-- its 646 numbers each one is what it was, but at a field that is used and whose frame has a name.
pub record SaysAnew (used : FieldRow → UsedWhere) (names : ℕ → Option ℕ) (id : ℕ) (context new : List ℕ) : Type 0 where
  pub size : length new ≡ 5168
  pub bytes : AreBytes new
  pub said : (field : Field) → IsField field → Uses used id context field → (name : ℕ) → names (said_by field context) ≡ Some name → long_at new (field_row field).place ≡ (field_row field).value name
  pub others : (i : ℕ) → i < 646 → ((field : Field) → IsField field → (field_row field).place ≡ i → Uses used id context field → names (said_by field context) ≡ None) → long_at new i ≡ long_at context i

-- ---- the context of a host's vCPU, and the one that it is seen as

-- each field that a host uses says the PFN that has the machine frame which it said, in written form; every other of the
-- 646 numbers is what it was
pub record IsSeenAs (pfn_of : ℕ → Option ℕ) (id : ℕ) (context new : List ℕ) : Type 0 where
  pub size : length new ≡ 5168
  pub bytes : AreBytes new
  pub said : (field : Field) → IsField field → Uses (λ row. row.in_host) id context field
      → (pfn : ℕ) × (pfn_of (said_by field context) ≡ Some pfn) × (long_at new (field_row field).place ≡ (field_row field).value pfn)
  pub others : (i : ℕ) → i < 646 → ((field : Field) → IsField field → (field_row field).place ≡ i → Uses (λ row. row.in_host) id context field → ⊥) → long_at new i ≡ long_at context i
