-- The canonical stream of a guest: its canonical image, and around that a libxl stream where the guest has emulators (libxl
-- migration stream, "Header" and "Records").
use Rattle.std.specs.Prelude.{◌≡◌, ◌↔◌, T, ℕ, ◌-◌, Bool, true, List, [], ◌∷◌, ◌++◌, Option, Some, None, ◌==◌, ◌&&◌, not, if◌then◌else◌}
use Rattle.std.specs.List.{flat_map, list_any, Contains}
use Rattle.std.specs.Ordering.{nat_cmp, on, then_cmp}
use Rattle.std.specs.declared.cmp.Ordering.{Ordering}
use Rattle.std.specs.FinMap as maps
use Rattle.std.specs.FinMap.{is_sorted}
use Rattle.mig_canon.specs.Common.{little_bytes, libxl_header_of, PartKey, is_emulator_code, GuestOf, Part, PartMap, parts_after, spelled}
use Rattle.mig_canon.specs.Canon.{canon}

-- some part is an emulator's
abbrev pub has_emulators : PartMap → Bool
has_emulators parts = list_any (λ e. is_emulator_code e.0.code) (maps.entries parts)

-- some part is that of an emulator of id 0, as the converter of legacy streams makes them
abbrev pub is_of_converter : PartMap → Bool
is_of_converter parts = list_any (λ e. is_emulator_code e.0.code && (e.0.key1 == 0)) (maps.entries parts)

-- ---- the records of emulators

-- the body: id, index, and the bytes of the part
abbrev pub emulator_body : Part → List ℕ
emulator_body p = little_bytes 4 p.0.key1 ++ (little_bytes 4 p.0.key2 ++ p.1)

-- the type of the record that sets an emulator's part is 256 less than the part's code
unfoldable pub emulator_record : Part → List ℕ
emulator_record p = spelled (p.0.code - 256) (emulator_body p)

-- ---- their order

-- compares the ids of emulators, then their indices, and then the codes, of which that of pairs is less
abbrev pub emulator_cmp : PartKey → PartKey → Ordering
emulator_cmp = then_cmp (on (λ k. k.key1) nat_cmp) (then_cmp (on (λ k. k.key2) nat_cmp) (on (λ k. k.code) nat_cmp))

-- these parts, in the order of their keys
abbrev pub in_emulator_order : List Part → List Part
in_emulator_order ps = maps.entries (maps.from_entries {R = emulator_cmp} ps)

-- the pairs of emulators behind this key, and the contexts behind that one, in this order; with no key all
abbrev pub emulators_after : PartMap → Option PartKey → Option PartKey → List Part
emulators_after parts pairs context = in_emulator_order (parts_after 258 pairs (maps.entries parts) ++ parts_after 259 context (maps.entries parts))

-- the first of them, where there is one, and then those behind it
abbrev pub NextEmulator : PartMap → Option PartKey → Option PartKey → Option Part → Type 0
NextEmulator parts pairs context None = emulators_after parts pairs context ≡ []
NextEmulator parts pairs context (Some e) =
    emulators_after parts pairs context ≡ e ∷ (if e.0.code == 258 then emulators_after parts (Some e.0) context else emulators_after parts pairs (Some e.0))

-- all parts of emulators
unfoldable pub emulators_in_order : PartMap → List Part
emulators_in_order parts = emulators_after parts None None

-- each part of an emulator is there, and no other; the keys ascend by id, index and code
pub record AreEmulatorsInOrder (parts : PartMap) (ps : List Part) : Type 0 where
  pub each : (p : Part) → Contains ps p ↔ ((maps.get parts p.0 ≡ Some p.1) × (is_emulator_code p.0.code ≡ true))
  pub ascend : T (is_sorted emulator_cmp ps)

abbrev pub text_of_emulators : List Part → List ℕ
text_of_emulators ps = flat_map emulator_record ps

-- ---- the stream

-- the header and LIBXC_CONTEXT
abbrev pub opening_text : Bool → List ℕ
opening_text legacy = libxl_header_of legacy ++ spelled 1 []

-- what is before the image of a guest with these parts: nothing, where it has no emulators
unfoldable pub wrapper_opening : PartMap → List ℕ
wrapper_opening parts = if has_emulators parts then opening_text (is_of_converter parts) else []

-- what is behind it: the emulators and END
unfoldable pub wrapper_closing : PartMap → List ℕ
wrapper_closing parts = if has_emulators parts then text_of_emulators (emulators_in_order parts) ++ spelled 0 [] else []

-- the guest that the image of its stream says: without the parts of emulators
abbrev pub bare_guest : GuestOf → GuestOf
bare_guest g = record g { parts = maps.retain_keys g.parts (λ k. not (is_emulator_code k.code)) }

unfoldable pub canon_any : GuestOf → List ℕ
canon_any g = wrapper_opening g.parts ++ (canon g ++ wrapper_closing g.parts)
