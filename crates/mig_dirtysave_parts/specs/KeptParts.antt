-- Which of a host's parts are kept for what is before the frames and behind them, and how they fit the host.
use Rattle.std.specs.Prelude.{◌≡◌, ℕ, Bool, true, List, length, Option, Some, ◌==◌, ◌&&◌, not}
use Rattle.mig_dirtysave_parts.specs.Common.{option_map, is_emulator_code, GuestOf, PartMap, top_of}
use Rattle.std.specs.FinMap as maps
use Rattle.mig_headers.specs.declared.kind.Kind.{Kind}
use Rattle.mig_guest.specs.declared.part_key.PartKey.{PartKey}
use Rattle.mig_guest.specs.PartCodes.{is_fixed}

-- the codes of the parts that are before the frames, which never change while a guest runs; an emulator's pairs don't
-- either, and stand behind the image
abbrev pub is_early : ℕ → Bool
is_early code = is_fixed code && not (code == 258)

-- the codes of the parts that are behind the frames, without the context, which is written where it is
abbrev pub is_setting : ℕ → Bool
is_setting code = not (is_early code) && not (code == 9)

-- the parts of some codes
abbrev pub kept_parts : (ℕ → Bool) → PartMap → PartMap
kept_parts codes parts = maps.retain_keys parts (λ (key : PartKey). codes key.code)

-- a guest of this kind and with so many frame numbers that has these parts, and no frames
abbrev pub parts_alone : Kind → ℕ → PartMap → GuestOf
parts_alone kind width parts = record { kind = kind; top = top_of kind width; frames = maps.empty; parts = parts }

-- a guest that has parts of these codes, and nothing else
pub record HoldsParts (codes : ℕ → Bool) (kind : Kind) (width : ℕ) (g : GuestOf) : Type 0 where
  pub bare : g ≡ parts_alone kind width g.parts
  pub alone : (key : PartKey) (bytes : List ℕ) → maps.get g.parts key ≡ Some bytes → codes key.code ≡ true

-- how long a part is, where it is there
abbrev pub part_len : PartMap → PartKey → Option ℕ
part_len parts key = option_map (λ (bytes : List ℕ). length bytes) (maps.get parts key)

-- each part of a setting is in both or in neither, with one length
abbrev pub SameSettings : PartMap → PartMap → Type 0
SameSettings parts settings = (key : PartKey) → is_setting key.code ≡ true → part_len parts key ≡ part_len settings key

-- each part of an emulator is in both with the same bytes, or in neither
abbrev pub SameEmulators : PartMap → PartMap → Type 0
SameEmulators parts settings = (key : PartKey) → is_emulator_code key.code ≡ true → maps.get parts key ≡ maps.get settings key
