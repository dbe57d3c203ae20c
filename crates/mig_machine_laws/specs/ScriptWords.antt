-- What a line of a script asks for, and which lines are logged, in words.
use Rattle.std.specs.Prelude.{◌≡◌, ◌≤◌, ◌<◌, ◌⊎◌, ℕ, ◌+◌, ◌/◌, ◌%◌, ◌^◌, ◌==◌, ◌&&◌, ◌||◌, Bool, true, nat_le, List, ◌∷◌, length, Option, Some, None}
use Rattle.std.specs.FinMap as maps
use Rattle.mig_machine_laws.specs.Common.{HostFrame, HostFrames, HostOf, Kind, Pv, Hvm, level_of, long_at, LineOf, after_line}
use Rattle.mig_machine_script.specs.ScriptLines.LineOf.{Write, Retype, Add, Remove, Exchange, Put, Dot}

-- an entry of a table whose bit 0 is set, outside slots 256 to 271 of level 4, has this machine frame in its bits 12 to 51
pub record NamesMachineFrame (frames : HostFrames) (mfn : ℕ) : Type 0 where
  pub pfn : ℕ
  pub frame : HostFrame
  pub there : maps.get frames pfn ≡ Some frame
  pub level : ℕ
  pub table : level_of frame.type ≡ Some level
  pub page : List ℕ
  pub has : frame.page ≡ Some page
  pub slot : ℕ
  pub inside : slot < 512
  pub outside_blank : level ≡ 4 → (slot < 256) ⊎ (271 < slot)
  pub present : long_at page slot % 2 ≡ 1
  pub names : long_at page slot / 2 ^ 12 % 2 ^ 40 ≡ mfn

-- a machine frame that may come: from 1 to 2^40 - 1, no frame has it, and no table names it
pub record IsFree (h : HostOf) (mfn : ℕ) : Type 0 where
  pub some : 1 ≤ mfn
  pub small : mfn < 2 ^ 40
  pub unused : (pfn : ℕ) (frame : HostFrame) → maps.get h.frames pfn ≡ Some frame → frame.machine ≡ mfn → ⊥
  pub unnamed : NamesMachineFrame h.frames mfn → ⊥

-- the numbers of the types that a frame of a host may have
abbrev pub is_allowed_number : Kind → ℕ → Bool
is_allowed_number Pv n = nat_le n 4 || (nat_le 9 n && nat_le n 14)
is_allowed_number Hvm n = (n == 0) || ((n == 13) || (n == 14))

-- a line of each letter, where what it asks for stands
pub data MayApply (h : HostOf) : LineOf → Type 0 where
  write : (pfn at : ℕ) (bytes page : List ℕ) (frame : HostFrame) → maps.get h.frames pfn ≡ Some frame → frame.page ≡ Some page → at + length bytes ≤ 4096 → MayApply h (Write pfn at bytes)
  retype : (pfn number : ℕ) (frame : HostFrame) → maps.get h.frames pfn ≡ Some frame → is_allowed_number h.kind number ≡ true → MayApply h (Retype pfn number)
  add : (pfn mfn : ℕ) → pfn < h.width → maps.get h.frames pfn ≡ None → IsFree h mfn → length (maps.entries h.frames) < 2 ^ 24 → MayApply h (Add pfn mfn)
  remove : (pfn : ℕ) (frame : HostFrame) → maps.get h.frames pfn ≡ Some frame → (NamesMachineFrame h.frames frame.machine → ⊥) → MayApply h (Remove pfn)
  exchange : (pfn mfn : ℕ) (frame : HostFrame) → maps.get h.frames pfn ≡ Some frame → (NamesMachineFrame h.frames frame.machine → ⊥) → IsFree h mfn → MayApply h (Exchange pfn mfn)
  put : (code first second : ℕ) (bytes old : List ℕ) → code < 2 ^ 32 → first < 2 ^ 32 → second < 2 ^ 32 → maps.get h.parts (record { code = code; key1 = first; key2 = second }) ≡ Some old
      → length old ≡ length bytes → (code ≡ 3 → ⊥) → (code ≡ 17 → ⊥) → (code ≡ 18 → ⊥) → (code ≡ 258 → ⊥) → MayApply h (Put code first second bytes)
  dot : MayApply h Dot

-- the line is one that is logged, and names this frame number: `w`, `t`, `a`, `r` or `x`
pub data NamesPfn (pfn : ℕ) : LineOf → Type 0 where
  write : (at : ℕ) (bytes : List ℕ) → NamesPfn pfn (Write pfn at bytes)
  retype : (number : ℕ) → NamesPfn pfn (Retype pfn number)
  add : (mfn : ℕ) → NamesPfn pfn (Add pfn mfn)
  remove : NamesPfn pfn (Remove pfn)
  exchange : (mfn : ℕ) → NamesPfn pfn (Exchange pfn mfn)

-- one of these lines names this frame number, and may apply when its turn comes
pub data IsNamedIn (pfn : ℕ) : HostOf → List LineOf → Type 0 where
  here : (h : HostOf) (line : LineOf) (lines : List LineOf) → NamesPfn pfn line → MayApply h line → IsNamedIn pfn h (line ∷ lines)
  later : (h : HostOf) (line : LineOf) (lines : List LineOf) → IsNamedIn pfn (after_line h line) lines → IsNamedIn pfn h (line ∷ lines)

-- the frame of a frame number behind a line
abbrev pub frame_after : HostOf → LineOf → ℕ → Option HostFrame
frame_after h line pfn = maps.get (after_line h line).frames pfn
