-- How frames, their machine frames and parts are seen as a host.
use Rattle.std.specs.Prelude.{◌≡◌, ℕ, ◌<◌, Bool, List, map, Option, Some, is_some, unwrap_or, refl, ◌==◌, find}
use Rattle.std.specs.List.{list_any}
use Rattle.mig_host.specs.Common.{option_map, Kind, PartKey, FrameMap, FrameOf, HostOf, HostFrame, HostFrames, IsValid, host_code, PartMap, machine_limit}
use Rattle.std.specs.Ordering.{nat_cmp}
use Rattle.std.specs.FinMap as maps
use Rattle.std.specs.Coded.{Coded, code_by, coded×, coded_ℕ}

-- machine frames by PFN
abbrev pub MachineMap : Type 0
MachineMap = maps.FinMap nat_cmp ℕ

-- machine frames, and how many more can be put without asking for memory
pub record MachinesAndSpare : Type 0 where
  pub machines : MachineMap
  pub spare : ℕ

abbrev pub machines_code : Coded MachinesAndSpare
machines_code = code_by (MachineMap × ℕ) (coded× (maps.code coded_ℕ coded_ℕ) coded_ℕ) (λ m. (m.machines, m.spare)) (λ p. record { machines = p.0; spare = p.1 }) (λ _. refl)

-- a frame with its machine frame
abbrev pub with_machine : FrameOf → ℕ → HostFrame
with_machine frame machine = record { type = frame.type; machine = machine; page = frame.page }

-- each frame with the machine frame of its PFN
abbrev pub with_machines : FrameMap → (ℕ → ℕ) → HostFrames
with_machines frames machine_of = maps.from_entries (map (λ e. (e.0, with_machine e.1 (machine_of e.0))) (maps.entries frames))

abbrev pub machine_in : MachineMap → ℕ → ℕ
machine_in machines pfn = unwrap_or (maps.get machines pfn) 0

abbrev pub host_seen : Kind → ℕ → FrameMap → MachineMap → PartMap → HostOf
host_seen kind width frames machines parts = record { kind = kind; width = width; frames = with_machines frames (machine_in machines); parts = parts }

-- a machine frame for each frame, and for no other number
abbrev pub AreMatched : FrameMap → MachineMap → Type 0
AreMatched frames machines = (pfn : ℕ) → is_some (maps.get machines pfn) ≡ is_some (maps.get frames pfn)

-- what the map says of a PFN, back says of its machine frame, and the other way round
abbrev pub AreInverse : MachineMap → (ℕ → Option ℕ) → Type 0
AreInverse there back = ((p m : ℕ) → maps.get there p ≡ Some m → back m ≡ Some p) × ((m p : ℕ) → back m ≡ Some p → maps.get there p ≡ Some m)

-- the PFN that has a machine frame
abbrev pub pfn_of_machine_in : MachineMap → ℕ → Option ℕ
pfn_of_machine_in machines machine = option_map (λ e. e.0) (find (λ e. e.1 == machine) (maps.entries machines))

-- no machine frame reaches the limit
abbrev pub AreBelowLimit : MachineMap → Type 0
AreBelowLimit machines = (pfn machine : ℕ) → maps.get machines pfn ≡ Some machine → machine < machine_limit

-- each frame has its machine frame, and the host that is seen is valid
pub record IsMade (kind : Kind) (width : ℕ) (frames : FrameMap) (machines : MachineMap) (parts : PartMap) : Type 0 where
  pub matched : AreMatched frames machines
  pub valid : IsValid (host_seen kind width frames machines parts)

-- ---- a host with a frame or a part more

-- some frame of the host has this machine frame
abbrev pub has_machine : HostOf → ℕ → Bool
has_machine h machine = list_any (λ e. e.1.machine == machine) (maps.entries h.frames)

-- with this frame, and with this part
abbrev pub put_frame : HostOf → ℕ → HostFrame → HostOf
put_frame h pfn frame = record h { frames = maps.insert h.frames pfn frame }

abbrev pub put_part_in : HostOf → PartKey → List ℕ → HostOf
put_part_in h key bytes = record h { parts = maps.insert h.parts key bytes }

-- ---- a host and its room

-- a host, and how many more frames can be put without asking for memory
pub record HostAndSpare : Type 0 where
  pub host : HostOf
  pub spare : ℕ

abbrev pub host_and_spare_code : Coded HostAndSpare
host_and_spare_code = code_by (HostOf × ℕ) (coded× host_code coded_ℕ) (λ h. (h.host, h.spare)) (λ p. record { host = p.0; spare = p.1 }) (λ _. refl)
