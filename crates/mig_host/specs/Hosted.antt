-- The host that a restored guest becomes: machine frames are counted up from a base.
use Rattle.std.specs.Prelude.{ℕ, ◌+◌, ◌<◌, ◌⊎◌, ◌≡◌, List, [], ◌∷◌, length, max, filter, nat_lt, Option}
use Rattle.mig_host.specs.Common.{option_map, Kind, Pv, Hvm, FrameMap, FrameOf, GuestOf, HostFrame, HostOf, IsWhole, machine_limit}
use Rattle.std.specs.FinMap as maps
use Rattle.mig_guest.specs.Formed.{width_of}
use Rattle.mig_host_view.specs.Localised.{localised}
use Rattle.mig_host.specs.HostView.{with_machine, with_machines}

-- how many of the frames have a smaller PFN
abbrev pub rank_in : FrameMap → ℕ → ℕ
rank_in frames pfn = length (filter (λ e. nat_lt e.0 pfn) (maps.entries frames))

-- the machine frame of a PFN that has a frame: of rank i it is base + i
abbrev pub mfn_in : FrameMap → ℕ → ℕ → Option ℕ
mfn_in frames base pfn = option_map (λ _. base + rank_in frames pfn) (maps.get frames pfn)

-- one more than the greatest PFN, or 0 where there is no frame
abbrev pub least_width : {X : Type 0} → List (ℕ × X) → ℕ
least_width [] = 0
least_width (e ∷ es) = max (e.0 + 1) (least_width es)

-- the width of the host that a guest of this kind becomes
abbrev pub hosted_width : Kind → GuestOf → ℕ
hosted_width Pv g = width_of g
hosted_width Hvm g = least_width (maps.entries g.frames)

-- the frame of rank i has machine frame base + i; tables, P2M frames and contexts of vCPUs hold machine frames
abbrev pub hosted : GuestOf → ℕ → HostOf
hosted g base = record {
  kind = g.kind;
  width = hosted_width g.kind g;
  frames = with_machines (localised (mfn_in g.frames base) g).frames (λ pfn. base + rank_in g.frames pfn);
  parts = (localised (mfn_in g.frames base) g).parts;
}

-- machine frames from the base on don't lie from 1 to 2 ^ 40 - 1
abbrev pub IsBaseOutside : GuestOf → ℕ → Type 0
IsBaseOutside g base = (base ≡ 0) ⊎ (machine_limit < base + length (maps.entries g.frames))

-- what is asked of a guest and a base: the guest is whole, and the machine frames from the base on lie in that range
pub record CanBeHosted (base : ℕ) (g : GuestOf) : Type 0 where
  pub whole : IsWhole g
  pub inside : IsBaseOutside g base → ⊥

-- frames in their order, the first with this machine frame, and each later one with the next
abbrev pub with_machines_from : ℕ → List (ℕ × FrameOf) → List (ℕ × HostFrame)
with_machines_from machine [] = []
with_machines_from machine (e ∷ es) = (e.0, with_machine e.1 machine) ∷ with_machines_from (machine + 1) es
