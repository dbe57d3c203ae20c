-- A machine as contracts see it, and what may happen to it while a call runs.
use Rattle.std.specs.Prelude.{◌≡◌, ℕ, ◌≤◌, Bool, true, false, List, length}
use Rattle.mig_guest.specs.Common.{option_map}
use Rattle.std.specs.FinMap as maps
use Rattle.mig_guest.specs.declared.part_key.PartKey.{PartKey}
use Rattle.mig_guest.specs.Hosts as hosts
use Rattle.mig_guest.specs.Hosts.{HostOf}
use Rattle.mig_guest.specs.Pfns.{Pfns}
use Rattle.mig_guest.specs.PartCodes.{is_fixed}
use Rattle.mig_guest.specs.Footprints.{footprint}
use Rattle.mig_guest.specs.History.{History}

pub record MachineState : Type 0 where
  pub host : HostOf
  pub log : Pfns  -- what may have changed since the log was taken last
  pub paused : Bool
  pub honest : Bool
  pub history : History

-- the host is one that an image may have, not too wide to be saved, and the log names numbers below its width alone
pub record IsValidState (s : MachineState) : Type 0 where
  pub host : hosts.IsValid s.host
  pub narrow : s.host.width ≤ hosts.most_saved_width
  pub logged : (p : ℕ) → s.host.width ≤ p → s.log p ≡ false

-- what never changes of a host
pub record IsSameShape (g h : HostOf) : Type 0 where
  pub kind : h.kind ≡ g.kind
  pub width : h.width ≡ g.width
  -- the keys of parts, and their lengths
  pub lengths : (key : PartKey) → option_map (λ (bytes : List ℕ). length bytes) (maps.get h.parts key) ≡ option_map (λ (bytes : List ℕ). length bytes) (maps.get g.parts key)
  pub fixed : (key : PartKey) → is_fixed key.code ≡ true → maps.get h.parts key ≡ maps.get g.parts key

-- The guest may have run from s to t, and `log` is the log at the end.
pub record Ran (s t : MachineState) (log : Pfns) : Type 0 where
  pub shape : IsSameShape s.host t.host
  pub honest : t.honest ≡ s.honest
  -- the log only grows
  pub grown : (p : ℕ) → log p ≡ false → s.log p ≡ false
  -- in an honest machine what isn't in it is as it was
  pub quiet : s.honest ≡ true → (p : ℕ) → log p ≡ false → footprint t.host.frames p ≡ footprint s.host.frames p
  -- a paused machine's host stays
  pub stopped : s.paused ≡ true → t.host ≡ s.host

-- a call that isn't in the history
pub record Stays (s t : MachineState) : Type 0 where
  pub ran : Ran s t t.log
  pub history : t.history ≡ s.history
  pub paused : t.paused ≡ s.paused
