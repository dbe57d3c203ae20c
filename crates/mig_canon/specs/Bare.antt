-- Guests that a bare image carries.
use Rattle.std.specs.Prelude.{◌≡◌}
use Rattle.mig_canon.specs.Common.{GuestOf, HasNoEmulators, blank, IsWhole}

-- a whole guest in its blank form without an emulator's parts
pub record IsBare (g : GuestOf) : Type 0 where
  pub whole : IsWhole g
  pub blank : blank g ≡ g
  pub plain : HasNoEmulators g.parts
