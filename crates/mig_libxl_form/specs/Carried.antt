-- Guests that a stream carries.
use Rattle.std.specs.Prelude.{◌≡◌}
use Rattle.mig_libxl_form.specs.Common.{GuestOf, blank, IsWhole}

-- a whole guest in its blank form
pub record IsCarried (g : GuestOf) : Type 0 where
  pub whole : IsWhole g
  pub blank : blank g ≡ g
