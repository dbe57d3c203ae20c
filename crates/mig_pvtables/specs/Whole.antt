-- Whole guests: those that a stream can carry.
use Rattle.std.specs.Prelude.{◌≡◌, None}
use Rattle.mig_pvtables.specs.Common.{GuestOf, IsFormed, HasNoEmulators}
use Rattle.mig_pvtables.specs.Blank.{blank, IsOfBytes}
use Rattle.mig_pvtables.specs.Faults.{fault_of_guest}

pub record IsWhole (g : GuestOf) : Type 0 where
  pub formed : IsFormed g
  pub faultless : fault_of_guest g ≡ None

-- a guest as a stream tells it: whole, in its blank form, and of bytes
pub record IsStreamed (g : GuestOf) : Type 0 where
  pub whole : IsWhole g
  pub blank : blank g ≡ g
  pub bytes : IsOfBytes g

-- and as an image alone tells it: without emulators, which a libxl stream tells beside the image
pub record IsStreamedBare (g : GuestOf) : Type 0 where
  pub whole : IsWhole g
  pub blank : blank g ≡ g
  pub bytes : IsOfBytes g
  pub plain : HasNoEmulators g.parts
