-- The number of a kind names it again.
use Rattle.std.proofs.Common.{◌≡◌, refl}
use Rattle.mig_headers.specs.Headers.{kind_number, kind_of_number}
use Rattle.mig_headers.proofs.Common.{Kind, Pv, Hvm}

pub kind_back : (kind : Kind) → kind_of_number (kind_number kind) ≡ kind
kind_back Pv = refl
kind_back Hvm = refl
