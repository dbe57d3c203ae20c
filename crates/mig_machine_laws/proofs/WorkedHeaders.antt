-- The headers of a canonical stream, computed.
use Rattle.std.proofs.Common.{◌≡◌, refl}
use Rattle.mig_canon.specs.Canon.{headers}
use Rattle.mig_headers.specs.Headers.{image_header_of, domain_header_of}
use Rattle.mig_headers.specs.declared.kind.Kind.TheVariants.{Hvm}
use Rattle.mig_machine_laws.specs.WorkedHeaders.{hvm_headers}

pub hvm : headers Hvm ≡ hvm_headers
unfolding image_header_of domain_header_of
hvm = refl
