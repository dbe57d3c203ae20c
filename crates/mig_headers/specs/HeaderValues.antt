-- What the bytes of a header read as.
use Rattle.std.specs.Prelude.{ℕ, List, Result}
use Rattle.mig_bytes.specs.Fields.{le32, be32}
use Rattle.mig_headers.specs.declared.fault.Cause.{Cause}
use Rattle.mig_headers.specs.declared.header.ImageHeader.{ImageHeader}
use Rattle.mig_headers.specs.declared.header.DomainHeader.{DomainHeader}
use Rattle.mig_headers.specs.declared.header.LibxlHeader.{LibxlHeader}
use Rattle.mig_headers.specs.Headers.{fault_of_image, fault_of_domain, fault_of_libxl, is_from_legacy, unless_faulty, kind_of_number}

-- the header in the 16 bytes behind a marker, or its first fault
abbrev pub image_header_in : List ℕ → Result ImageHeader Cause
image_header_in rest = unless_faulty (fault_of_image rest) (record { version = be32 rest 4 })

-- the domain header in 16 bytes, or its first fault
abbrev pub domain_header_in : List ℕ → Result DomainHeader Cause
domain_header_in bytes =
    unless_faulty (fault_of_domain bytes) (record { kind = kind_of_number (le32 bytes 0); major = le32 bytes 8; minor = le32 bytes 12 })

-- the libxl header in the 8 bytes behind its ident, or its first fault
abbrev pub libxl_header_in : List ℕ → Result LibxlHeader Cause
libxl_header_in rest = unless_faulty (fault_of_libxl rest) (record { legacy = is_from_legacy (be32 rest 4) })
