-- Laws of the headers.
use Rattle.std.specs.Prelude.{◌≡◌, ◌⊎◌, ◌↔◌, ◌^◌, ◌<◌, ℕ, List, ◌++◌, length, take, drop, Bool, None, Ok}
use Rattle.mig_bytes.specs.Fields.{be64}
use Rattle.mig_headers.specs.declared.kind.Kind.{Kind}
use Rattle.mig_headers.specs.Headers.{fault_of_marker, libxl_ident, image_header_of, domain_header_of, libxl_header_of, IsImageHeader, IsDomainHeader, IsLibxlHeader}
use Rattle.mig_headers.specs.HeaderValues.{image_header_in, domain_header_in, libxl_header_in}

-- both parts of an image header are without a fault exactly where its 24 bytes spell it
abbrev pub ImageHeaderIsSpelled : Type 0
ImageHeaderIsSpelled =
    (first rest : List ℕ) (version : ℕ) → length first ≡ 8 → length rest ≡ 16
    → ((fault_of_marker first ≡ None) × (image_header_in rest ≡ Ok (record { version = version }))) ↔ IsImageHeader (first ++ rest) version

-- 16 bytes read as a domain header exactly where they spell it
abbrev pub DomainHeaderIsSpelled : Type 0
DomainHeaderIsSpelled =
    (bytes : List ℕ) (kind : Kind) (major minor : ℕ) → length bytes ≡ 16
    → (domain_header_in bytes ≡ Ok (record { kind = kind; major = major; minor = minor })) ↔ IsDomainHeader bytes kind major minor

-- what is written of an image header spells it, and both parts are read again
pub record ImageHeaderIsReadBack (version : ℕ) : Type 0 where
  pub spelled : IsImageHeader (image_header_of version) version
  pub marker : fault_of_marker (take 8 (image_header_of version)) ≡ None
  pub rest : image_header_in (drop 8 (image_header_of version)) ≡ Ok (record { version = version })

abbrev pub ImageHeadersAreReadBack : Type 0
ImageHeadersAreReadBack = (version : ℕ) → (version ≡ 2) ⊎ (version ≡ 3) → ImageHeaderIsReadBack version

-- what is written of a domain header spells it, and is read again
pub record DomainHeaderIsReadBack (kind : Kind) (major minor : ℕ) : Type 0 where
  pub spelled : IsDomainHeader (domain_header_of kind major minor) kind major minor
  pub value : domain_header_in (domain_header_of kind major minor) ≡ Ok (record { kind = kind; major = major; minor = minor })

abbrev pub DomainHeadersAreReadBack : Type 0
DomainHeadersAreReadBack = (kind : Kind) (major minor : ℕ) → major < 2 ^ 32 → minor < 2 ^ 32 → DomainHeaderIsReadBack kind major minor

-- the two parts of a libxl header are its ident, and read as a header, exactly where its 16 bytes spell it
abbrev pub LibxlHeaderIsSpelled : Type 0
LibxlHeaderIsSpelled =
    (first rest : List ℕ) (legacy : Bool) → length first ≡ 8 → length rest ≡ 8
    → ((be64 first 0 ≡ libxl_ident) × (libxl_header_in rest ≡ Ok (record { legacy = legacy }))) ↔ IsLibxlHeader (first ++ rest) legacy

-- what is written of a libxl header spells it, and both parts are read again
pub record LibxlHeaderIsReadBack (legacy : Bool) : Type 0 where
  pub spelled : IsLibxlHeader (libxl_header_of legacy) legacy
  pub ident : be64 (take 8 (libxl_header_of legacy)) 0 ≡ libxl_ident
  pub rest : libxl_header_in (drop 8 (libxl_header_of legacy)) ≡ Ok (record { legacy = legacy })

abbrev pub LibxlHeadersAreReadBack : Type 0
LibxlHeadersAreReadBack = (legacy : Bool) → LibxlHeaderIsReadBack legacy
