-- The headers without a fault are those that are spelled, and what is written of a header is spelled so.
use Rattle.std.proofs.Common.{◌≡◌, ◌↔◌, ◌⊎◌, ℕ, ◌+◌, ◌%◌, ◌^◌, ◌<◌, List, [], ◌∷◌, ◌++◌, length, drop, take, Option, Some, None, Result, Ok, Err, not, ◌&&◌, ◌==◌, refl, sym, ap, ◌∙◌, inl, inr, arith, length-append, subst}
use Rattle.mig_headers.proofs.Common.{eqb-true, Kind, Pv, Hvm, Cause, first_fault}
use Rattle.std.proofs.Math.Seq.{drop-append-add}
use Rattle.byteorder.specs.Endian.{little_bytes, big_bytes}
use Rattle.byteorder.specs.Numbers.{big_from-append, little_number-reads_back}
use Rattle.mig_bytes.specs.Fields.{le16, le32, be16, be32, be64}
use Rattle.mig_headers.specs.declared.fault.Cause.TheVariants.{NotStream, BadId, BadVersion, BigEndian, BadKind, BadPageShift}
use Rattle.mig_headers.specs.declared.header.ImageHeader.{ImageHeader}
use Rattle.mig_headers.specs.declared.header.DomainHeader.{DomainHeader}
use Rattle.mig_headers.specs.Headers.{marker, image_id, page_shift, kind_number, kind_of_number, unless_faulty, behind_marker, image_header_of, domain_header_of, IsImageHeader, IsDomainHeader}
use Rattle.mig_headers.specs.HeaderValues.{image_header_in, domain_header_in}
use Rattle.mig_headers.specs.HeaderLaws.{ImageHeaderIsSpelled, DomainHeaderIsSpelled, ImageHeadersAreReadBack, DomainHeadersAreReadBack}

marker_stands : (n : ℕ) → first_fault ((not (n == marker), NotStream) ∷ []) ≡ None → n ≡ marker
marker_stands n h = grind (arith, eqb-true)

marker_passes : (n : ℕ) → n ≡ marker → first_fault ((not (n == marker), NotStream) ∷ []) ≡ None
marker_passes n h = rw h refl

-- a header that is read has no fault
pub unless_ok : {H : Type 0} (f : Option Cause) (h x : H) → unless_faulty f h ≡ Ok x → (f ≡ None) × (h ≡ x)
unless_ok None h x e = (refl, cc)
unless_ok {H} (Some c) h x e = let no : ◌≡◌ {A = Result H Cause} (Err c) (Ok x) = e in (cc, cc)

-- the fields of an image header, and of a domain header, that is read
image_of : (id v o : ℕ) → Result ImageHeader Cause
image_of id v o =
    unless_faulty (first_fault ((not (id == image_id), BadId) ∷ (not (v == 2) && not (v == 3), BadVersion v) ∷ (o % 2 == 1, BigEndian) ∷ [])) (record { version = v })

domain_of : (t s major minor : ℕ) → Result DomainHeader Cause
domain_of t s major minor =
    unless_faulty (first_fault ((not (t == 1) && not (t == 2), BadKind t) ∷ (not (s == page_shift), BadPageShift s) ∷ [])) (record { kind = kind_of_number t; major = major; minor = minor })

image_stands : (id v o version : ℕ) → image_of id v o ≡ Ok (record { version = version })
    → (id ≡ image_id) × (v ≡ version) × ((version ≡ 2) ⊎ (version ≡ 3)) × (o % 2 ≡ 0)
unfolding image_of
image_stands id v o version h = grind (arith, eqb-true)

image_passes : (id v o version : ℕ) → id ≡ image_id → v ≡ version → (version ≡ 2) ⊎ (version ≡ 3) → o % 2 ≡ 0
    → image_of id v o ≡ Ok (record { version = version })
unfolding image_of
image_passes id v o version a b (inl k) d = rw (a, b, k, d) refl
image_passes id v o version a b (inr k) d = rw (a, b, k, d) refl

domain_stands : (t s major minor : ℕ) (kind : Kind) (a b : ℕ) → domain_of t s major minor ≡ Ok (record { kind = kind; major = a; minor = b })
    → (t ≡ kind_number kind) × (s ≡ page_shift) × (major ≡ a) × (minor ≡ b)
unfolding domain_of
domain_stands t s major minor Pv a b h = grind (arith, eqb-true)
domain_stands t s major minor Hvm a b h = grind (arith, eqb-true)

domain_passes : (t s major minor : ℕ) (kind : Kind) (a b : ℕ) → t ≡ kind_number kind → s ≡ page_shift → major ≡ a → minor ≡ b
    → domain_of t s major minor ≡ Ok (record { kind = kind; major = a; minor = b })
unfolding domain_of
domain_passes t s major minor Pv a b e f g h = rw (e, f, g, h) refl
domain_passes t s major minor Hvm a b e f g h = rw (e, f, g, h) refl

-- what stands behind the first 8 bytes
behind : (first rest : List ℕ) (n k : ℕ) → length first ≡ 8 → k ≡ 8 + n → drop k (first ++ rest) ≡ drop n rest
behind first rest n k size is = ap (λ m. drop m (first ++ rest)) (let e : k ≡ length first + n = omega arith in e) ∙ drop-append-add first rest n

pub marker_of : (first rest : List ℕ) → length first ≡ 8 → be64 (first ++ rest) 0 ≡ be64 first 0
unfolding be64
marker_of first rest size = big_from-append 8 first rest (omega arith)

pub word_of : (first rest : List ℕ) (n k : ℕ) → length first ≡ 8 → k ≡ 8 + n → be32 (first ++ rest) k ≡ be32 rest n
unfolding be32
word_of first rest n k size is = rw (behind first rest n k size is) refl

half_of : (first rest : List ℕ) (n k : ℕ) → length first ≡ 8 → k ≡ 8 + n → be16 (first ++ rest) k ≡ be16 rest n
unfolding be16
half_of first rest n k size is = rw (behind first rest n k size is) refl

pub image_is_spelled : ImageHeaderIsSpelled
unfolding image_of
image_is_spelled first rest version size more = (
  (λ (m, r).
      let s = image_stands (be32 rest 0) (be32 rest 4) (be16 rest 8) version r in
      record {
        size = omega (arith, length-append first rest);
        all_ones = marker_of first rest size ∙ marker_stands (be64 first 0) m;
        id = word_of first rest 0 8 size refl ∙ s.0;
        names_version = word_of first rest 4 12 size refl ∙ s.1;
        known_version = s.2;
        little_endian = ap (λ n. n % 2) (half_of first rest 8 16 size refl) ∙ s.3;
      }),
  (λ s. (
    marker_passes (be64 first 0) (sym (marker_of first rest size) ∙ s.all_ones),
    image_passes (be32 rest 0) (be32 rest 4) (be16 rest 8) version
        (sym (word_of first rest 0 8 size refl) ∙ s.id)
        (sym (word_of first rest 4 12 size refl) ∙ s.names_version)
        s.known_version
        (ap (λ n. n % 2) (sym (half_of first rest 8 16 size refl)) ∙ s.little_endian),
  )),
)

pub domain_is_spelled : DomainHeaderIsSpelled
unfolding domain_of
domain_is_spelled bytes kind major minor size = (
  (λ r.
      let s = domain_stands (le32 bytes 0) (le16 bytes 4) (le32 bytes 8) (le32 bytes 12) kind major minor r in
      record { size = size; names_kind = s.0; shift = s.1; names_major = s.2; names_minor = s.3 }),
  (λ s. domain_passes (le32 bytes 0) (le16 bytes 4) (le32 bytes 8) (le32 bytes 12) kind major minor s.names_kind s.shift s.names_major s.names_minor),
)

-- the bytes that are written of an image header
written_image : (version : ℕ) → (version ≡ 2) ⊎ (version ≡ 3) → IsImageHeader (image_header_of version) version
unfolding image_header_of be64 be32 be16
written_image version (inl k) = rw k (record { size = refl; all_ones = refl; id = refl; names_version = refl; known_version = inl refl; little_endian = refl })
written_image version (inr k) = rw k (record { size = refl; all_ones = refl; id = refl; names_version = refl; known_version = inr refl; little_endian = refl })

image_parts : (version : ℕ) → (length (take 8 (image_header_of version)) ≡ 8) × (length (drop 8 (image_header_of version)) ≡ 16) × (take 8 (image_header_of version) ++ drop 8 (image_header_of version) ≡ image_header_of version)
unfolding image_header_of
image_parts version = (refl, refl, refl)

pub image_is_read_back : ImageHeadersAreReadBack
image_is_read_back version known =
    let spelled = written_image version known in
    let parts = image_parts version in
    let read = (image_is_spelled (take 8 (image_header_of version)) (drop 8 (image_header_of version)) version parts.0 parts.1).1
    (subst (λ bytes. IsImageHeader bytes version) (sym parts.2) spelled) in
    record { spelled = spelled; marker = read.0; rest = read.1 }

written_domain : (kind : Kind) (major minor : ℕ) → major < 2 ^ 32 → minor < 2 ^ 32 → IsDomainHeader (domain_header_of kind major minor) kind major minor
unfolding domain_header_of le32 le16
written_domain Pv major minor a b = record { size = refl; names_kind = refl; shift = refl; names_major = little_number-reads_back 4 major (little_bytes 4 minor) a; names_minor = little_number-reads_back 4 minor [] b }
written_domain Hvm major minor a b = record { size = refl; names_kind = refl; shift = refl; names_major = little_number-reads_back 4 major (little_bytes 4 minor) a; names_minor = little_number-reads_back 4 minor [] b }

domain_size : (kind : Kind) (major minor : ℕ) → length (domain_header_of kind major minor) ≡ 16
unfolding domain_header_of
domain_size Pv major minor = refl
domain_size Hvm major minor = refl

pub domain_is_read_back : DomainHeadersAreReadBack
domain_is_read_back kind major minor a b =
    let spelled = written_domain kind major minor a b in
    record { spelled = spelled; value = (domain_is_spelled (domain_header_of kind major minor) kind major minor (domain_size kind major minor)).1 spelled }

-- what the 16 bytes behind a marker are read as, and what they spell behind it
pub image_decoded : (rest : List ℕ) (result : Result ImageHeader Cause) → length rest ≡ 16 → result ≡ image_header_in rest
    → (header : ImageHeader) → (result ≡ Ok header) ↔ IsImageHeader (behind_marker rest) header.version
unfolding behind_marker
image_decoded rest result size is header =
    let law = image_is_spelled (big_bytes 8 marker) rest header.version refl size in
    let ones : be64 (big_bytes 8 marker) 0 ≡ marker = unfold be64 in refl in
    ((λ r. law.0 (marker_passes (be64 (big_bytes 8 marker) 0) ones, sym is ∙ r)), (λ s. is ∙ (law.1 s).1))

pub domain_decoded : (bytes : List ℕ) (result : Result DomainHeader Cause) → length bytes ≡ 16 → result ≡ domain_header_in bytes
    → (header : DomainHeader) → (result ≡ Ok header) ↔ IsDomainHeader bytes header.kind header.major header.minor
domain_decoded bytes result size is header =
    let law = domain_is_spelled bytes header.kind header.major header.minor size in
    ((λ r. law.0 (sym is ∙ r)), (λ s. is ∙ law.1 s))
