-- The libxl headers without a fault are those that are spelled, and what is written of a header is spelled so.
use Rattle.std.proofs.Common.{◌≡◌, ◌↔◌, ℕ, ◌%◌, List, [], ◌∷◌, ◌++◌, length, drop, take, Bool, true, false, Result, Ok, not, ◌==◌, refl, sym, ap, ◌∙◌, arith, length-append, subst}
use Rattle.mig_headers.proofs.Common.{eqb-true, Cause, first_fault}
use Rattle.byteorder.specs.Endian.{big_bytes}
use Rattle.mig_bytes.specs.Fields.{be32, be64}
use Rattle.mig_headers.specs.declared.fault.Cause.TheVariants.{BadVersion, BigEndian}
use Rattle.mig_headers.specs.declared.header.LibxlHeader.{LibxlHeader}
use Rattle.mig_headers.specs.Headers.{libxl_ident, is_from_legacy, unless_faulty, behind_ident, libxl_header_of, IsLibxlHeader}
use Rattle.mig_headers.specs.HeaderValues.{libxl_header_in}
use Rattle.mig_headers.specs.HeaderLaws.{LibxlHeaderIsSpelled, LibxlHeadersAreReadBack}
use Rattle.mig_headers.proofs.HeaderLaws.{marker_of, word_of}

-- the fields of a libxl header that is read
libxl_of : (v o : ℕ) → Result LibxlHeader Cause
libxl_of v o = unless_faulty (first_fault ((not (v == 2), BadVersion v) ∷ (o % 2 == 1, BigEndian) ∷ [])) (record { legacy = is_from_legacy o })

libxl_stands : (v o : ℕ) (legacy : Bool) → libxl_of v o ≡ Ok (record { legacy = legacy }) → (v ≡ 2) × (o % 2 ≡ 0) × (is_from_legacy o ≡ legacy)
unfolding libxl_of
libxl_stands v o legacy h = grind (arith, eqb-true)

libxl_passes : (v o : ℕ) (legacy : Bool) → v ≡ 2 → o % 2 ≡ 0 → is_from_legacy o ≡ legacy → libxl_of v o ≡ Ok (record { legacy = legacy })
unfolding libxl_of
libxl_passes v o legacy a b c = rw (a, b, c) refl

pub libxl_is_spelled : LibxlHeaderIsSpelled
unfolding libxl_of
libxl_is_spelled first rest legacy size more = (
  (λ (m, r).
      let s = libxl_stands (be32 rest 0) (be32 rest 4) legacy r in
      record {
        size = omega (arith, length-append first rest);
        ident = marker_of first rest size ∙ m;
        version = word_of first rest 0 8 size refl ∙ s.0;
        little_endian = ap (λ n. n % 2) (word_of first rest 4 12 size refl) ∙ s.1;
        from_legacy = ap (λ n. is_from_legacy n) (word_of first rest 4 12 size refl) ∙ s.2;
      }),
  (λ s. (
    sym (marker_of first rest size) ∙ s.ident,
    libxl_passes (be32 rest 0) (be32 rest 4) legacy
        (sym (word_of first rest 0 8 size refl) ∙ s.version)
        (ap (λ n. n % 2) (sym (word_of first rest 4 12 size refl)) ∙ s.little_endian)
        (ap (λ n. is_from_legacy n) (sym (word_of first rest 4 12 size refl)) ∙ s.from_legacy),
  )),
)

-- the bytes that are written of a libxl header
written_libxl : (legacy : Bool) → IsLibxlHeader (libxl_header_of legacy) legacy
unfolding libxl_header_of be64 be32
written_libxl true = record { size = refl; ident = refl; version = refl; little_endian = refl; from_legacy = refl }
written_libxl false = record { size = refl; ident = refl; version = refl; little_endian = refl; from_legacy = refl }

libxl_parts : (legacy : Bool) → (length (take 8 (libxl_header_of legacy)) ≡ 8) × (length (drop 8 (libxl_header_of legacy)) ≡ 8) × (take 8 (libxl_header_of legacy) ++ drop 8 (libxl_header_of legacy) ≡ libxl_header_of legacy)
unfolding libxl_header_of
libxl_parts true = (refl, refl, refl)
libxl_parts false = (refl, refl, refl)

pub libxl_is_read_back : LibxlHeadersAreReadBack
libxl_is_read_back legacy =
    let spelled = written_libxl legacy in
    let parts = libxl_parts legacy in
    let read = (libxl_is_spelled (take 8 (libxl_header_of legacy)) (drop 8 (libxl_header_of legacy)) legacy parts.0 parts.1).1
    (subst (λ bytes. IsLibxlHeader bytes legacy) (sym parts.2) spelled) in
    record { spelled = spelled; ident = read.0; rest = read.1 }

-- what the 8 bytes behind an ident are read as, and what they spell behind it
pub decoded : (rest : List ℕ) (result : Result LibxlHeader Cause) → length rest ≡ 8 → result ≡ libxl_header_in rest
    → (header : LibxlHeader) → (result ≡ Ok header) ↔ IsLibxlHeader (behind_ident rest) header.legacy
unfolding behind_ident
decoded rest result size is header =
    let law = libxl_is_spelled (big_bytes 8 libxl_ident) rest header.legacy refl size in
    let ident : be64 (big_bytes 8 libxl_ident) 0 ≡ libxl_ident = unfold be64 in refl in
    ((λ r. law.0 (ident, sym is ∙ r)), (λ s. is ∙ (law.1 s).1))
