-- A libxl stream behind its ident, and behind its header.
use Rattle.mig_libxl_form.proofs.Common.{◌≡◌, ℕ, true, List, ◌++◌, length, nat_le, nat_eq, refl, arith, length-append, le-leb, drop_at, Judged, ◌>>=◌, Passes, Cause, Place, libxl_records_at, Wrapped, marker_of, libxl_ident, StreamOf}
use Rattle.mig_bytes.specs.Fields.{be64}
use Rattle.mig_libxl_form.specs.Stream.{wrapped_at, stream_at}

abbrev pub behind_header : List ℕ × List ℕ → Judged (Place × Cause) StreamOf
behind_header header = libxl_records_at header.1 >>= λ records. Passes (Wrapped records.0) records.1

pub form_wrapped : (first : List ℕ) → length first ≡ 8 → nat_eq (be64 first 0) libxl_ident ≡ true → (rest : List ℕ) → stream_at (first ++ rest) ≡ wrapped_at rest
unfolding stream_at
form_wrapped first size ident rest =
    let long : nat_le 8 (length (first ++ rest)) ≡ true = le-leb 8 _ (omega (arith, size, length-append first rest)) in
    let same = marker_of first rest size in
    rw (long, same, ident, drop_at first rest 8 size) refl
