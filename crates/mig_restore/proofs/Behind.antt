-- What stands behind a right marker.
use Rattle.mig_restore.proofs.Common.{◌≡◌, ℕ, List, ◌++◌, refl, Judged, ◌>>=◌, Passes, Truncated, Cause, Place, Opening, ImageOf, records_at, marker_at, part_whole}
use Rattle.byteorder.specs.Endian.{big_bytes}
use Rattle.mig_bytes.specs.Fields.{be64}
use Rattle.mig_headers.specs.Headers.{marker, behind_marker}
use Rattle.mig_restore_form.specs.Stream.{image_at, image_behind, opening_at, opening_behind}

abbrev pub behind_opening : Opening × List ℕ → Judged (Place × Cause) ImageOf
behind_opening opening = records_at opening.0 opening.1

marker_passes : (i : List ℕ) → marker_at (big_bytes 8 marker ++ i) ≡ Passes (big_bytes 8 marker) i
unfolding be64
marker_passes i = rw (part_whole Truncated 8 (big_bytes 8 marker) i refl) refl

-- an image is its marker, its headers and its records
pub behind_is : (i : List ℕ) → image_behind i ≡ opening_behind i >>= behind_opening
unfolding image_behind image_at opening_at behind_marker
behind_is i = rw (marker_passes i) refl
