-- Judging an image but for what END asks of the whole guest.
use Rattle.std.specs.Prelude.{◌-◌, ℕ, List, [], length}
use Rattle.mig_relay.specs.Common.{Passes, onward, Cause, Place, Record, Opening, before, record_at, StreamRecord, is_ended, ImageOf, image_of, opening_at, Judged, ◌>>=◌, placed, tried}
use Rattle.mig_pvtables.specs.Faults.{fault_of_guest}
use Rattle.mig_restore_form.specs.Mean.{sent}

-- a record behind these records, at its place; nothing is asked of the whole guest
abbrev pub open_next : Opening → List StreamRecord → List ℕ → Judged (Place × Cause) StreamRecord
open_next o records input = placed (Record (length records)) (record_at (before o records) input)

-- records behind these, up to the one that ends the image
unfoldable pub open_records : Opening → List StreamRecord → List ℕ → Judged (Place × Cause) ImageOf
open_records o records input = do
  all ← onward is_ended (open_next o) records input
  Passes (image_of o all.0) all.1

unfoldable pub open_image_at : List ℕ → Judged (Place × Cause) ImageOf
open_image_at input = do
  opening ← opening_at input
  open_records opening.0 [] opening.1

-- what END asks of the whole guest, at the place of the last record
abbrev pub guest_asked : ImageOf × List ℕ → Judged (Place × Cause) ImageOf
guest_asked image = do
  _ ← placed (Record (length image.0.records - 1)) (tried (fault_of_guest (sent image.0.opening.kind image.0.records)) image.1)
  Passes image.0 image.1
