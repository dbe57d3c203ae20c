-- Laws: the body of each record is a part that is judged as a whole.
use Rattle.std.specs.Prelude.{◌≡◌, ◌≢◌, ℕ, List, None}
use Rattle.mig_bytes.specs.Judged.{said_at}
use Rattle.mig_headers.specs.declared.fault.Cause.TheVariants.{Truncated}
use Rattle.mig_headers.specs.RecordTypes.{type_number}
use Rattle.mig_headers.specs.declared.record_type.RecordType.TheVariants.{PageData}
use Rattle.mig_relay_bodies.specs.Common.{Before, fault_of_fields, body_at}
use Rattle.mig_relay_bodies.specs.Bodies.{fault_of_record_body, record_content}

-- behind a head without fault the body of any record but a PAGE_DATA is a part with the causes of the whole body
abbrev pub BodiesAreParts : Type 0
BodiesAreParts = (b : Before) (type len : ℕ) → fault_of_fields b type len ≡ None → type ≢ type_number PageData → (input : List ℕ)
    → body_at b.opening.kind b.top type len input ≡ said_at Truncated (fault_of_record_body type) (record_content type) len input
