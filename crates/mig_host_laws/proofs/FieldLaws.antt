-- The laws of fields, as they stand on public functions.
use Rattle.mig_host_laws.proofs.Common.{recursion_from_All, AreBytes, ◌≡◌, ℕ, ◌^◌, ◌<◌, ◌≤◌, List, length, Option, Some, field_at, long_at, is_used, is_used_somewhere, renamed_context, Field, field_row, IsField, field_numbered, said_by, with_frame_in, AreNamesSmall, SaysAnew}
use Rattle.mig_host_laws.proofs.Fields.{are_longs, at_its_place, number_small, numbered, said_back, written_stays, put_twice, others_stay}
use Rattle.mig_host_laws.proofs.NamedAnew.{stream_use, host_use, says_anew}

pub back : (field : Field) (context : List ℕ) (frame : ℕ) → IsField field → AreBytes context → length context ≡ 5168 → frame < 2 ^ 52 → said_by field (with_frame_in field frame context) ≡ frame
back field context frame is bytes size small = said_back field is context (are_longs context bytes size) frame small

pub same : (field : Field) (context : List ℕ) → IsField field → AreBytes context → length context ≡ 5168
    → (field_row field).value (said_by field context) ≡ long_at context (field_row field).place → with_frame_in field (said_by field context) context ≡ context
same field context is bytes size written = written_stays field is context (are_longs context bytes size) written

pub twice : (field : Field) (context : List ℕ) (frame last : ℕ) → IsField field → AreBytes context → length context ≡ 5168 → with_frame_in field last (with_frame_in field frame context) ≡ with_frame_in field last context
twice field context frame last is bytes size = put_twice field is context (are_longs context bytes size) frame last

pub others : (field other : Field) (context : List ℕ) (frame : ℕ) → IsField field → IsField other → (other ≡ field → ⊥) → AreBytes context → length context ≡ 5168 → said_by other (with_frame_in field frame context) ≡ said_by other context
others field other context frame is also ne bytes size = others_stay field is context (are_longs context bytes size) frame other also ne

pub in_stream_anew : (names : ℕ → Option ℕ) (id : ℕ) (context : List ℕ) → AreNamesSmall names → AreBytes context → SaysAnew (λ row. row.in_stream) names id context (renamed_context is_used names id context)
in_stream_anew names id context small bytes = says_anew is_used (λ row. row.in_stream) stream_use names id context small (recursion_from_All (λ b. b < 256) context bytes)

pub in_host_anew : (names : ℕ → Option ℕ) (id : ℕ) (context : List ℕ) → AreNamesSmall names → AreBytes context → SaysAnew (λ row. row.in_host) names id context (renamed_context is_used_somewhere names id context)
in_host_anew names id context small bytes = says_anew is_used_somewhere (λ row. row.in_host) host_use names id context small (recursion_from_All (λ b. b < 256) context bytes)

pub has_number : (field : Field) → IsField field → ((field_row field).number ≤ 18) × (field_numbered (field_row field).number ≡ field) × (field_at (field_row field).place ≡ Some (field_row field).number)
has_number field is = (number_small field is, numbered field is, at_its_place field is)
