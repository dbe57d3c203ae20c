-- What is wrong with the whole body of a record, as a reader of the whole body judges it.
use Rattle.std.specs.Prelude.{ℕ, ◌==◌, List, drop, Option, Some, None, if◌then◌else◌}
use Rattle.mig_relay_bodies.specs.Common.{option_or, fault_of_pv_info, fault_of_p2m, fault_of_body, parts_of_body, is_optional, type_of_number, Cause, X86PvInfo, X86PvP2mFrames, pairs_fault, code_of_type, lists_of, fault_of_context}
use Rattle.mig_guest.specs.declared.part_code.PartCode.{PartCode}
use Rattle.mig_headers.specs.declared.record_type.RecordType.{RecordType}
use Rattle.mig_libxl_form.specs.LibxlTypes.{emulator_pairs_type, emulator_context_type}
use Rattle.mig_restore_form.specs.Record.{Content}
use Rattle.mig_restore_form.specs.Record.Content.{Nothing, Sets}

-- ---- a record of an image, but PAGE_DATA

-- of the parts of a code, or none
abbrev pub fault_of_coded : Option PartCode → List ℕ → Option Cause
fault_of_coded None body = None
fault_of_coded (Some code) body = fault_of_body code body

-- of a record of a known type; of any other type nothing is asked
abbrev pub fault_of_typed : Option RecordType → List ℕ → Option Cause
fault_of_typed None body = None
fault_of_typed (Some X86PvInfo) body = fault_of_pv_info body
fault_of_typed (Some X86PvP2mFrames) body = fault_of_p2m body
fault_of_typed (Some this) body = fault_of_coded (code_of_type this) body

-- an optional record may have any body
abbrev pub fault_of_record_body : ℕ → List ℕ → Option Cause
fault_of_record_body type body = if is_optional type then None else fault_of_typed (type_of_number type) body

-- what such bodies say
abbrev pub coded_content : Option PartCode → List ℕ → Content
coded_content None body = Nothing
coded_content (Some code) body = Sets code (parts_of_body code body)

abbrev pub typed_content : Option RecordType → List ℕ → Content
typed_content None body = Nothing
typed_content (Some X86PvInfo) body = Nothing
typed_content (Some X86PvP2mFrames) body = lists_of body
typed_content (Some this) body = coded_content (code_of_type this) body

-- what the body of a record of this type says
abbrev pub record_content : ℕ → List ℕ → Content
record_content type body = if is_optional type then Nothing else typed_content (type_of_number type) body

-- ---- a record of a libxl stream, but LIBXC_CONTEXT

-- an emulator's pairs: their own faults, and then its id and its index. How many bytes they spell isn't asked.
abbrev pub fault_of_pair_body : List ℕ → Option Cause
fault_of_pair_body body = option_or (pairs_fault (drop 8 body)) (fault_of_context body)

-- of any other record nothing is asked
abbrev pub fault_of_libxl_body : ℕ → List ℕ → Option Cause
fault_of_libxl_body type body = if type == emulator_pairs_type then fault_of_pair_body body else if type == emulator_context_type then fault_of_context body else None
