-- Places of refusals, names of records, and exit codes.
use Rattle.std.specs.Prelude.{ℕ, List, [], ◌∷◌, codes, Bool, true, false}
use Rattle.mig_report_laws.specs.Common.{shown_name}
use Rattle.mig_headers.specs.declared.fault.Place.TheVariants as places
use Rattle.mig_headers.specs.declared.fault.Cause.TheVariants as stream
use Rattle.mig_headers.specs.declared.image_fault.ImageCause.TheVariants as image
use Rattle.mig_headers.specs.declared.image_fault.ImagePlace.TheVariants as image_places
use Rattle.mig_headers.specs.declared.legacy_fault.LegacyCause.TheVariants as legacy
use Rattle.mig_headers.specs.declared.legacy_fault.LegacyPlace.TheVariants as legacy_places
use Rattle.mig_headers.specs.declared.unsound.Unsound.TheVariants as unsound
use Rattle.mig_tool_report.specs.declared.outcome.Refusal.{Refusal}
use Rattle.mig_tool_report.specs.declared.outcome.Refusal.TheVariants as refusals
use Rattle.mig_tool_report.specs.declared.outcome.WalkEnd.TheVariants as walk
use Rattle.mig_tool_report.specs.declared.status.Status.{Status}
use Rattle.mig_tool_report.specs.declared.status.Status.TheVariants as statuses

-- where a refusal is
abbrev pub place_texts : List (Refusal × List ℕ)
place_texts =
    (refusals.Stream places.ImageHeader stream.BadId, codes "ImageHeader") ∷ (refusals.Stream places.DomainHeader stream.Truncated, codes "DomainHeader")
    ∷ (refusals.Stream (places.Record 7) stream.NoPages, codes "Record 7") ∷ (refusals.Stream places.LibxlHeader stream.BigEndian, codes "LibxlHeader")
    ∷ (refusals.Stream (places.LibxlRecord 2) stream.ContextCount, codes "LibxlRecord 2") ∷ (refusals.Legacy legacy_places.Start legacy.Modern, codes "Start")
    ∷ (refusals.Legacy (legacy_places.Chunk 8) legacy.Tmem, codes "Chunk 8") ∷ (refusals.Legacy legacy_places.Tail legacy.Truncated, codes "Tail")
    ∷ (refusals.Legacy legacy_places.Device legacy.BadSignature, codes "Device") ∷ (refusals.Image image_places.Head image.NotImage, codes "Head")
    ∷ (refusals.Image (image_places.Frame 5) image.Reserved, codes "Frame 5") ∷ (refusals.Image image_places.Parts image.Truncated, codes "Parts")
    ∷ (refusals.Image (image_places.Part 4) image.PartBytes, codes "Part 4") ∷ (refusals.BadLine 12, codes "Script 12") ∷ (refusals.TooLong, codes "Script")
    ∷ (refusals.Pause (unsound.Missing 7), codes "Pause") ∷ (refusals.Host (unsound.Missing 7), codes "Host") ∷ (refusals.Walk walk.NotCanonical, codes "Walk") ∷ []

-- whether a record stands in the wrapper of libxl, and the number of its type
abbrev pub name_of_type : Bool × ℕ → List ℕ
name_of_type type = shown_name type.0 type.1

-- of the types that have no name the first one beyond each layer's last, and the greatest number
abbrev pub record_names : List ((Bool × ℕ) × List ℕ)
record_names =
    ((false, 0), codes "END") ∷ ((false, 1), codes "PAGE_DATA") ∷ ((false, 2), codes "X86_PV_INFO") ∷ ((false, 3), codes "X86_PV_P2M_FRAMES") ∷ ((false, 4), codes "X86_PV_VCPU_BASIC")
    ∷ ((false, 5), codes "X86_PV_VCPU_EXTENDED") ∷ ((false, 6), codes "X86_PV_VCPU_XSAVE") ∷ ((false, 7), codes "SHARED_INFO") ∷ ((false, 8), codes "X86_TSC_INFO") ∷ ((false, 9), codes "HVM_CONTEXT")
    ∷ ((false, 10), codes "HVM_PARAMS") ∷ ((false, 11), codes "TOOLSTACK") ∷ ((false, 12), codes "X86_PV_VCPU_MSRS") ∷ ((false, 13), codes "VERIFY") ∷ ((false, 14), codes "CHECKPOINT")
    ∷ ((false, 15), codes "CHECKPOINT_DIRTY_PFN_LIST") ∷ ((false, 16), codes "STATIC_DATA_END") ∷ ((false, 17), codes "X86_CPUID_POLICY") ∷ ((false, 18), codes "X86_MSR_POLICY") ∷ ((false, 19), [])
    ∷ ((true, 0), codes "END") ∷ ((true, 1), codes "LIBXC_CONTEXT") ∷ ((true, 2), codes "EMULATOR_XENSTORE_DATA") ∷ ((true, 3), codes "EMULATOR_CONTEXT") ∷ ((true, 4), codes "CHECKPOINT_END")
    ∷ ((true, 5), codes "CHECKPOINT_STATE") ∷ ((true, 6), []) ∷ ((false, 2147483648), codes "optional") ∷ ((true, 2147483649), codes "optional") ∷ ((false, 4294967295), codes "optional") ∷ []

abbrev pub exit_codes : List (Status × ℕ)
exit_codes = (statuses.Done, 0) ∷ (statuses.Refused, 1) ∷ (statuses.Usage, 2) ∷ (statuses.ReadFault, 3) ∷ (statuses.WriteFault, 4) ∷ (statuses.Memory, 5) ∷ []
