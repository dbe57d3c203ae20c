-- Names that several definitions and contracts of this crate use.
pub use Rattle.std.specs.List.{AllByRecursion, flat_map, list_all, list_any}
pub use Rattle.byteorder.specs.Endian.{little_bytes}
pub use Rattle.mig_bytes.specs.Answers.{or_stop}
pub use Rattle.mig_bytes.specs.Bytes.{AreBytes, Puts, TakesBytes, padding_len}
pub use Rattle.mig_bytes.specs.Faults.{FaultHasCause, RisesOnReadFault}
pub use Rattle.mig_bytes.specs.Fields.{be64, le32, le64, with_field}
pub use Rattle.mig_bytes.specs.Judged.{AgreesWithJudging, Judged}
pub use Rattle.mig_bytes.specs.declared.stop.Stop.TheVariants.{Memory}
pub use Rattle.mig_bytes_form.specs.Tests.{Test, first_named, is_passed}
pub use Rattle.mig_guest.specs.Frames.{entries_from, is_type_of}
pub use Rattle.mig_guest.specs.Hosts.{HostFrame, HostOf, IsHostFrame, IsValid, most_width}
pub use Rattle.mig_guest.specs.PartCodes.{code_of_number, row_of}
pub use Rattle.mig_guest.specs.Parts.{PartMap, parts_of}
pub use Rattle.mig_guest.specs.declared.part_key.PartKey.{PartKey}
pub use Rattle.mig_headers.specs.Headers.{kind_number, kind_of_number}
pub use Rattle.mig_headers.specs.RecordTypes.{most_policy_entries}
pub use Rattle.mig_headers.specs.declared.image_fault.ImageCause.{ImageCause}
pub use Rattle.mig_headers.specs.declared.image_fault.ImagePlace.{ImagePlace}
pub use Rattle.mig_headers.specs.declared.kind.Kind.{Kind}
pub use Rattle.mig_host.specs.HostView.{HostAndSpare, has_machine, put_frame, put_part_in}
pub use Rattle.mig_pagetypes.specs.Limits.{machine_limit, most_frames, pfn_limit, top_limit}
pub use Rattle.mig_pagetypes.specs.PageTypes.{number_of, type_has_data, type_of, type_or_none}
pub use Rattle.mig_bytes_form.specs.Form.{judged_as}
