-- Names that several definitions and contracts of this crate use.
pub use Rattle.std.specs.List.{flat_map}
pub use Rattle.mig_bytes.specs.Bytes.{AreBytes, padding_len}
pub use Rattle.mig_bytes.specs.Fields.{be16, be32, be64, le16, le32, le64}
pub use Rattle.mig_bytes.specs.Sequences.{Spells}
pub use Rattle.mig_bytes_form.specs.Form.{RefusedAs, SpelledAs, FormOf, bytes_form, said_form, ◌>>>◌}
pub use Rattle.mig_bytes_form.specs.Form.FormOf.{Gives}
pub use Rattle.mig_bytes_form.specs.Tests.{Test, computed, is_ascending, HasIn}
pub use Rattle.mig_guest.specs.Frames.{FrameOf, is_type_of}
pub use Rattle.mig_guest.specs.Guests.{GuestOf}
pub use Rattle.mig_guest.specs.Hosts.{HostFrame, HostOf, IsValid, most_width}
pub use Rattle.mig_guest.specs.Limits.{most_gdt_entries, most_pairs}
pub use Rattle.mig_guest.specs.Order.{IsAbove, part_cmp}
pub use Rattle.mig_guest.specs.PartKeys.{context_key, p2m_key, shared_key, vcpu_key}
pub use Rattle.mig_guest.specs.Parts.{PartMap}
pub use Rattle.mig_guest.specs.declared.part_code.PartCode.{PartCode}
pub use Rattle.mig_guest.specs.declared.part_code.PartCode.TheVariants.{HvmContext, HvmParam, VcpuBasic, VcpuExtended, VcpuMsrs, VcpuXsave}
pub use Rattle.mig_guest.specs.declared.part_key.PartKey.{PartKey}
pub use Rattle.mig_headers.specs.CauseNumbers.{number_of_cause, number_of_image_cause, number_of_legacy_cause}
pub use Rattle.mig_headers.specs.Pairs.{AreCanonicalPairs, AreRising, Pair, are_canonical_pairs, text_of_pair}
pub use Rattle.mig_headers.specs.RecordTypes.{is_optional, most_body, record_row_of, type_number, type_of_number, vcpu_limit}
pub use Rattle.mig_headers.specs.declared.fault.Cause.{Cause}
pub use Rattle.mig_headers.specs.declared.fault.ContextFault.{ContextFault}
pub use Rattle.mig_headers.specs.declared.fault.Place.{Place}
pub use Rattle.mig_headers.specs.declared.kind.Kind.{Kind}
pub use Rattle.mig_headers.specs.declared.kind.Kind.TheVariants.{Hvm, Pv}
pub use Rattle.mig_image.specs.GuestImage.{IsGuestImageUpTo, frame_text, host_head, is_all_zero, part_text}
pub use Rattle.mig_image.specs.GuestImageForm.{content_causes, count_form, frame_causes, frames_form, guest_image_form, host_at, host_frame_form, host_head_causes, host_head_form, host_part_form, host_parts_form, padding_causes, page_causes, part_causes}
pub use Rattle.mig_image.specs.GuestImageParts.{code_allows, code_fits, has_frame_from, has_part_from, head_type, head_type_number, head_version, opened}
pub use Rattle.mig_image.specs.declared.version.GuestImageVersion.{GuestImageVersion}
pub use Rattle.mig_legacy.specs.Spelled.{AcceptedLegacy, FollowsLegacy, IsStart, IsTail}
pub use Rattle.mig_libxl_form.specs.Emulators.{EmulatorsOf, emulators_of, pairs_said, spelled_with}
pub use Rattle.mig_libxl_form.specs.Spelled.{AcceptedStream, FollowsLibxl}
pub use Rattle.mig_pagetypes.specs.Limits.{most_frames}
pub use Rattle.mig_pagetypes.specs.PageTypes.{level_of}
pub use Rattle.mig_pvtables.specs.Faults.{fault_of_guest, type_at}
pub use Rattle.mig_records.specs.PvBodies.{fault_of_p2m, fault_of_pv_info, p2m_count}
pub use Rattle.mig_restore_form.specs.Judging.{Before, Opening, before, code_of_type, fault_at_end, fault_of_data, fault_of_head, fault_of_page, lists_of, most_records, type_in_word, with_places}
pub use Rattle.mig_restore_form.specs.Mean.{sent, type_in_guest}
pub use Rattle.mig_restore_form.specs.Spelled.{Accepted, Follows}
pub use Rattle.mig_restore_form.specs.Stream.{ImageOf, IsRefused}
pub use Rattle.mig_headers.specs.declared.image_fault.ImageCause.{ImageCause}
pub use Rattle.mig_guest.specs.PartCodes.{code_number, row_of}
pub use Rattle.mig_headers.specs.declared.legacy_fault.LegacyCause.{LegacyCause}
pub use Rattle.mig_legacy.specs.declared.chunk.ChunkKind.{ChunkKind}
pub use Rattle.mig_legacy.specs.Chunks.{number_causes}
