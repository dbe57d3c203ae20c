-- Names that many proofs of this crate use.
pub use Rattle.std.proofs.Common.{Bool, Err, IsSome, List, None, Ok, OnOk, Option, Result, Some, [], ap, append-nil, append_assoc, arith, codes, cond, drop, drop-drop, false, filter, get_or, is_some, length, length-append, length-drop, nat_eq, nat_le, nat_lt, not, refl, replicate, rules, subst, suc, sym, take, take-append-drop, true, unwrap_or, zero, ℕ, ◌%◌, ◌*◌, ◌++◌, ◌+◌, ◌-◌, ◌/◌, ◌<◌, ◌^◌, ◌∙◌, ◌∷◌, ◌≡◌, ◌≤◌}
pub use Rattle.mig_pagetypes.specs.Limits.{top_limit, most_frames, machine_limit}
pub use Rattle.std.proofs.lemmas.Bool.{and_from, and_left, and_parts, and_right, eq-eqb, eqb-false, eqb-true, false_from_ne_true, le-leb, le-ltb, leb-false, lt-leb, ltb-false, ne_eqb, not-false, or_from, or_parts, true≢false}
pub use Rattle.std.proofs.lemmas.Grind.{common_steps, flat_map-append}
pub use Rattle.std.proofs.lemmas.List.{append_cancel_right, length-replicate, take-replicate, take_all}
pub use Rattle.std.proofs.lemmas.List.Elements.{All-drop, All-from_recursion, All-head, filter-append, recursion_from_All}
pub use Rattle.std.proofs.lemmas.Option.{none-some, same_Some}
pub use Rattle.std.specs.Cmp.{IsTotalOrder, nat_cmp_total}
pub use Rattle.std.specs.FinMap.{FinMap, IsAntisymmetric, is_sorted, len-entries, len-insert, nat_cmp-IsAntisymmetric}
pub use Rattle.std.specs.FinMap.Entries.{below_all, is_sorted-where_key, where_key}
pub use Rattle.std.specs.Io.KnownBytes.{Appends, Consumes}
pub use Rattle.std.specs.List.{All, AllByRecursion, flat_map, list_all, list_any}
pub use Rattle.std.specs.Option.{option_copied}
pub use Rattle.std.specs.Ordering.{is_lt, nat_cmp, ordering_reverse, ordering_then}
pub use Rattle.std.specs.Prelude.{T, if◌then◌else◌, ◌&&◌, ◌==◌, ◌||◌, max}
pub use Rattle.std.specs.Result.{IsErrAnd}
pub use Rattle.std.specs.declared.cmp.Ordering.{Ordering}
pub use Rattle.std.specs.declared.cmp.Ordering.TheVariants.{Equal, Greater, Less}
pub use Rattle.byteorder.specs.Endian.{big_number, little_bytes}
pub use Rattle.byteorder.specs.Numbers.{big_from-take, little_number-reads_back}
pub use Rattle.mig_bytes.proofs.ByteLists.{Bytes, bytes_back, bytes_front, field_below, field_size, long_back, long_below, word_back, word_below}
pub use Rattle.mig_bytes.proofs.Joins.{any_stop, both_pass, done, judged_so, placed_passes, same_passes, then_passes}
pub use Rattle.mig_bytes.proofs.Placed.{known, one_more, one_stops, told}
pub use Rattle.mig_bytes.proofs.Said.{said_goes, said_passes, said_read, said_refused}
pub use Rattle.mig_bytes.proofs.Taking.{takes_more, takes_none}
pub use Rattle.mig_bytes.proofs.Texts.{all_parted, flat_more, puts_same, puts_stop, puts_then}
pub use Rattle.mig_bytes.specs.Bytes.{AppendsPart, AreBytes, Puts, TakesBytes, padding_len}
pub use Rattle.mig_bytes.specs.Judged.{AgreesWithJudging, Judged, placed, stop_at}
pub use Rattle.mig_bytes.specs.Judged.Judged.{Passes}
pub use Rattle.mig_bytes_form.proofs.ByParts.{both_go, bytes_go, bytes_gone, first_stops, gives_goes, gives_gone, nothing_read, placed_goes, placed_gone, placed_read, placed_stop, steps_at, steps_go, steps_read, then_goes, then_read, told_then}
pub use Rattle.mig_bytes_form.proofs.Tests.{no_fault, rows_fine}
unfoldable pub use Rattle.mig_bytes_form.specs.Form.{judged_as, ◌>>>◌}
pub use Rattle.mig_bytes_form.specs.Form.{FormOf, placed_form}
pub use Rattle.mig_bytes_form.specs.Form.FormOf.{Gives as Giving}
pub use Rattle.mig_bytes_form.specs.Tests.{first_named, is_passed}
pub use Rattle.mig_guest.proofs.PartOrder.{part_exact, part_total}
pub use Rattle.mig_guest.proofs.PartRows.{number_found, numbered, one_code}
pub use Rattle.mig_guest.specs.Formed.{IsRawContent, IsFormed}
pub use Rattle.mig_guest.specs.Frames.{entries_from, is_type_of}
pub use Rattle.mig_guest.specs.Hosts.{HostFrame, HostFrames, HostOf, IsHostFrame, IsHostPart, IsValid, most_width}
pub use Rattle.mig_guest.specs.Order.{part_cmp}
pub use Rattle.mig_guest.specs.Parts.{FitsPolicy, NextKey, PartMap, parts_behind, parts_of}
pub use Rattle.mig_guest.specs.declared.part_key.PartKey.{PartKey}
pub use Rattle.mig_headers.specs.Headers.{kind_number, kind_of_number}
pub use Rattle.mig_headers.specs.declared.image_fault.ImageCause.{ImageCause}
pub use Rattle.mig_headers.specs.declared.image_fault.ImageCause.TheVariants.{Truncated}
pub use Rattle.mig_headers.specs.declared.image_fault.ImagePlace.{ImagePlace}
pub use Rattle.mig_headers.specs.declared.image_fault.ImagePlace.TheVariants.{Frame, Head, Part, Parts}
pub use Rattle.mig_headers.specs.declared.kind.Kind.{Kind}
pub use Rattle.mig_headers.specs.declared.kind.Kind.TheVariants.{Hvm, Pv}
pub use Rattle.mig_headers.specs.RecordTypes.{most_policy_entries, vcpu_limit}
pub use Rattle.mig_image.specs.Answer.{BeginsWithGuestImage, IsHost}
pub use Rattle.mig_image.specs.declared.version.GuestImageVersion.{GuestImageVersion}
pub use Rattle.mig_image.specs.declared.version.GuestImageVersion.TheVariants.{One, Two}
pub use Rattle.mig_host.specs.HostView.{HostAndSpare, has_machine, put_frame, put_part_in, with_machine}
pub use Rattle.mig_image.specs.GuestImage.{IsGuestImage, IsGuestImageUpTo, frame_text, host_word, image_name, is_all_zero, is_left_out, leaves_out, most_width_of, page_left_out, page_text, part_text, zero_flag, frame_head_of, guest_image}
pub use Rattle.mig_image.specs.GuestImageParts.{code_allows, code_fits, frame_said, has_frame_from, has_part_from, has_zero_flag, head_key, head_pfn, head_type, head_type_number, head_version, name_number, opened, version_named}
unfoldable pub use Rattle.mig_image.specs.GuestImageForm.{guest_image_form}
pub use Rattle.mig_image.specs.GuestImageForm.{behind_frames, behind_head, content_causes, part_bytes_form, count_form, frame_causes, frame_head_form, frames_form, full_policy, host_at, host_frame_form, host_head_causes, host_head_form, host_part_form, host_parts_form, padding_causes, padding_form, page_causes, page_form, part_causes, part_head_form, reserved_bits, sent_page_form}
pub use Rattle.mig_image.specs.PartCounts.{Counts}
pub use Rattle.mig_pagetypes.specs.PageTypes.{all_types, number_of, type_has_data, type_of, type_or_none}
pub use Rattle.mig_pagetypes.specs.declared.page_type.PageType.{PageType}
pub use Rattle.mig_bytes.proofs.Steps.{begins}
pub use Rattle.mig_host.proofs.HostsMade.{valid_empty, valid_frame, valid_part}
pub use Rattle.mig_host.proofs.InOrder.{each_entry, entries_behind, few_ranks, found_passes, front_below, get_at, get_front, has_from, nat_rises, no_entries, no_entry, none_passes, some_entry}
pub use Rattle.mig_image.specs.FrameEnds.{EndsAt}
pub use Rattle.mig_pagetypes.specs.declared.page_type.PageType.TheVariants.{Broken, Xalloc, Xtab}
pub use Rattle.std.proofs.KnownBytes.{Appends-trans}
pub use Rattle.std.proofs.lemmas.Nat.{be_bytes_8, le_or_l}
pub use Rattle.mig_bytes.specs.Fields.{le32, le64}
pub use Rattle.mig_guest.specs.Guests.{GuestOf}
pub use Rattle.mig_image.specs.Behind.{HaveRoom, parts_text}
pub use Rattle.mig_image.specs.PagesHeld.{AreFrames, HoldsPages}
pub use Rattle.mig_host.specs.Hosted.{least_width, with_machines_from}
