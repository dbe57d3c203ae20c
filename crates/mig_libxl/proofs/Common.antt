-- Names that many proofs of this crate use.
pub use Rattle.std.proofs.Common.{Bool, Err, List, None, Ok, Option, Result, Some, [], ap, append-nil, append_assoc, arith, cond, drop, false, filter, inl, inr, length, length-append, length-drop, map, nat_eq, nat_le, nat_lt, not, refl, replicate, rules, subst, sym, take, true, ℕ, ◌*◌, ◌++◌, ◌+◌, ◌-◌, ◌<◌, ◌↔◌, ◌∙◌, ◌∷◌, ◌≡◌, ◌≢◌, ◌≤◌, ◌⊎◌}
pub use Rattle.std.proofs.KnownBytes.{Appends-nil}
pub use Rattle.std.proofs.lemmas.Bool.{and_parts, eq-eqb, eqb-false, eqb-true, false≢true, le-leb, le-ltb, leb-true, lt-leb, lt-ltb, ltb-true, ne_eqb, not-true, or_cases, or_left, or_parts, or_right}
pub use Rattle.std.proofs.lemmas.Grind.{common_steps}
pub use Rattle.std.proofs.lemmas.List.Elements.{All-append, All-cons, All-contains, All-contains_itself, All-drop, All-head, All-nil, All-tail, All-weaker}
pub use Rattle.std.proofs.lemmas.List.Folds.{list_any_none}
pub use Rattle.std.specs.FinMap.{FinMap, find}
pub use Rattle.std.specs.Io.KnownBytes.{Appends}
pub use Rattle.std.specs.List.{All, Contains, flat_map, list_all, list_any, range_with_len}
pub use Rattle.std.specs.Option.{option_map, option_or}
pub use Rattle.std.specs.Ordering.{eq_by_cmp, is_lt, nat_cmp, ordering_reverse}
pub use Rattle.std.specs.Prelude.{IfOk, IfSome, fold, if◌then◌else◌, is_some, unwrap_or, ⊤, ◌&&◌, ◌==◌, ◌||◌}
pub use Rattle.std.specs.declared.cmp.Ordering.TheVariants.{Equal}
pub use Rattle.byteorder.specs.Endian.{little_bytes}
pub use Rattle.mig_bytes.proofs.Joins.{any_stop, judged_so, mapped, part_passes, part_whole, refused, stopped, then_reads}
pub use Rattle.mig_bytes.proofs.Placed.{placed_ends, placed_fine, placed_stops, placed_then}
pub use Rattle.mig_bytes.proofs.Said.{said_read, said_refused}
pub use Rattle.mig_bytes.proofs.Texts.{puts_same, puts_stop, puts_then}
pub use Rattle.mig_bytes.specs.Bytes.{AreBytes, padding_len}
pub use Rattle.mig_bytes.specs.Fields.{be64, le32}
pub use Rattle.mig_bytes.specs.Judged.{AgreesWithJudging, Judged, Matches, part, placed, stop_at, tried, ◌>>=◌}
pub use Rattle.mig_bytes.specs.Judged.Judged.{Faulty, Passes}
pub use Rattle.mig_bytes.specs.Sequences.Spells.{no_part, one_more}
pub use Rattle.mig_canon.proofs.CanonParts.{is_record}
pub use Rattle.mig_canon.specs.Canon.{canon}
pub use Rattle.mig_canon.specs.CanonStream.{bare_guest, emulator_body, emulator_record, emulators_after, emulators_in_order, has_emulators, is_of_converter, opening_text, text_of_emulators}
pub use Rattle.mig_guest.proofs.CodeParts.{all_of}
pub use Rattle.mig_guest.proofs.Counts.{same_parts}
pub use Rattle.mig_guest.proofs.Found.{all_found}
pub use Rattle.mig_guest.proofs.KeyedMaps.{insert_leaves, tied}
pub use Rattle.mig_guest.proofs.PartOrder.{part_exact, part_total}
pub use Rattle.mig_guest.proofs.PartRows.{IsOf, of_part}
pub use Rattle.mig_guest.specs.Formed.{HasNoEmulators, IsFormed, is_emulator_code, width_of}
pub use Rattle.mig_guest.specs.Guests.{GuestOf}
pub use Rattle.mig_guest.specs.Order.{part_cmp}
pub use Rattle.mig_guest.specs.Parts.{NextPart, Part, PartMap, parts_after, parts_of, put_parts}
pub use Rattle.mig_guest.specs.declared.part_code.PartCode.TheVariants.{EmulatorContext, EmulatorPairs}
pub use Rattle.mig_guest.specs.declared.part_key.PartKey.{PartKey}
pub use Rattle.mig_guest.specs.Limits.{most_pairs}
pub use Rattle.mig_headers.specs.declared.fault.Cause.{Cause}
pub use Rattle.mig_headers.specs.declared.fault.Cause.TheVariants.{BadEmulator, EmulatorIndex, TooManyPairs, Truncated}
pub use Rattle.mig_headers.specs.declared.fault.Place.TheVariants.{ImageHeader, LibxlHeader}
pub use Rattle.mig_headers.specs.declared.kind.Kind.TheVariants.{Hvm, Pv}
pub use Rattle.mig_headers.specs.RecordTypes.{most_policy_entries, most_body}
pub use Rattle.mig_libxl.specs.Seen.{Holds, IsClosed, IsLibxlBegun, IsLibxlSeen, TakesLibxl}
pub use Rattle.mig_libxl.specs.declared.read.WrapperSeen.{WrapperSeen}
pub use Rattle.mig_libxl_form.proofs.Among.{among_first, among_more, emulator_more, emulators_more, ended_more}
pub use Rattle.mig_libxl_form.proofs.EmulatorGuests.{guest_done, hvm_faultless, none_set, part_there, plain_policy}
pub use Rattle.mig_libxl_form.proofs.Forms.{behind_header, form_wrapped}
pub use Rattle.mig_libxl_form.proofs.Records.{behind_content, behind_head, found}
pub use Rattle.mig_libxl_form.specs.Among.{image_among, image_in, is_libxl_ended}
pub use Rattle.mig_libxl_form.specs.Content.{LibxlContent, LibxlRecord}
pub use Rattle.mig_libxl_form.specs.Content.LibxlContent.{Context, Image, Nothing, Pairs}
pub use Rattle.mig_libxl_form.specs.Emulators.{EmulatorsOf, add_pairs, emulators_of, no_emulators, put_libxl_content, spelled_with, store_at, with_emulators}
pub use Rattle.mig_libxl_form.specs.Formed.{AreEmulators}
pub use Rattle.mig_libxl_form.specs.Judging.{body_of_type, emulator_key, libxl_content_at, libxl_head_at, libxl_record_at}
pub use Rattle.mig_libxl_form.specs.Spelled.{AcceptedStream, EmulatorsFit, FollowsLibxl, HasLibxlContent, IsFront, IsLibxlRecord}
pub use Rattle.mig_libxl_form.specs.Stream.{StreamOf, bare_at, header_at, libxl_records_at, wrapped_at}
pub use Rattle.mig_libxl_form.specs.Stream.StreamOf.{Bare, Wrapped}
pub use Rattle.mig_policy.proofs.PairMapLaws.{some_bytes_are_some_pairs, texts_are_canonical}
pub use Rattle.mig_policy.specs.PairFaults.{SpellPairs, pairs_fault}
pub use Rattle.mig_policy.specs.PairMaps.{map_of, pairs_in, put_pairs, text_of_map}
pub use Rattle.mig_pvtables.specs.Whole.{IsStreamed, IsStreamedBare, IsWhole}
pub use Rattle.mig_records.specs.Records.{spelled, text_of}
pub use Rattle.mig_restore.specs.declared.read.Reading.{Reading}
pub use Rattle.mig_restore_form.proofs.Meaning.{mean_kind}
pub use Rattle.mig_restore_form.specs.Stream.{ImageOf, image_behind, image_of}
pub use Rattle.mig_restore_form.specs.Judging.{most_records}
pub use Rattle.mig_bytes.specs.declared.stop.Stop.{Stop}
pub use Rattle.mig_canon.proofs.CanonMaps.{found_holds, mixed, nothing}
pub use Rattle.mig_headers.specs.Headers.{fault_of_marker, libxl_header_of, libxl_ident}
pub use Rattle.mig_headers.specs.Pairs.{AreCanonicalPairs, Pair}
pub use Rattle.mig_headers.specs.declared.fault.Place.{Place}
pub use Rattle.mig_headers.specs.declared.kind.Kind.{Kind}
pub use Rattle.mig_libxl_form.proofs.Bodies.{fine_context, fine_pairs}
pub use Rattle.mig_libxl_form.proofs.Formed.{context_kept, none_yet, pairs_kept, store_small}
pub use Rattle.mig_restore_form.specs.Mean.{mean}
pub use Rattle.std.proofs.lemmas.List.{nil_from_length, take_all}
pub use Rattle.std.proofs.lemmas.Option.{none-some, same_Some}
