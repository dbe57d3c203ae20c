-- Names that many proofs of this crate use.
pub use Rattle.std.proofs.Common.{Bool, Err, List, None, Ok, Option, Result, Some, [], ap, append_assoc, arith, cond, drop, false, inl, inr, leb-false, length, length-append, length-drop, length-take-le, ltb-false, map, nat_eq, nat_le, nat_lt, not, refl, subst, sym, take, take-append-drop, true, ℕ, ◌++◌, ◌+◌, ◌-◌, ◌<◌, ◌∙◌, ◌∷◌, ◌≡◌, ◌≤◌, ◌⊎◌}
pub use Rattle.std.proofs.lemmas.Bool.{and_from, and_parts, eq-eqb, eqb-true, false≢true, le-leb, le-ltb, leb-true, lt-leb, lt-ltb, not-false, or_parts}
pub use Rattle.std.proofs.lemmas.Grind.{common_steps}
pub use Rattle.std.proofs.lemmas.List.{append-nil, drop-append-le, drop_at, nil_from_length}
pub use Rattle.std.proofs.lemmas.List.Sums.{fold-append}
pub use Rattle.std.proofs.lemmas.Option.{none-some, same_Some}
pub use Rattle.std.proofs.lemmas.Result.{on_err_weaker, on_ok_weaker}
pub use Rattle.std.specs.BTreeMap.{is_at}
pub use Rattle.std.specs.Cmp.Lexicographic.{nat_list_cmp_total, slice_cmp}
pub use Rattle.std.specs.Option.{option_copied_mut, option_map, option_or}
pub use Rattle.std.specs.Ordering.{eq_by_cmp, nat_cmp}
pub use Rattle.std.specs.Prelude.{IsErrAnd, IsErrOf, OnOk, T, fold, if◌then◌else◌, is_none, is_some, option_and_then, unwrap_or, ◌&&◌, ◌||◌}
pub use Rattle.mig_bytes.proofs.Joins.{both_pass, part_passes, part_whole, placed_passes, same_passes, then_passes}
pub use Rattle.mig_bytes.proofs.Said.{said_goes, said_passes}
pub use Rattle.mig_bytes.specs.Bytes.{AreBytes, padding_len}
pub use Rattle.mig_bytes.specs.Judged.{Judged, part, placed, said_at, ◌>>=◌}
pub use Rattle.mig_bytes.specs.Judged.Judged.{Faulty, Passes}
pub use Rattle.mig_bytes.specs.Sequences.{Spells}
pub use Rattle.mig_bytes.specs.Sequences.Spells.{no_part, one_more}
pub use Rattle.mig_guest.proofs.Found.{Each, all_found, insert_holds}
pub use Rattle.mig_guest.proofs.KeyedMaps.{entries_seen, entries_shown, find_seen, get_seen, seen, seen_insert, shown, tied}
pub use Rattle.mig_guest.proofs.PartOrder.{part_exact, part_total}
pub use Rattle.mig_guest.specs.Guests.{GuestOf}
pub use Rattle.mig_guest.specs.Order.{part_cmp}
pub use Rattle.mig_guest.specs.Parts.{NextBehind, Part, PartMap, parts_behind, put_part, put_parts}
pub use Rattle.mig_guest.specs.declared.part_key.PartKey.{PartKey}
pub use Rattle.mig_guest.specs.Limits.{most_pairs}
pub use Rattle.mig_headers.proofs.FirstFaults.{both_none, neither_some, no_fault, rows_fine}
pub use Rattle.mig_headers.proofs.HeaderLaws.{marker_of, unless_ok}
pub use Rattle.mig_headers.specs.Headers.{IsImageHeader, IsLibxlHeader, fault_of_libxl, is_from_legacy, libxl_ident, marker}
pub use Rattle.mig_headers.specs.Pairs.{Pair, text_of_pair}
pub use Rattle.mig_headers.specs.declared.fault.Cause.{Cause}
pub use Rattle.mig_headers.specs.declared.fault.Cause.TheVariants.{BadEmulator, EmulatorIndex, Missing, TooManyPairs, Truncated}
pub use Rattle.mig_headers.specs.declared.fault.Place.{Place}
pub use Rattle.mig_headers.specs.declared.kind.Kind.{Kind}
pub use Rattle.mig_headers.specs.declared.kind.Kind.TheVariants.{Hvm, Pv}
pub use Rattle.mig_headers.specs.RecordTypes.{is_optional, most_body, most_policy_entries}
pub use Rattle.mig_libxl_form.specs.Among.{has_emulator, image_among, image_in, is_libxl_ended}
pub use Rattle.mig_libxl_form.specs.Content.{LibxlContent, LibxlRecord}
pub use Rattle.mig_libxl_form.specs.Content.LibxlContent.{Context, Image, Nothing, Pairs}
pub use Rattle.mig_libxl_form.specs.Emulators.{ArePairsBegun, ArePartsBefore, ArePartsBegun, EmulatorsOf, add_pairs, emulator_parts, emulators_of, no_emulators, put_libxl_content, spelled_with, store_at, store_part, stores_seen, with_emulators}
pub use Rattle.mig_libxl_form.specs.Formed.{AreEmulators, IsEmulatorKey, IsStore}
pub use Rattle.mig_libxl_form.specs.Judging.{body_of_type}
pub use Rattle.mig_libxl_form.specs.Spelled.{AcceptedStream, EmulatorsFit, FollowsLibxl, HasLibxlContent, IsFront, IsLibxlComplete, IsLibxlRecord, IsStream, IsWrapped}
pub use Rattle.mig_libxl_form.specs.Spelled.HasLibxlContent.{context, ends, optional, pairs}
pub use Rattle.mig_libxl_form.specs.Stream.{StreamOf, guest_of, image_of_stream, libxl_records_at}
pub use Rattle.mig_libxl_form.specs.Stream.StreamOf.{Bare, Wrapped}
pub use Rattle.mig_policy.proofs.KeyLaws.{pairs_are_read}
pub use Rattle.mig_policy.proofs.PairMapLaws.{maps_are_of_pairs, some_bytes_are_some_pairs}
pub use Rattle.mig_policy.specs.PairFaults.{SpellPairs, pairs_fault}
pub use Rattle.mig_policy.specs.PairMaps.{AreBegun, PairMap, last_pair_value, pairs_in, put_pairs, text_of_map}
pub use Rattle.mig_pvtables.specs.Whole.{IsStreamed, IsStreamedBare, IsWhole}
pub use Rattle.mig_restore_form.proofs.Laws.{accepted_is_image}
pub use Rattle.mig_restore_form.proofs.PartsInOrder.{or_none, parts_set}
pub use Rattle.mig_restore_form.specs.Spelled.{IsImage}
pub use Rattle.mig_restore_form.specs.Stream.{ImageOf, image_at}
pub use Rattle.mig_restore_form.specs.Judging.{most_records}
pub use Rattle.mig_bytes.proofs.Sequences.{Found, accepted_spelled, spelled_accepted}
pub use Rattle.mig_pvtables.specs.Blank.{IsOfBytes, blank, blank_of}
pub use Rattle.mig_restore_form.proofs.Meaning.{mean_kind, part_ties}
pub use Rattle.mig_restore_form.specs.Mean.{mean, same_key}
pub use Rattle.std.proofs.lemmas.List.Elements.{All-append, All-from_recursion, All-head, All-map, All-tail, All-weaker, recursion_from_All}
pub use Rattle.std.specs.FinMap.{entries-insert, is_sorted}
pub use Rattle.std.specs.List.{All, AllByRecursion, flat_map}
