-- Names that many proofs of this crate use.
pub use Rattle.std.proofs.Common.{Bool, Err, List, None, Ok, Option, Result, Some, [], ap, append-nil, append_assoc, arith, cond, false, filter, get_or, inl, inr, length, length-append, map, nat_lt, refl, rules, slice_set, subst, suc, sym, true, zero, ℕ, ⊎_elim, ◌*◌, ◌++◌, ◌+◌, ◌-◌, ◌/◌, ◌<◌, ◌^◌, ◌∙◌, ◌∷◌, ◌≡◌, ◌≢◌, ◌≤◌}
pub use Rattle.std.proofs.Math.Path.{fun_ext}
pub use Rattle.std.proofs.lemmas.Bool.{cases_lt, eqb-true, ltb-true, or_parts}
pub use Rattle.std.proofs.lemmas.Bool.Decides.{nat_tests}
pub use Rattle.std.proofs.lemmas.List.{get_or_past, length-map, map-append, with_items_is}
pub use Rattle.std.specs.Cmp.{nat_cmp_total, unsigned_tied}
pub use Rattle.std.specs.Option.{option_map}
pub use Rattle.std.specs.Prelude.{IfOk, OnErr, is_some, unwrap_or, ◌&&◌, ◌==◌, ◌||◌, ◌⊎◌}
pub use Rattle.mig_dirtysave_rounds.specs.Current.{Current, Notes, no_notes, noted, notes_of}
pub use Rattle.mig_dirtysave_rounds.specs.Entries.{AreTold, IsToldEntry, MostSent, entry_for, frames_meant, pfns_sent, put_at, put_told}
pub use Rattle.mig_dirtysave_rounds.specs.Findings.{CanBeTold, Finding, IsToldFrame, NamesWithin, ShowsOnly, found_as, frame_sent, is_deferred, judge, judged, type_found}
pub use Rattle.mig_dirtysave_rounds.specs.Findings.Finding.{Gone, Shows}
pub use Rattle.mig_dirtysave_rounds.specs.Forms.{form_of_print, form_page, is_lost, lost_at, lost_in, lost_slot, superpage_in, superpage_slot, table_of, type_of_print}
pub use Rattle.mig_dirtysave_rounds.specs.Live.{AreRounds, Ended, FramesSaved, IsUnsound, KeepsShape, Live, LiveSent, Saved, SavedSent, SendsLast, SendsRounds, forms, table_fault, tables_unsound, type_in, worst_fault}
pub use Rattle.mig_dirtysave_rounds.specs.Parts.{front, rest, entries_read, entries_read_before}
pub use Rattle.mig_dirtysave_rounds.specs.Sends.{IsWorst, ReadsFront, SendsFront, lost_of, or_first, place, super_of, within_set}
pub use Rattle.mig_dirtysave_rounds.specs.Step.{IsRaw, IsRenamed, IsRight, Looks, NameIsInside, ReadsOne, Settled, Strays, most_calls, put_slot, raw_print}
pub use Rattle.mig_dirtysave_rounds.specs.Unused.{IsUnused}
pub use Rattle.mig_dirtysave_rounds.specs.declared.found.Worst.{Worst}
pub use Rattle.mig_guest.proofs.Sizes.{members_no, members_yes, size-le, size_more, size_stays}
pub use Rattle.mig_guest.specs.Changes.{IsBelow, put_pfn}
pub use Rattle.mig_guest.specs.Footprints.{Footprint, footprint, footprint_of, named_by, names_in, table_in}
pub use Rattle.mig_guest.specs.Frames.{FrameMap, FrameOf, is_type_of}
pub use Rattle.mig_guest.specs.History.{History, LogTook, Since, and_call, no_history, nothing_asked, one_more}
pub use Rattle.mig_guest.specs.Hosts.{HostFrame, HostFrames, HostOf, IsHostFrame, pfn_in}
pub use Rattle.mig_guest.specs.Longs.{long_at}
pub use Rattle.mig_guest.specs.MachineCalls.{LogTaken, LookedUp, Paused, Peeked}
pub use Rattle.mig_guest.specs.MachineStates.{IsSameShape, IsValidState, MachineState, Ran}
pub use Rattle.mig_guest.specs.Pfns.{Pfns, all_below, joined, members, no_pfns, pfns_of_words, size, with_pfn}
pub use Rattle.mig_guest.specs.Rounds.{AreCalls, GoesOn, Rounds, Tight, all_read, rounds_read, to_read}
pub use Rattle.mig_guest.specs.Tables.{EachEntry, IsWithin, blanked_table, entry}
pub use Rattle.mig_guest.specs.declared.table.Entry.TheVariants.{Blank, Frame, NotPresent, Superpage}
pub use Rattle.mig_headers.specs.declared.kind.Kind.{Kind}
pub use Rattle.mig_headers.specs.declared.kind.Kind.TheVariants.{Hvm, Pv}
pub use Rattle.mig_pagetypes.specs.PageTypes.{level_of, type_has_data}
pub use Rattle.mig_pagetypes.specs.declared.page_type.PageType.{PageType}
pub use Rattle.mig_pagetypes.specs.declared.page_type.PageType.TheVariants.{Broken, Notab, Xalloc, Xtab}
pub use Rattle.mig_pvtables.proofs.LongSteps.{ChangedBelow, each_twice, next_below, one_changed, one_stays, still, walk_end, walk_start}
pub use Rattle.mig_pvtables.proofs.Slots.{no_slot}
pub use Rattle.mig_pvtables.specs.Renaming.{renamed_by}
pub use Rattle.mig_pvtables.specs.Tables.{first_superpage, is_superpage, with_frame}
pub use Rattle.mig_records_pages.proofs.Joins.{behind_anyway, few_batches, nothing_sent}
pub use Rattle.mig_records_pages.specs.Batches.{AreFull, AreSized, FallsBehind, IsBehind, IsSent}
pub use Rattle.mig_records_pages.specs.Told.{FrameTold, all_told}
