-- Names that many proofs of this crate use.
pub use Rattle.std.proofs.Common.{Bool, IfSome, List, None, Option, Some, [], ap, append-nil, arith, drop, drop-drop, false, inl, inr, length, refl, subst, suc, sym, take, true, zero, ℕ, ◌*◌, ◌++◌, ◌+◌, ◌-◌, ◌<◌, ◌^◌, ◌∙◌, ◌∷◌, ◌≡◌, ◌≢◌, ◌≤◌}
pub use Rattle.std.proofs.Math.Seq.{take-add, drop-append-add}
pub use Rattle.std.proofs.lemmas.Bool.{cases_eq}
pub use Rattle.std.proofs.lemmas.List.{length-drop, length-take, take-append-le, take_all, drop-append-le}
pub use Rattle.std.specs.FinMap.{get-empty}
pub use Rattle.std.specs.Option.{option_map, unwrap_or}
pub use Rattle.std.specs.Ordering.{nat_cmp}
pub use Rattle.mig_bytes.proofs.NumberMaps.{inserted, inserted_other, removed, removed_other}
pub use Rattle.mig_pagestore.proofs.FrameCells.{cell_some, mark_of_cell, type_of_cell}
pub use Rattle.mig_pagestore.proofs.Mapping.{get-mapped, len-mapped, mapped-empty, mapped-insert, mapped-remove}
pub use Rattle.mig_pagestore.proofs.Places.{length_whole, whole_is}
pub use Rattle.mig_guest.proofs.NextEntries.{from_zero, next_entry}
pub use Rattle.mig_pagestore.specs.FrameView.{AreCells, IsCell, cell_type, is_place, whole_page, cell_mark}
pub use Rattle.mig_pagestore.specs.Frames.{FrameOf, framed}
pub use Rattle.mig_pagestore_index.specs.Indexed.{ValueMap}
pub use Rattle.mig_pagetypes.specs.FrameWords.{word_of}
pub use Rattle.mig_pagetypes.specs.PageTypes.{type_has_data}
pub use Rattle.mig_pagetypes.specs.declared.frame_word.FrameWord.{FrameWord}
pub use Rattle.mig_pagetypes.specs.declared.page_type.PageType.{PageType}
pub use Rattle.mig_pagetypes.specs.declared.page_type.PageType.TheVariants.{Xtab}
pub use Rattle.mig_placed.specs.Runs.{IsFirstCell, IsRunFrom, frames_after}
pub use Rattle.mig_placed.specs.InFile.{cell_for, frame_in_file, frames_in_file, page_bytes_at, place_for, place_limit, with_place}
pub use Rattle.mig_records_pages.proofs.ListSteps.{drop_next, flat_next, entries_counted}
pub use Rattle.mig_records_pages.proofs.PageTexts.{pages_next}
pub use Rattle.mig_records_pages.specs.PageData.{Frame, page_in, pages_of}
pub use Rattle.mig_records_pages.specs.Copied.{IsFirstFrame}
pub use Rattle.mig_file.specs.Files.{IsThere}
pub use Rattle.mig_placed.specs.Joined.{EndsWithin, joined_bytes}
