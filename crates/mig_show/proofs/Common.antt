-- Names that many proofs of this crate use.
pub use Rattle.std.proofs.Common.{Bool, Err, List, None, Ok, Option, Some, [], ap, append-nil, append_assoc, arith, codes, cond, drop, false, get_or, inl, inr, length, length-append, length-drop, length-take-le, map, nat_lt, not, refl, rules, string_bytes, subst, suc, sym, take, take-append-drop, true, zero, ℕ, ◌*◌, ◌++◌, ◌+◌, ◌-◌, ◌<◌, ◌==◌, ◌∙◌, ◌∷◌, ◌≡◌, ◌≢◌, ◌≤◌, ◌⊎◌}
pub use Rattle.std.proofs.lemmas.List.Sums.{sum_by_push}
pub use Rattle.std.specs.Io.KnownBytes.{Consumes}
pub use Rattle.std.specs.Prelude.{IfOk, count_by, if◌then◌else◌, is_some, nat_le, option_map, ⊤, ◌&&◌, ◌||◌}
pub use Rattle.mig_bytes.specs.Bytes.{padding_len}
pub use Rattle.mig_bytes.specs.Fields.{le32}
pub use Rattle.mig_headers.specs.Headers.{kind_of_number}
pub use Rattle.mig_headers.specs.declared.fault.Cause.{Cause}
pub use Rattle.mig_headers.specs.declared.fault.Place.{Place}
pub use Rattle.mig_headers.specs.declared.fault.Place.TheVariants.{DomainHeader, ImageHeader, LibxlHeader, Record}
pub use Rattle.mig_headers.specs.declared.kind.Kind.{Kind}
pub use Rattle.mig_libxl_form.specs.Content.{LibxlRecord}
pub use Rattle.mig_records.specs.Heads.{head_in}
pub use Rattle.mig_records.specs.declared.head.RecordHead.{RecordHead}
pub use Rattle.mig_relay.specs.Following.{ComesBehind, ComesNext, CountDue, Due, FillsBody, NothingDue, WordsDue, bytes_behind_head, count, due, head_spot, image_begins, image_opens, image_whole, in_hand, kind, libxl_begins, libxl_whole, marker, more, pages_begin, place_of_spot, to_come, version, whole, wrapper_header, wrapper_opens}
pub use Rattle.mig_relay.specs.Keeping.{Keeps, KeepsNext, words_in_hand}
pub use Rattle.mig_relay.specs.Parts.{AtBody, AtFront, AtHead, AtKind, AtMarker, AtPadding, AtPages, AtVersion, AtWords, Next}
pub use Rattle.mig_relay.specs.Spots.{Alone, AtEnd, AtLibxlBody, AtLibxlHead, AtLibxlHeader, AtLibxlPadding, AtStart, Behind, InImage, Outer, Spot, begins_with_ident, is_ident}
pub use Rattle.mig_relay.specs.Standing.{IsNotRefused, IsRefusedBehind, PassesOn, StandsForBytes, StepSays, is_at_end, is_at_start}
pub use Rattle.mig_relay.specs.declared.answer.Step.{Step}
pub use Rattle.mig_relay.specs.declared.state.Relay.{Relay}
pub use Rattle.mig_show.specs.Fronts.{HasWords, ShownFront, StandsBefore, StandsWhole, behind_image, domain_header, header_first, image_end, image_first, image_header, image_record, libxl_context, libxl_end, libxl_header, libxl_number, libxl_record, of_form, with_shown}
pub use Rattle.mig_show.specs.Lines.{records_text}
pub use Rattle.mig_show.specs.Seeing.{SeenState, begun_record, counted_record, ended_by, with_end, with_hand, with_step}
pub use Rattle.mig_show.specs.Shows.{RisesOnShow, Shows, ShowsRefused, ShowsWhole, front_tree, tree_line}
pub use Rattle.mig_show.specs.Tree.{common_members, is_page_data, kind_tree, record_tree, refused_tree, shown_tree, version_tree, with_pages}
pub use Rattle.mig_show.specs.declared.record.Seen1.{Seen1}
pub use Rattle.serde_json.specs.Data.{Data, boolean}
pub use Rattle.serde_json.specs.View.{items_of, view}
pub use Rattle.serde_json.specs.Written.{comma_if, compact_text, has_float, items_have_float, items_text, members_have_float}
pub use Rattle.mig_relay.specs.Steps.{IsStep, RisesOnFault}
pub use Rattle.std.proofs.Math.Seq.{drop-append-add, drop-append_seam, take-append-add, take-append-le, take-append_seam, take_all}
pub use Rattle.std.proofs.lemmas.Bool.{eq-eqb, le-leb, lt-ltb, ne_eqb, true≢false}
pub use Rattle.std.proofs.lemmas.List.{append_cancel_right, take_more, nil_from_length}
