-- Names that many proofs of this crate use.
pub use Rattle.std.proofs.Common.{Bool, Bor, Err, List, None, Ok, Option, Result, Some, [], ap, append-nil, append_assoc, arith, cond, drop, drop_of_length-le, false, filter, get_or, inl, inr, length, length-append, length-drop, map, min, nat_eq, not, option_and_then, refl, rules, subst, suc, sym, take, take-add, take-append-drop, true, zero, ℕ, ◌*◌, ◌++◌, ◌+◌, ◌-◌, ◌/◌, ◌<◌, ◌^◌, ◌∙◌, ◌∷◌, ◌≡◌, ◌≢◌, ◌≤◌, ◌⊎◌}
pub use Rattle.std.proofs.lemmas.Bool.{and_parts, cases_eq, cases_lt, eq-eqb, eqb-false, eqb-true, leb-true, ltb-true, ne_eqb, not-true, or_from, or_parts}
pub use Rattle.std.proofs.lemmas.Grind.{common_steps}
pub use Rattle.std.proofs.lemmas.List.Splits.{length-slice_split, slice_split_first, slice_split_none}
pub use Rattle.std.proofs.lemmas.Option.{none-some, same_Some}
pub use Rattle.std.specs.List.{All, AllByRecursion, list_any, position, position_or_len, range_with_len, slice_split}
pub use Rattle.std.specs.Option.{option_copied, option_map}
pub use Rattle.std.specs.Prelude.{IfSome, codes, decimal, slice_get, ◌&&◌, ◌==◌, ◌||◌}
pub use Rattle.mig_bytes.proofs.NumberMaps.{inserted, inserted_other, removed, removed_other}
pub use Rattle.mig_guest.specs.Footprints.{Footprint, footprint, footprint_of, machine_named, named_by, names_in, table_in}
pub use Rattle.mig_guest.specs.Hosts.{HostFrame, HostFrames, HostOf, IsOneToOne, IsValid, pfn_in}
pub use Rattle.mig_guest.specs.Pfns.{Pfns, no_pfns, pfns_of_words, with_pfn}
pub use Rattle.mig_machine_script.specs.Groups.{dots_in, ends_group, first_group, first_length, lines_up_to, ran, ran_between}
pub use Rattle.mig_machine_script.specs.HostLines.{after, after_line, applies, changed_by, has_length, is_allowed, is_key, is_machine, is_unnamed, key_of_numbers, logged_after, logs, names_machine, new_frame, pfn_changed, room_for, room_of, table_names, typed_as, with_logged}
pub use Rattle.mig_machine_script.specs.ScriptFields.{HasFields, fields_left}
pub use Rattle.mig_machine_script.specs.ScriptLines.{AreArguments, AreNumbers, IsHex, IsNumber, IsScriptLine, LineOf, fields_in, letter_of, line_said}
pub use Rattle.mig_machine_script.specs.ScriptLines.LineOf.{Add, Dot, Exchange, Put, Remove, Retype, Write}
pub use Rattle.mig_machine_script.specs.Scripts.{AreScriptLines, BeginsWithText, IsBadLine, IsScript}
pub use Rattle.mig_pagetypes.specs.PageTypes.{level_of, type_has_data, type_of}
pub use Rattle.mig_pagetypes.specs.declared.page_type.PageType.{PageType}
pub use Rattle.mig_guest.specs.Frames.{entries_from, is_hvm_type, is_type_of}
pub use Rattle.mig_host.specs.HostView.{has_machine, put_part_in}
pub use Rattle.std.proofs.lemmas.Fmt.{IsAscii-decimal, decimal_injective, decimal_is_IsNumeral, parse-decimal}
pub use Rattle.std.proofs.lemmas.List.{get_or-take, length-replicate, map-append, nil_from_length}
pub use Rattle.std.proofs.lemmas.List.Elements.{All-head, All-tail, filter-append}
pub use Rattle.std.proofs.lemmas.List.Sums.{fails_before_first, fold-append, passes_at_first, split_at_first}
pub use Rattle.std.specs.FinMap.{len-entries, nat_cmp-IsAntisymmetric}
