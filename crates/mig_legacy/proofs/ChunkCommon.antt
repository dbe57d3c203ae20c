-- Names that many proofs of this crate use.
unfoldable pub use Rattle.mig_bytes.specs.Fields.{le32, le64}
pub use Rattle.mig_headers.proofs.FirstFaults.{no_fault, rows_fine}
pub use Rattle.mig_headers.specs.Pairs.{IsPair, is_key_byte, text_of_pair}
pub use Rattle.mig_headers.specs.declared.legacy_fault.LegacyCause.TheVariants.{BadPageType, WordHigh}
pub use Rattle.mig_legacy.specs.Batches.{is_reserved, is_high, fault_of_batch, IsBatchFault, page_data_words_of}
unfoldable pub use Rattle.mig_legacy.specs.Chunks.{kind_of}
pub use Rattle.mig_legacy.specs.Chunks.{IsWithinLimits, negative, param_chunks, second_of, IsParamChunk, IsNumberOf, NumbersHaveKinds}
unfoldable pub use Rattle.mig_legacy.specs.Judged.{entry_fault, toolstack, toolstack_fault, entries_fault, physmaps_in}
pub use Rattle.mig_legacy.specs.Judged.{is_name, entry_len, entry_in, fault_or, name_in, name_len, name_at, entry_rows, ToolstackIsSpelled}
unfoldable pub use Rattle.mig_legacy.specs.Texts.{hexadecimal}
pub use Rattle.mig_legacy.specs.Texts.{without_zeros, physmap_pair, name_pairs, pairs_of_physmap, text_of_physmaps}
pub use Rattle.mig_legacy.specs.Toolstack.{Physmap, IsName, ArePhysmaps, IsToolstack, name_bytes, IsPhysmapHead}
pub use Rattle.mig_legacy.specs.declared.chunk.ChunkKind.{ChunkKind}
pub use Rattle.mig_legacy.specs.declared.chunk.ChunkKind.TheVariants.{End, Batch, VcpuMap, Tsc, LastCheckpoint, Toolstack, Param}
pub use Rattle.mig_pagetypes.specs.LegacyWords.{legacy_type}
pub use Rattle.mig_policy.specs.PairFaults.{SpellPairs}
pub use Rattle.mig_records.proofs.Places.{position_some, position_none, place_is_first, none_pass}
pub use Rattle.mig_records.specs.Words.{IsFirst}
pub use Rattle.std.proofs.Common.{◌≡◌, ℕ, cond, List, [], ◌∷◌, ◌++◌, Option, Some, None, refl, sym, ap, ◌∙◌, arith, append_assoc, ◌+◌, ◌-◌, ◌<◌, ◌≤◌, Bool, not, length, drop, nat_eq, nat_lt, suc, true, false, take, Ok, subst, slice_index, ◌/◌, ◌%◌, length-append, zero, eqb-true, length-take-le, length-drop, take-append-drop, drop-drop, eq-eqb}
pub use Rattle.std.proofs.Math.Seq.{take-append_seam, drop-append_seam}
pub use Rattle.std.proofs.lemmas.Grind.{common_steps}
pub use Rattle.std.proofs.lemmas.List.Elements.{All-from_recursion, recursion_from_All, All-get_or, All-drop, All-nil, All-cons, All-head, All-tail}
pub use Rattle.std.specs.List.{position, position_or_len, AllByRecursion, flat_map, All, prefix_len}
pub use Rattle.std.specs.Prelude.{◌||◌, codes, if◌then◌else◌}
