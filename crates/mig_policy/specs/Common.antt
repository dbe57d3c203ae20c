-- Names that several definitions and contracts of this crate use.
pub use Rattle.std.specs.List.{All, AllByRecursion, flat_map, list_all, position, position_or_len}
pub use Rattle.mig_guest.specs.Limits.{most_pairs}
pub use Rattle.mig_guest.specs.Parts.{PartMap, put_parts, replace_code}
pub use Rattle.mig_guest.specs.declared.part_code.PartCode.TheVariants.{CpuidLeaf, Msr, Tsc}
pub use Rattle.mig_guest.specs.declared.part_key.PartKey.{PartKey}
pub use Rattle.mig_headers.specs.Pairs.{AreCanonicalPairs, IsPair, Pair, are_canonical_pairs, are_rising_texts, is_key_byte, is_next_key, text_of_pair, texts_in}
pub use Rattle.mig_records.specs.Shapes.{parts_of_body}
