-- Names that several definitions and contracts of this crate use.
pub use Rattle.std.specs.Option.{option_or}
pub use Rattle.mig_bytes.specs.Bytes.{AreBytes, padding_len}
pub use Rattle.mig_bytes.specs.Fields.{be64, le32}
pub use Rattle.mig_bytes.specs.Judged.Judged.{Faulty, Passes}
pub use Rattle.mig_bytes.specs.Sequences.{Spells, sequence_at}
pub use Rattle.mig_guest.specs.Guests.{GuestOf}
pub use Rattle.mig_guest.specs.Limits.{most_pairs}
pub use Rattle.mig_guest.specs.PartCodes.{code_number}
pub use Rattle.mig_guest.specs.Parts.{Part, PartMap, parts_code, put_parts}
pub use Rattle.mig_guest.specs.declared.part_code.PartCode.TheVariants.{EmulatorContext, EmulatorPairs}
pub use Rattle.mig_guest.specs.declared.part_key.PartKey.{PartKey}
pub use Rattle.mig_headers.specs.Headers.{IsLibxlHeader, fault_of_libxl, libxl_ident}
pub use Rattle.mig_headers.specs.Pairs.{Pair}
pub use Rattle.mig_headers.specs.RecordTypes.{is_optional, most_body}
pub use Rattle.mig_headers.specs.declared.fault.Cause.{Cause}
pub use Rattle.mig_headers.specs.declared.fault.Cause.TheVariants.{BadEmulator, BadLength, BodyTooLong, ContextCount, EmulatorForPv, EmulatorIndex, TooManyPairs, TooManyRecords, Truncated, UnknownMandatory, Unsupported}
pub use Rattle.mig_headers.specs.declared.fault.Place.{Place}
pub use Rattle.mig_headers.specs.declared.kind.Kind.{Kind}
pub use Rattle.mig_headers.specs.declared.kind.Kind.TheVariants.{Hvm, Pv}
pub use Rattle.mig_policy.specs.PairFaults.{SpellPairs, pairs_fault}
pub use Rattle.mig_policy.specs.PairMaps.{IsOfPairs, PairMap, last_pair_value, pairs_code, pairs_in, put_pairs, text_of_map}
pub use Rattle.mig_pvtables.specs.Blank.{IsOfBytes, blank}
pub use Rattle.mig_pvtables.specs.Whole.{IsWhole}
pub use Rattle.mig_restore_form.specs.Judging.{most_records}
pub use Rattle.mig_restore_form.specs.Mean.{mean, same_key}
pub use Rattle.mig_restore_form.specs.Stream.{ImageOf, image_at}
