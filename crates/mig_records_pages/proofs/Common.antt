-- Names that many proofs of this crate use.
pub use Rattle.std.proofs.Common.{Err, List, Ok, Option, Result, [], ap, append-nil, append_assoc, arith, drop, drop-drop, false, length, length-append, refl, replicate, rules, subst, suc, sym, take, true, ℕ, ◌*◌, ◌++◌, ◌+◌, ◌-◌, ◌<◌, ◌^◌, ◌∙◌, ◌∷◌, ◌≡◌, ◌≤◌}
pub use Rattle.std.proofs.Math.Seq.{take-append-add}
pub use Rattle.std.proofs.lemmas.List.{length-drop, length-take, take-append-le, take_all}
pub use Rattle.std.specs.Io.KnownBytes.{Appends}
pub use Rattle.std.proofs.KnownBytes.{Appends-nil, Appends-trans}
pub use Rattle.byteorder.specs.Endian.{little_bytes}
pub use Rattle.mig_bytes.specs.Bytes.{AppendsPart, Puts}
pub use Rattle.mig_bytes.specs.declared.failure.WriteFailed.{WriteFailed}
pub use Rattle.mig_records.specs.Records.{head_of, spelled}
pub use Rattle.mig_records_pages.specs.PageData.{Frame, body_of, page_in, pages_of, words_of}
pub use Rattle.std.proofs.lemmas.Grind.{flat_map-append}
pub use Rattle.mig_bytes.proofs.Texts.{flat_more, puts_stop, puts_then}
