-- Names that many proofs of this crate use.
pub use Rattle.std.proofs.Common.{Bool, Err, IsErr, List, None, Ok, Option, Result, Some, [], ap, append-nil, append_assoc, arith, cond, drop, drop-drop, false, get_or, inl, inr, le_refl, length, length-append, length-drop, length-take-le, ltb-false, nat_lt, refl, replicate, rules, subst, suc, sym, take, take-append-drop, true, vec_capacity, vec_len, zero, ℕ, ◌++◌, ◌+◌, ◌-◌, ◌/◌, ◌<◌, ◌^◌, ◌∙◌, ◌∷◌, ◌≡◌, ◌≢◌, ◌≤◌, ◌⊎◌}
pub use Rattle.std.proofs.KnownBytes.{Appends-trans, Consumes-nil, Consumes-trans}
pub use Rattle.std.proofs.Math.Seq.{drop-cons, take-append-add}
pub use Rattle.std.proofs.lemmas.List.{drop_all, take_all}
pub use Rattle.std.specs.Io.KnownBytes.{Appends, Consumes, Keeps}
pub use Rattle.std.specs.Result.{IsErrAnd}
pub use Rattle.byteorder.specs.Endian.{big_bytes, little_bytes, little_number}
pub use Rattle.mig_bytes.specs.Bytes.{AppendsPart, Grown, Puts, Taken, TakesBytes, TakesFew}
pub use Rattle.mig_bytes.specs.Judged.{AgreesWithJudging, Judged, part, placed, plain_at, said_at, tried, ◌>>=◌}
pub use Rattle.mig_bytes.specs.Judged.Judged.{Faulty, Passes}
pub use Rattle.mig_bytes.specs.Sequences.{Front, at_start, sequence_at}
pub use Rattle.mig_bytes.specs.Walk.{Reaches}
pub use Rattle.mig_bytes.specs.Walk.Reaches.{here, next}
pub use Rattle.mig_bytes.specs.declared.stop.Stop.{Stop}
pub use Rattle.mig_bytes.specs.declared.stop.Stop.TheVariants.{Memory, ReadFault, Refused}
pub use borrow.Rule.Slice.PartMut.{mid_of, post_of, put_mid}
pub use lib.Seq.{take-append-le, take-append_seam}
pub use Rattle.mig_bytes.specs.Memory.{IsListed, cut_to}
pub use Rattle.std.proofs.lemmas.Bool.{cases_eq, eq-eqb, le-ltb, ne_eqb}
pub use Rattle.std.specs.List.{AllByRecursion, flat_map}
