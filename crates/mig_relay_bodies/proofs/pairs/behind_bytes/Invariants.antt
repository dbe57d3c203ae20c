use Rattle.mig_relay_bodies.proofs.Common.{◌≡◌, ◌+◌, ◌<◌, ◌^◌, length, take, fold, then_byte}
use Rattle.mig_relay_bodies.proofs.pairs.behind_bytes.Given as goal

abbrev pub invariant-loop-byte : goal.invariant-loop-byte
invariant-loop-byte l = record {
  known : l.fn.pairs.at + length l.fn.piece < 2 ^ 64 → l.known ≡ fold then_byte l.fn.pairs (take l.byte-index l.fn.piece);
  at : l.fn.pairs.at + length l.fn.piece < 2 ^ 64 → l.known.at ≡ l.fn.pairs.at + l.byte-index;
}
