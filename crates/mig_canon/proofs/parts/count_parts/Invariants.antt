use Rattle.mig_canon.proofs.Common.{◌≡◌, ◌+◌, length, IfSome, code_number, parts_after, parts_at}
use Rattle.std.specs.FinMap as maps
use Rattle.mig_canon.proofs.parts.count_parts.Given as goal

abbrev pub invariant-loop-key : goal.invariant-loop-key
invariant-loop-key l = record {
  code : IfSome l.after (λ k. k.code ≡ code_number l.code);
  seen : l.count + length (parts_after (code_number l.code) l.after (maps.entries l.guest.parts)) ≡ length (parts_at l.code l.guest);
}

abbrev pub decreases-loop-key : goal.decreases-loop-key
decreases-loop-key l = length (parts_after (code_number l.code) l.after (maps.entries l.guest.parts))
