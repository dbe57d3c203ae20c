use Rattle.mig_image.proofs.Common.{◌≡◌, nat_eq, take, list_all}
use Rattle.mig_image.proofs.zeros.is_all_zero.Given as goal

abbrev pub invariant-loop-byte : goal.invariant-loop-byte
invariant-loop-byte l = nat_eq l.set 0 ≡ list_all (λ b. nat_eq b 0) (take l.byte-index l.page)
