use Rattle.mig_relay.proofs.Common.{◌≡◌, ℕ, length, ◌+◌, List, Consumes}
use Rattle.mig_relay.proofs.looking.take_unseen_page.Given as goal

abbrev pub invariant-loop-left : goal.invariant-loop-left
invariant-loop-left g l = record {
  bytes : (gone : List ℕ) × (length gone + l.left ≡ 4096) × Consumes (g.S.Source.left l.fn.src) (g.S.Source.left l.src) gone;
  quiet : g.S.Source.faults l.src ≡ g.S.Source.faults l.fn.src;
}

abbrev pub decreases-loop-left : goal.decreases-loop-left
decreases-loop-left g l = l.left
