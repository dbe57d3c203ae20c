-- What is left of the room for new numbers.
use Rattle.mig_pagestore_index.proofs.Common.{ℕ, ◌-◌, ◌≤◌, length, ap, arith, HasRoom, IsAsFull, IsOneLess, Tree}
use Rattle.mig_pagestore_index.specs.declared.directory.Directory.{Directory}

module _ (x y : Tree) (spare : ℕ) where
  pub same_room : IsAsFull x y → HasRoom x spare → HasRoom y spare
  same_room s r = record { near = λ some. omega (arith, r.near some, ap (λ (e : Directory). length e.near.items) s.ways); ways = omega (arith, r.ways, ap (λ (e : Directory). length e.ready.items) s.ways); leaves = omega (arith, r.leaves, s.used, s.there) }

  pub one_less_room : IsOneLess x y → 1 ≤ spare → HasRoom x spare → HasRoom y (spare - 1)
  one_less_room o some r = record { near = λ _. omega (arith, r.near some, o.near); ways = omega (arith, o.ways, some, r.ways); leaves = omega (arith, o.used, o.there, some, r.leaves) }
