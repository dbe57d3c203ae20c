-- What an index tells of a number that has no value in its tree.
use Rattle.mig_pagestore_index.proofs.Common.{◌≡◌, ℕ, ◌≤◌, None, sym, ap, ◌∙◌, arith, Indexed, gathered}
use Rattle.std.specs.FinMap as maps
use Rattle.mig_pagestore_index.proofs.Gathered.{none_at}

-- r is what the tree found
module _ (f : ℕ → ℕ) (n spare k : ℕ) (x : Indexed) (is : record { values = gathered f n; spare = spare } ≡ x) (r : ℕ) (found : r ≡ f k) (none : r ≤ 0) where
  pub no_value_yet : maps.get x.values k ≡ None
  no_value_yet = sym (ap (λ (i : Indexed). maps.get i.values k) is) ∙ none_at f n k (λ _. omega (arith, found, none))

  pub some_spare : (maps.get x.values k ≡ None → 1 ≤ x.spare) → 1 ≤ spare
  some_spare room = omega (arith, room no_value_yet, ap (λ (i : Indexed). i.spare) is)
