-- The keys of a fork.
use Rattle.mig_pagestore_index.proofs.Common.{◌≡◌, ℕ, ◌<◌, inl, inr, arith, subst, List, slice_index, ap, ◌∙◌, cases_lt, lt-ltb, le-ltb, IsFork, AreWithin, lead, near_keys, leaf_at}
use Rattle.mig_pagestore_index.specs.declared.directory.Node.{Node}
use Rattle.std.specs.Prelude.{if◌then◌else◌, nat_lt}

module _ (split low high : ℕ) (left right : ℕ → ℕ) (is : IsFork split low high left right) where
  pub fork_within : AreWithin low high (λ q. if nat_lt q split then left q else right q)
  fork_within q some = elim (cases_lt q split) [
    | inl lt ↦ let l = is.below q (subst (λ b. 0 < (if b then left q else right q)) (lt-ltb q split lt) some) in (l.0, omega (arith, l.1, is.ordered))
    | inr le ↦ let r = is.above q (subst (λ b. 0 < (if b then left q else right q)) (le-ltb q split le) some) in (omega (arith, r.0, is.ordered), r.1)
  ]

-- a table that says the same of each key, and the same tree
pub lead_same : (old new : List ℕ) (root other : Node) → other ≡ root → ((i : ℕ) → slice_index new i ≡ slice_index old i) → (q : ℕ) → lead new other q ≡ lead old root q
lead_same old new root other is same q =
    ap (λ n. if nat_lt q near_keys then n else leaf_at other q) (same q) ∙ ap (λ r. if nat_lt q near_keys then slice_index old q else leaf_at r q) is
