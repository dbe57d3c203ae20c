use Rattle.mig_pagestore_index.proofs.Common.{◌≡◌, ℕ, ◌+◌, ◌-◌, ◌*◌, ◌/◌, ◌<◌, ◌≤◌, inl, inr, ap, ◌∙◌, arith, found, leaf, cases_lt, step}
use Rattle.mig_pagestore_index.proofs.Fans.{at_place, none_under, passed}
use Rattle.mig_pagestore_index.proofs.tree.Tree.next.Goals as goal
use Rattle.mig_pagestore_index.proofs.tree.Tree.next.Goals.{In-Some}

-- nothing is found up to a place of the next leaf, where nothing stands in front of it there
up_to : (c : In-Some) (last : ℕ) → last ≤ 512 → ((j : ℕ) → c.loop-key.at - c.in-Some.key * 512 ≤ j → j < last → step c.args.self.now.leaves.cells.items c.in-Some.node j ≡ 0)
    → (k : ℕ) → c.args.from ≤ k → k < c.in-Some.key * 512 + last → found c.args.self.now k ≡ 0
up_to c last few here k le lt =
    let e = c.in-Some.ensures.least in
    elim (cases_lt k c.loop-key.at) [
      | inl old ↦ c.loop-key.invariant.none k le old
      | inr new ↦ passed (leaf c.args.self.now) c.args.self.now.leaves.cells.items c.loop-key.at c.in-Some.key last e.0 few e.3
          (λ j ge less. ap (λ n. step c.args.self.now.leaves.cells.items n j) e.2 ∙ here j ge less) k new lt
    ]

pub returns-in-Some-next-clause-least : goal.returns-in-Some-next-clause-least
returns-in-Some-next-clause-least c =
    let e = c.in-Some.ensures.least in let f = c.in-Some-next.ensures.least in let cells = c.args.self.now.leaves.cells.items in let first = c.saturating_sub-first.ensures in
    let low = c.requires.sound.1.low c.in-Some.key (omega (arith, e.1, e.2)) in (
      omega (arith, c.loop-key.invariant.range, f.0, first),
      omega (arith, low, f.1),
      f.2,
      at_place (leaf c.args.self.now) cells c.in-Some.key c.in-Some-next.place f.1 ∙ ap (λ n. step cells n c.in-Some-next.place) e.2 ∙ f.3,
      up_to (goal.at.returns-in-Some-next-clause-least c).In-Some c.in-Some-next.place (omega (arith, f.1)) (λ j ge less. f.4 j (omega (arith, ge, first)) less),
    )

pub loop-key-preserved : goal.loop-key-preserved
loop-key-preserved c =
    let e = c.in-Some.ensures.least in let first = c.saturating_sub-first.ensures in
    record {
      range = omega (arith, c.loop-key.invariant.range, e.0);
      none = λ k le lt. up_to (goal.at.loop-key-preserved c).In-Some 512 (omega arith) (λ j ge less. c.in_default-next.ensures.none j (omega (arith, ge, first)) less) k le (omega (arith, lt));
    }

pub returns-clause-none : goal.returns-clause-none
returns-clause-none c k le = elim (cases_lt k c.loop-key.at) [
  | inl old ↦ c.loop-key.invariant.none k le old
  | inr new ↦ none_under (leaf c.args.self.now) _ k (c.in_default.ensures.none (k / 512) (omega (arith, new)))
]
