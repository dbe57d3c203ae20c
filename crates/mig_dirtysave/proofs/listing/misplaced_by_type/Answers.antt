use Rattle.mig_dirtysave.proofs.Common.{arith, ◌≡◌, ℕ, List, ◌<◌, length, Some, None, sym, ap, ◌∙◌, cond, long_at, ◌/◌, lt-ltb, le-ltb, get_or-set_same, get_or-set_other, listed_in, nothing_marked, nothing_ill, found_ill, more_fine, more_marked, is_typed, none_ill}
use Rattle.mig_dirtysave.proofs.listing.misplaced_by_type.Goals as goal

listed_here : (list : List ℕ) {k pfn : ℕ} → k < length list / 8 → pfn ≡ long_at list k → listed_in (Some list) k ≡ Some pfn
listed_here list {k = k} lt is = ap (λ b. cond b (Some (long_at list k)) None) (lt-ltb k (length list / 8) lt) ∙ ap (λ n. Some n) (sym is)

pub loop-index-init : goal.loop-index-init
loop-index-init c = record { marked = nothing_marked _ _ c.clear.ensures; fine = nothing_ill _ _ }

pub returns-then-is_misplaced : goal.returns-then-is_misplaced
returns-then-is_misplaced c =
    found_ill _ _ c.loop-index.invariant.marked (listed_here c.args.list.now c.loop-index-test.true c.u64_le-pfn.ensures) c.noted_at.ensures.value c.noted_at-in-loop-index.ensures.value c.has_frame-needed.ensures c.is_misplaced.ensures c.loop-index.invariant.fine c.if-is_misplaced.true

pub loop-index-preserved : goal.loop-index-preserved
loop-index-preserved c =
    let typed = is_typed _ _ c.loop-index.invariant.marked (listed_here c.args.list.now c.loop-index-test.true c.u64_le-pfn.ensures) c.noted_at.ensures.value c.noted_at-in-loop-index.ensures.value c.has_frame-needed.ensures c.is_misplaced.ensures c.if-is_misplaced.false in
    let inside : c.u64_le-pfn.result < length c.loop-index.marks = omega (arith, c.noted_at.ensures.inside typed, c.requires, c.loop-index.auto.marks) in
    record {
      marked = more_marked _ _ c.loop-index.invariant.marked (listed_here c.args.list.now c.loop-index-test.true c.u64_le-pfn.ensures) c.noted_at.ensures.value c.noted_at-in-loop-index.ensures.value c.has_frame-needed.ensures c.is_misplaced.ensures c.if-is_misplaced.false
          (get_or-set_same c.loop-index.marks c.u64_le-pfn.result (Some c.has_frame-needed.result) None inside) (λ q ne. get_or-set_other c.loop-index.marks c.u64_le-pfn.result q (Some c.has_frame-needed.result) None ne);
      fine = more_fine _ _ c.loop-index.invariant.marked (listed_here c.args.list.now c.loop-index-test.true c.u64_le-pfn.ensures) c.noted_at.ensures.value c.noted_at-in-loop-index.ensures.value c.has_frame-needed.ensures c.is_misplaced.ensures c.loop-index.invariant.fine c.if-is_misplaced.false;
    }

pub returns : goal.returns
returns c = none_ill _ _ c.loop-index.invariant.fine (ap (λ b. cond b (Some (long_at c.args.list.now c.loop-index.index)) None) (le-ltb c.loop-index.index (length c.args.list.now / 8) (omega (arith, c.loop-index-test.false))))
