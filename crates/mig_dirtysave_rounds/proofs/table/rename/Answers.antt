use Rattle.mig_dirtysave_rounds.proofs.Common.{arith, ◌≡◌, ◌+◌, refl, sym, subst, ◌∙◌}
use Rattle.mig_dirtysave_rounds.proofs.Tables.{Front, looks_on, looks_at_most, front_none, front_more, front_lost, front_whole}
use Rattle.mig_dirtysave_rounds.proofs.table.rename.Goals as goal

pub loop-slot-init : goal.loop-slot-init
loop-slot-init g c = record { front = front_none _ _ _ _ _ c.requires.raw c.fits-page c.told-page; later = g.met.M.Machine.later_self _; quiet = refl }

pub returns-in_err-rename_slot-clause-looks : goal.returns-in_err-rename_slot-clause-looks
returns-in_err-rename_slot-clause-looks g c =
    looks_at_most (c.loop-slot.slot + 1) 512 _ _ (omega arith) (looks_on c.loop-slot.slot 1 _ _ _ c.loop-slot.invariant.front.looks c.rename_slot.ensures.looks)

pub returns-then-branch-clause-looks : goal.returns-then-branch-clause-looks
returns-then-branch-clause-looks g c =
    looks_at_most (c.loop-slot.slot + 1) 512 _ _ (omega arith) (looks_on c.loop-slot.slot 1 _ _ _ c.loop-slot.invariant.front.looks c.rename_slot.ensures.looks)

pub returns-then-branch-clause-page : goal.returns-then-branch-clause-page
returns-then-branch-clause-page g c =
    front_lost _ _ _ _ _ _ _ _ _ _ c.requires.level c.loop-slot.invariant.front c.rename_slot.ensures.looks c.in_ok-rename_slot.ensures.inside c.in_ok-rename_slot.ensures.page c.loop-slot-test.true
    (sym c.if-branch.true ∙ c.in_ok-rename_slot.ensures.lost)

pub loop-slot-preserved : goal.loop-slot-preserved
loop-slot-preserved g c =
    record {
      front = front_more _ _ _ _ _ _ _ _ _ _ c.requires.level c.loop-slot.invariant.front c.rename_slot.ensures.looks c.in_ok-rename_slot.ensures.inside c.in_ok-rename_slot.ensures.page c.loop-slot-test.true
          (sym c.if-branch.false ∙ c.in_ok-rename_slot.ensures.lost);
      later = g.met.M.Machine.later_on _ _ _ c.loop-slot.invariant.later c.rename_slot.ensures.later;
      quiet = c.in_ok-rename_slot.ensures.cause.quiet ∙ c.loop-slot.invariant.quiet;
    }

pub returns-clause-page : goal.returns-clause-page
returns-clause-page g c =
    let at : c.loop-slot.slot ≡ 512 = omega arith in
    front_whole _ _ _ c.args.kind _ _ _ (subst (λ n. Front (g.M.Machine.state c.args.machine.now) (g.M.Machine.state c.loop-slot.machine) c.args.pfn c.args.kind c.args.level c.args.page.now n c.loop-slot.page) at c.loop-slot.invariant.front)
