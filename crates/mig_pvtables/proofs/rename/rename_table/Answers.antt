use Rattle.mig_pvtables.proofs.Common.{sym, ◌∙◌, arith}
use Rattle.mig_pvtables.proofs.LongSteps.{walk_start, walk_end}
use Rattle.mig_pvtables.proofs.Renamed.{by_frames}
use Rattle.mig_pvtables.proofs.RenameSteps.{same_entry, named, unnamed, other}
use Rattle.mig_pvtables.proofs.rename.rename_table.Goals.{in-Frame+in-Some, in-Frame+in_default-name_of, in_default}
use Rattle.mig_pvtables.proofs.rename.rename_table.Goals as goal

pub loop-slot-init : goal.loop-slot-init
loop-slot-init g c = walk_start c.fits-page c.told-page

pub put_entry-requires-clause-frame : goal.put_entry-requires-clause-frame
put_entry-requires-clause-frame g c =
    c.requires.small c.loop-slot.slot c.in-Frame.frame c.in-Some.name c.loop-slot-test.true
    (sym (same_entry (g.N.FrameNames.names c.args.names.now) c.args.level c.loop-slot.slot c.loop-slot-test.true c.loop-slot.invariant) ∙ sym c.entry.ensures ∙ c.in-Frame.is) (sym c.name_of.ensures ∙ c.in-Some.is)

pub loop-slot-preserved : goal.loop-slot-preserved
loop-slot-preserved g c =
    let names = g.N.FrameNames.names c.args.names.now in let level = c.args.level in let slot = c.loop-slot.slot in let lt = c.loop-slot-test.true in let so_far = c.loop-slot.invariant in elim c.match-entry.branch [
      | in-Frame+in-Some w ↦ named names level slot lt so_far (sym c.entry.ensures ∙ w.in-Frame.is) (sym w.name_of.ensures ∙ w.in-Some.is) (w.page-is ∙ w.put_entry.ensures)
      | in-Frame+in_default-name_of w ↦ unnamed names level slot lt so_far (sym c.entry.ensures ∙ w.in-Frame.is) (sym w.name_of.ensures ∙ w.in_default-name_of.is) w.page-is
      | in_default w ↦ other names level slot lt so_far c.entry.ensures (λ n e. w.in_default.not-Frame n e) w.page-is
    ]

pub returns : goal.returns
returns g c = walk_end c.loop-slot.slot c.loop-slot.invariant (omega (arith, c.loop-slot-test.false, c.loop-slot.auto.slot-end)) ∙ sym (by_frames (g.N.FrameNames.names c.args.names.now) c.args.level c.args.page.now)
