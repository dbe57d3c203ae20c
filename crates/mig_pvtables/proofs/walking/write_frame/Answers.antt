use Rattle.mig_pvtables.proofs.BlankFrames.{other_written, nothing_written}
use Rattle.mig_pvtables.proofs.walking.write_frame.Goals as goal

pub returns-in_default : goal.returns-in_default
returns-in_default g c = nothing_written (g.S.P2mStep.pages c.args.step.now c.args.index) c.args.guest.now c.args.pfn c.in_default.ensures.value

pub returns-in-Some : goal.returns-in-Some
returns-in-Some g c = other_written (g.S.P2mStep.pages c.args.step.now c.args.index) c.args.guest.now c.args.pfn _ _ c.in-Some.ensures.value c.write_page.ensures.size c.write_page.ensures.page
