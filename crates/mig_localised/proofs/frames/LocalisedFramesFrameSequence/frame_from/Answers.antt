use Rattle.mig_localised.proofs.Over.{first_frame, none_over}
use Rattle.mig_localised.proofs.frames.LocalisedFramesFrameSequence.frame_from.Goals as goal

pub returns-in-Some-clause-some : goal.returns-in-Some-clause-some
returns-in-Some-clause-some g c =
    let file = g.P.PageFile.bytes c.args.self.now.file.now in
    first_frame c.args.self.now.outline.now.frames file c.args.self.now.places.now c.args.place c.pages_with.result (c.in-Some.pfn, c.in-Some.cell)
    c.in-Some.ensures.first (c.pages_with.ensures.size file) c.pages_with.ensures.few

pub returns-in-None-clause-none : goal.returns-in-None-clause-none
returns-in-None-clause-none g c =
    none_over c.args.self.now.outline.now.frames (g.P.PageFile.bytes c.args.self.now.file.now) c.args.self.now.places.now c.args.place c.in-None.ensures.none
