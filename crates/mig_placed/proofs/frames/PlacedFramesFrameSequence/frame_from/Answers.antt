use Rattle.mig_placed.proofs.Seen.{first_frame, none_from_placed}
use Rattle.mig_placed.proofs.frames.PlacedFramesFrameSequence.frame_from.Goals as goal

pub returns-in-Some-clause-some : goal.returns-in-Some-clause-some
returns-in-Some-clause-some g c =
    first_frame (g.P.PageFile.bytes c.args.self.now.file.now) c.args.self.now.places.now c.args.place c.pages_at.result (c.in-Some.pfn, c.in-Some.cell)
    c.in-Some.ensures.first c.pages_at.ensures.none c.pages_at.ensures.one c.pages_at.ensures.few

pub returns-in-None-clause-none : goal.returns-in-None-clause-none
returns-in-None-clause-none g c = none_from_placed (g.P.PageFile.bytes c.args.self.now.file.now) c.args.self.now.places.now c.args.place c.in-None.ensures.none
