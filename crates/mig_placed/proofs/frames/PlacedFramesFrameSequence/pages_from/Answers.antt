use Rattle.mig_placed.proofs.Common.{arith, frames_after}
use Rattle.mig_records_pages.proofs.Copying.{some_of_more}
use Rattle.mig_placed.proofs.frames.PlacedFramesFrameSequence.pages_from.Goals as goal

pub returns-in-Err-clause-wanted : goal.returns-in-Err-clause-wanted
returns-in-Err-clause-wanted g c =
    let file = g.P.PageFile.bytes c.args.self.now.file.now in let run = c.find_run-run.result in
    some_of_more 0 run.frames c.args.most (frames_after file c.args.self.now.places.now c.args.place) (omega (arith, c.find_run-run.ensures.most))
    (omega (arith, c.find_run-run.ensures.run.size file, c.if-run-eq0.false))
