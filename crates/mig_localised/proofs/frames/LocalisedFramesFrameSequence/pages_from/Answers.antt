use Rattle.mig_localised.proofs.Over.{never_none, some_page, then_rest, told_page}
use Rattle.mig_localised.proofs.frames.LocalisedFramesFrameSequence.pages_from.Goals as goal

pub returns-in-Ok-clause-bytes : goal.returns-in-Ok-clause-bytes
returns-in-Ok-clause-bytes g c = λ told.
    told_page c.args.self.now.outline.now.frames (g.P.PageFile.bytes c.args.self.now.file.now) c.args.self.now.places.now c.args.place (c.in-Some.pfn, c.in-Some.cell)
    c.in-Some.ensures.first _ told c.in-Ok.ensures.bytes

pub returns-in-Ok-clause-behind : goal.returns-in-Ok-clause-behind
returns-in-Ok-clause-behind g c =
    then_rest c.args.self.now.outline.now.frames (g.P.PageFile.bytes c.args.self.now.file.now) c.args.self.now.places.now c.args.place (c.in-Some.pfn, c.in-Some.cell) c.in-Some.ensures.first

pub returns-in-Err-clause-wanted : goal.returns-in-Err-clause-wanted
returns-in-Err-clause-wanted g c =
    let file = g.P.PageFile.bytes c.args.self.now.file.now in
    some_page c.args.self.now.outline.now.frames file c.args.self.now.places.now c.args.place (c.in-Some.pfn, c.in-Some.cell) c.in-Some.ensures.first
    c.args._most c.requires.some (c.in-Err.ensures.wanted file)

pub returns-in_default-clause-few : goal.returns-in_default-clause-few
returns-in_default-clause-few g c =
    absurd (never_none c.args.self.now.outline.now.frames (g.P.PageFile.bytes c.args.self.now.file.now) c.args.self.now.places.now c.args.place c.args._most c.in_default.ensures.none c.requires.some c.requires.has)
