use Rattle.mig_placing.proofs.Common.{◌∙◌, ap, subst, rules, left_at, ArePlaced}
use Rattle.std.specs.FinMap as maps
use Rattle.mig_placing.proofs.Images.{image_placed}
use Rattle.mig_placing.proofs.image.place_image.Goals as goal

pub returns-in-Ok-clause-read : goal.returns-in-Ok-clause-read
returns-in-Ok-clause-read g c =
    let bytes = g.P.PageFile.bytes in
    image_placed (λ keeper all left frames. ArePlaced (bytes keeper.file.now) keeper.places all left frames) bytes c.new-placing.result c.take_image.new.keeper c.into_guest.result c.in-Ok.taken c.args.src.now.at _ _
    (λ all frames noted. (ap bytes c.into_guest.ensures.file ∙ noted.told, search rules)) c.into_guest.ensures.outline
    (bytes c.args.src.now.file.now)
    (λ all told. subst (λ file. ArePlaced (bytes c.new-placing.result.file.now) c.new-placing.result.places all (left_at (bytes file) c.args.src.now.at) maps.empty) c.file.ensures (c.new-placing.ensures.begun all c.args.src.now.at (ap bytes c.file.ensures ∙ told))) c.in-Ok.ensures.read c.in-Ok.ensures.noted
