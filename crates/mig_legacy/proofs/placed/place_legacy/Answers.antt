use Rattle.mig_legacy.proofs.Common.{◌∙◌, ap, subst, rules, left_at}
use Rattle.std.specs.FinMap as maps
use Rattle.mig_legacy.proofs.PlacedStreams.{legacy_placed}
use Rattle.mig_placing.specs.Places.{ArePlaced}
use Rattle.mig_legacy.proofs.placed.place_legacy.Goals as goal

pub returns-in-Ok-finish-clause-read : goal.returns-in-Ok-finish-clause-read
returns-in-Ok-finish-clause-read g c =
    let bytes = g.P.PageFile.bytes in
    legacy_placed (λ keeper all left frames. ArePlaced (bytes keeper.file.now) keeper.places all left frames) bytes c.new-placing.result c.take_parts.new.keeper c.into_guest.result c.in-Ok.seen c.args.src.now.at _ _
    (λ all frames noted. (ap bytes c.into_guest.ensures.file ∙ noted.told, search rules)) (c.into_guest.ensures.outline ∙ c.in-Ok-finish.ensures.ok)
    (bytes c.args.src.now.file.now)
    (λ all told. subst (λ file. ArePlaced (bytes c.new-placing.result.file.now) c.new-placing.result.places all (left_at (bytes file) c.args.src.now.at) maps.empty) c.file.ensures (c.new-placing.ensures.begun all c.args.src.now.at (ap bytes c.file.ensures ∙ told)))
    c.in-Ok.ensures.read c.in-Ok.ensures.noted
