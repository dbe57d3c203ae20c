use Rattle.mig_guest.proofs.Common.{ap, ◌∙◌, PartMap}
use Rattle.std.specs.FinMap as maps
use Rattle.mig_guest.proofs.PartMaps.{put_seen}
use Rattle.mig_guest.proofs.parts.Parts.set.Goals as goal

pub returns-in-Ok-insert-clause-ok : goal.returns-in-Ok-insert-clause-ok
returns-in-Ok-insert-clause-ok c =
    put_seen c.self.inside.parts.entries c.insert.new.self.entries c.args.key c.in-Ok.copy c.args.bytes.now (c.in-Ok.ensures.items_if_clones_equal (λ x y e. e)) c.in-Ok-insert.ensures.updates.0
    ∙ ap (λ (m : PartMap). maps.insert m c.args.key c.args.bytes.now) c.self.view_is
