use Rattle.mig_guest.proofs.Common.{ℕ, List, ◌∷◌, map, sym, ap, ◌∙◌}
use Rattle.std.specs.FinMap as maps
use Rattle.mig_guest.proofs.KeyedMaps.{shown}
use Rattle.mig_guest.proofs.PartOrder.{part_total, part_exact}
use Rattle.mig_guest.proofs.PartMaps.{items}
use Rattle.mig_guest.proofs.PartCursor.{from_range, all_behind, behind_one}
use Rattle.mig_guest.proofs.parts.Parts.next_behind.Goals as goal

pub returns-in-Some : goal.returns-in-Some
returns-in-Some c =
    let lo = c.behind-start.result in let m = c.args.self.now in let rest = map (shown items) c.next.new.self in
    behind_one c.args.after lo c.behind-start.ensures.some c.behind-start.ensures.none m (c.in-Some.part.now, c.as_slice.result.now) rest
    (from_range part_total part_exact items c.self.inside.parts.entries m c.self.view_is c.range-others.ensures.ordered lo c.range-others.result (c.range-others.ensures.between tt)
    ∙ ap (map (shown items)) c.in-Some.ensures.steps ∙ ap (λ (bytes : List ℕ). (c.in-Some.part.now, bytes) ∷ rest) (sym c.as_slice.ensures.value))

pub returns-in-None : goal.returns-in-None
returns-in-None c =
    let lo = c.behind-start.result in let m = c.args.self.now in
    all_behind c.args.after lo c.behind-start.ensures.some c.behind-start.ensures.none (maps.entries m)
    ∙ from_range part_total part_exact items c.self.inside.parts.entries m c.self.view_is c.range-others.ensures.ordered lo c.range-others.result (c.range-others.ensures.between tt)
    ∙ ap (map (shown items)) c.in-None.ensures.steps.0
