use Rattle.mig_guest.proofs.Common.{ℕ, List, ◌∷◌, map, sym, ap, ◌∙◌, rules}
use Rattle.std.proofs.Common.{eq-eqb}
use Rattle.mig_guest.proofs.KeyedMaps.{shown}
use Rattle.mig_guest.proofs.PartOrder.{part_total, part_exact}
use Rattle.mig_guest.proofs.PartMaps.{items}
use Rattle.mig_guest.proofs.PartCursor.{from_range, is_start, found_none, found_one, found_other}
use Rattle.mig_guest.proofs.parts.Parts.next_of_code.Goals as goal

pub returns-then-key-code : goal.returns-then-key-code
returns-then-key-code c =
    let lo = c.start_of-start.result in let m = c.args.self.now in
    found_other c.args.code c.args.after lo (is_start c.args.code c.args.after lo c.requires c.start_of-start.ensures.behind c.start_of-start.ensures.least) m _ _
    (from_range part_total part_exact items c.self.inside.parts.entries m c.self.view_is c.range.ensures.ordered lo c.range.result (c.range.ensures.between tt) ∙ ap (map (shown items)) c.in-Some.ensures.steps)
    (search rules)

pub returns-else-key-code : goal.returns-else-key-code
returns-else-key-code c =
    let lo = c.start_of-start.result in let m = c.args.self.now in let rest = map (shown items) c.next.new.self in
    found_one c.args.code c.args.after lo (is_start c.args.code c.args.after lo c.requires c.start_of-start.ensures.behind c.start_of-start.ensures.least) m (c.in-Some.key.now, c.as_slice.result.now) rest
    (from_range part_total part_exact items c.self.inside.parts.entries m c.self.view_is c.range.ensures.ordered lo c.range.result (c.range.ensures.between tt)
    ∙ ap (map (shown items)) c.in-Some.ensures.steps ∙ ap (λ (bytes : List ℕ). (c.in-Some.key.now, bytes) ∷ rest) (sym c.as_slice.ensures.value))
    (eq-eqb c.in-Some.key.now.code c.args.code c.if-key-code.false)

pub returns-in-None : goal.returns-in-None
returns-in-None c =
    let lo = c.start_of-start.result in let m = c.args.self.now in
    found_none c.args.code c.args.after lo (is_start c.args.code c.args.after lo c.requires c.start_of-start.ensures.behind c.start_of-start.ensures.least) m
    (from_range part_total part_exact items c.self.inside.parts.entries m c.self.view_is c.range.ensures.ordered lo c.range.result (c.range.ensures.between tt) ∙ ap (map (shown items)) c.in-None.ensures.steps.0)
