use Rattle.mig_guest.proofs.Common.{◌≡◌, List, filter, Option, Some, None, is_some, refl, ap, ◌∙◌, PartKey, Part, parts_behind}
use Rattle.std.specs.FinMap as maps
use Rattle.mig_guest.proofs.PartOrder.{part_total, part_exact}
use Rattle.mig_guest.proofs.PartCursor.{is_above, above, is_key_above, kept_all}
use Rattle.mig_guest.proofs.Found.{none_passes, first_passes}
use Rattle.mig_guest.proofs.parts.Parts.next.Goals as goal

behind_are : (after : Option PartKey) (es : List Part) → filter (λ e. is_above after e.0) es ≡ parts_behind after es
behind_are None es = kept_all es
behind_are (Some k) es = refl

pub returns-in-Some : goal.returns-in-Some
returns-in-Some c =
    let m = c.args.self.now in let after = c.args.after in
    let found = first_passes part_total part_exact m (is_above after) _ _ (behind_are after (maps.entries m) ∙ c.in-Some.ensures) in
    record {
      above = is_key_above after _ found.0;
      there = ap is_some found.1;
      least = λ k is before. found.2 k (above after k is) before;
    }

pub returns-in-None : goal.returns-in-None
returns-in-None c =
    let m = c.args.self.now in let after = c.args.after in
    λ k is. none_passes part_total part_exact m (is_above after) (behind_are after (maps.entries m) ∙ c.in-None.ensures) k (above after k is)
