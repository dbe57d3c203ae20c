-- Parts set one after another in the order of their keys: the map has them, and else what it had.
use Rattle.mig_restore_form.proofs.Common.{◌≡◌, List, [], ◌∷◌, Option, None, Some, refl, ap, ◌∙◌, part_cmp, Part, PartMap, put_part, put_parts, option_or, eq_by_cmp, PartKey, part_total, part_exact, find, is_sorted, T, found_first}
use Rattle.std.specs.FinMap.Entries.{below_all}
use Rattle.mig_guest.proofs.PartCursor.{both_of}
use Rattle.std.specs.FinMap as maps

pub or_none : {X : Type 0} (o : Option X) → option_or o None ≡ o
or_none None = refl
or_none (Some x) = refl

pub parts_set : (m : PartMap) (ps : List Part) (q : PartKey) → T (is_sorted part_cmp ps) → maps.get (put_parts m ps) q ≡ option_or (find part_cmp q ps) (maps.get m q)
parts_set m [] q h = refl
parts_set m (p ∷ ps) q h =
    let (first, others) = both_of (below_all part_cmp p.0 ps) (is_sorted part_cmp ps) h in
    parts_set (put_part m p) ps q others ∙ ap (option_or (find part_cmp q ps)) (maps.get-insert part_total m p.0 p.1 q)
    ∙ found_first part_total part_exact q p ps (maps.get m q) (eq_by_cmp part_cmp q p.0) refl first
