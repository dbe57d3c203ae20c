-- The texts of records.
use Rattle.std.specs.Prelude.{ℕ, Bool, true, List, [], ◌∷◌, ◌++◌}
use Rattle.mig_show.specs.Common.{comma_if, compact_text}
use Rattle.mig_show.specs.Tree.{record_tree}
use Rattle.mig_show.specs.declared.record.Seen1.{Seen1}

-- one after another, with a comma before each but the first, or before each where others are before them
abbrev pub records_text : Bool → List Seen1 → List ℕ
records_text later [] = []
records_text later (shown ∷ list) = comma_if later ++ (compact_text (record_tree shown) ++ records_text true list)
