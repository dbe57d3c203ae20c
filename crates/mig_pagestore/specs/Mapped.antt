-- A finite map whose values are read otherwise.
use Rattle.std.specs.Prelude.{map}
use Rattle.mig_pagestore.specs.Common.{nat_cmp}
use Rattle.std.specs.FinMap as maps

-- the map with g of each value
unfoldable pub mapped : {X Y : Type 0} → (X → Y) → maps.FinMap nat_cmp X → maps.FinMap nat_cmp Y
mapped g m = maps.from_entries (map (λ e. (e.0, g e.1)) (maps.entries m))
