-- The order of part keys: by code, then by the two keys.
use Rattle.std.specs.Prelude.{◌≡◌, Option, Some, None}
use Rattle.std.specs.declared.cmp.Ordering.{Ordering}
use Rattle.mig_guest.specs.Common.{Less, nat_cmp, on, then_cmp}
use Rattle.mig_guest.specs.declared.part_key.PartKey.{PartKey}

-- compares the codes, then key1, then key2
abbrev pub part_cmp : PartKey → PartKey → Ordering
part_cmp = then_cmp (on (λ k. k.code) nat_cmp) (then_cmp (on (λ k. k.key1) nat_cmp) (on (λ k. k.key2) nat_cmp))

-- k is above the key, if there is one
abbrev pub IsAbove : Option PartKey → PartKey → Type 0
IsAbove None k = Unit {0}
IsAbove (Some a) k = part_cmp a k ≡ Less
