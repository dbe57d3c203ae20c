-- What a search among the keys of the parts finds holds of the parts as they are seen.
use Rattle.mig_guest.proofs.Common.{cond, ◌≡◌, ℕ, List, Option, Some, None, is_some, MutBor, refl, sym, ap, ◌∙◌, option_map, option_copied_mut, lookup, PartKey, PartMap, parts_seen, part_cmp, Vec, is_at}
use Rattle.std.specs.FinMap as maps
use Rattle.mig_guest.proofs.PartOrder.{part_total, part_exact}
use Rattle.mig_guest.proofs.KeyedMaps.{get_seen, seen_insert}

pub is_some_lent : {X : Type 0} (r : Option (MutBor X)) → is_some (option_copied_mut r) ≡ is_some r
is_some_lent None = refl
is_some_lent (Some b) = refl

-- the bytes of a part, as they are seen
abbrev pub items : {Z : Type 0} → PartKey → Vec ℕ Z → List ℕ
items key v = v.items

-- what the list of parts has at a key
abbrev pub part_at : {Z : Type 0} → List (PartKey × Vec ℕ Z) → PartKey → Option (Vec ℕ Z)
part_at es k = lookup (is_at (part_cmp k)) es

pub got : {Z : Type 0} (es : List (PartKey × Vec ℕ Z)) (m : PartMap) → parts_seen es ≡ m → (k : PartKey) → maps.get m k ≡ option_map (λ v. v.items) (part_at es k)
got es m view k = ap (λ (n : PartMap). maps.get n k) (sym view) ∙ get_seen part_total part_exact items es k

-- the parts, where one key has new bytes
pub put_seen : {Z : Type 0} (es fs : List (PartKey × Vec ℕ Z)) (k : PartKey) (v : Vec ℕ Z) (bytes : List ℕ) → v.items ≡ bytes
    → ((q : PartKey) → part_at fs q ≡ cond (is_at (part_cmp k) q) (Some v) (part_at es q))
    → parts_seen fs ≡ maps.insert (parts_seen es) k bytes
put_seen es fs k v bytes is updates = seen_insert part_total part_exact items es fs k v updates ∙ ap (maps.insert (parts_seen es) k) is
