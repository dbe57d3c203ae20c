-- Whether a host has a frame or a part from a key on.
use Rattle.mig_image.proofs.Common.{◌≡◌, ℕ, Bool, true, false, not, nat_le, Option, Some, None, is_some, IsSome, refl, sym, ap, ◌∙◌, arith, list_any, le-leb, true≢false, false_from_ne_true, none-some, IsTotalOrder, nat_cmp_total, is_lt, ordering_reverse, Ordering, Less, Equal, Greater, FinMap, IsAntisymmetric, nat_cmp-IsAntisymmetric, PartKey, part_cmp, HostFrames, PartMap, part_total, part_exact, has_part_from, NextKey, some_entry, no_entry, none_passes}
use Rattle.std.specs.FinMap as maps

module _ {K X : Type 0} {R : K → K → Ordering} (total : IsTotalOrder R) (exact : IsAntisymmetric R) (p : K → Bool) (m : FinMap R X) where
  -- a key of the map passes
  some_key : (q : K) → p q ≡ true → IsSome (maps.get m q) → list_any (λ e. p e.0) (maps.entries m) ≡ true
  some_key q passes there = by (maps.get m q) refl there
    where
      by : (o : Option X) → maps.get m q ≡ o → IsSome o → list_any (λ e. p e.0) (maps.entries m) ≡ true
      by None is there = let wrong : false ≡ true = there in cc
      by (Some v) is there = some_entry total exact (λ e. p e.0) m q v is passes

  -- no key that passes is one of the map's
  no_key : ((q : K) → p q ≡ true → maps.get m q ≡ None) → list_any (λ e. p e.0) (maps.entries m) ≡ false
  no_key none = no_entry total exact (λ e. p e.0) m (λ k v is. false_from_ne_true (p k) (λ passes. none-some v (sym (none k passes) ∙ is)))

  -- where none passes
  not_there : (q : K) → p q ≡ true → list_any (λ e. p e.0) (maps.entries m) ≡ false → maps.get m q ≡ None
  not_there q passes none = by (maps.get m q) refl
    where
      by : (o : Option X) → maps.get m q ≡ o → maps.get m q ≡ None
      by None is = is
      by (Some v) is = absurd (true≢false (sym passes ∙ none_passes total exact (λ e. p e.0) m q v none is))

-- without a frame from this number on there is none of this number
pub frame_absent : (frames : HostFrames) (pfn : ℕ) → list_any (λ e. nat_le pfn e.0) (maps.entries frames) ≡ false → maps.get frames pfn ≡ None
frame_absent frames pfn none = not_there nat_cmp_total nat_cmp-IsAntisymmetric (nat_le pfn) frames pfn (le-leb pfn pfn (omega arith)) none

-- ---- a part of this key or of a greater one

module _ (key : PartKey) (parts : PartMap) where
  abbrev at_least : PartKey → Bool
  at_least k = not (is_lt (part_cmp k key))

  itself : (r : Ordering) → r ≡ ordering_reverse r → not (is_lt r) ≡ true
  itself Less e = cc
  itself Equal e = refl
  itself Greater e = refl

  -- the part itself
  pub part_there : IsSome (maps.get parts key) → has_part_from parts key ≡ true
  part_there there = some_key part_total part_exact at_least parts key (itself (part_cmp key key) (part_total.antisymm key key)) there

  -- the next part, where that of the key isn't there
  pub parts_from : (r : Option PartKey) → maps.get parts key ≡ None → NextKey parts (Some key) r → is_some r ≡ has_part_from parts key
  parts_from None absent none = sym (no_key part_total part_exact at_least parts (λ k passes. by k passes (part_cmp k key) refl))
    where
      by : (k : PartKey) → at_least k ≡ true → (r : Ordering) → part_cmp k key ≡ r → maps.get parts k ≡ None
      by k passes Equal is = ap (maps.get parts) (part_exact k key is) ∙ absent
      by k passes Less is = absurd (true≢false (sym passes ∙ ap (λ r. not (is_lt r)) is))
      by k passes Greater is = none k (part_total.antisymm key k ∙ ap ordering_reverse is)
  parts_from (Some q) absent next =
      sym (some_key part_total part_exact at_least parts q (ap (λ r. not (is_lt r)) (part_total.antisymm q key ∙ ap ordering_reverse next.above)) next.there)
