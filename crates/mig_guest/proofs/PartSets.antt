-- What setting parts one after another does to the others, and to a guest.
use Rattle.mig_guest.proofs.Common.{◌≡◌, ◌≢◌, ℕ, true, false, cond, not, nat_eq, List, [], ◌∷◌, Some, None, refl, sym, ap, ◌∙◌, arith, common_steps, AllByRecursion, eq_by_cmp, PartKey, part_cmp, Part, PartMap, put_part, put_parts}
use Rattle.std.specs.FinMap as maps
use Rattle.mig_guest.proofs.PartOrder.{part_total, part_exact}
use Rattle.mig_guest.proofs.KeyedMaps.{tied, insert_gives, insert_leaves}

-- a part set twice is set once
pub put_again : (m : PartMap) (k : PartKey) (a b : List ℕ) → maps.insert (maps.insert m k a) k b ≡ maps.insert m k b
put_again m k a b = maps.same_map part_total part_exact _ _ (λ q.
    maps.get-insert part_total (maps.insert m k a) k b q ∙ ap (cond (eq_by_cmp part_cmp q k) (Some b)) (maps.get-insert part_total m k a q)
    ∙ elim (eq_by_cmp part_cmp q k) as (λ t. cond t (Some b) (cond t (Some a) (maps.get m q)) ≡ cond t (Some b) (maps.get m q)) [ true ↦ refl | false ↦ refl ]
    ∙ sym (maps.get-insert part_total m k b q))

-- a part that was set is there
pub put_there : (m : PartMap) (k : PartKey) (a : List ℕ) → maps.get (maps.insert m k a) k ≡ Some a
put_there m k a = insert_gives part_total m k a

-- the parts of other codes stay
pub put_other : (m : PartMap) (p : PartKey × List ℕ) (q : PartKey) → q.code ≢ p.0.code → maps.get (put_part m p) q ≡ maps.get m q
put_other m p q differ = insert_leaves part_total m p.0 p.1 q (elim (eq_by_cmp part_cmp q p.0) as (λ t. eq_by_cmp part_cmp q p.0 ≡ t → t ≡ false) [
  | true ↦ λ t. absurd (differ (ap (λ (k : PartKey). k.code) (part_exact q p.0 (tied _ t))))
  | false ↦ λ t. refl
] refl)

pub puts_other : (code : ℕ) (ps : List Part) → AllByRecursion (λ p. p.0.code ≡ code) ps → (m : PartMap) (q : PartKey) → q.code ≢ code → maps.get (put_parts m ps) q ≡ maps.get m q
puts_other code [] of m q differ = refl
puts_other code (p ∷ ps) of m q differ = puts_other code ps of.1 (put_part m p) q differ ∙ put_other m p q (λ e. differ (e ∙ of.0))

unequal : (n m : ℕ) → n ≢ m → not (nat_eq n m) ≡ true
unequal n m differ = grind (arith, common_steps)

-- what stays where all parts of a code are taken away
pub cleared_other : (code : ℕ) (m : PartMap) (q : PartKey) → q.code ≢ code → maps.get (maps.retain_keys m (λ k. not (nat_eq k.code code))) q ≡ maps.get m q
cleared_other code m q differ =
    maps.get-retain_keys m (λ (k : PartKey). not (nat_eq k.code code)) q (λ x tie. ap (λ (k : PartKey). not (nat_eq k.code code)) (sym (part_exact q x tie)))
    ∙ ap (λ b. cond b (maps.get m q) None) (unequal q.code code differ)
