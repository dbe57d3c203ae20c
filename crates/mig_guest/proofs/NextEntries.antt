-- The first entry from a number on, told by what the map has at each number.
use Rattle.mig_guest.proofs.Common.{◌≡◌, ℕ, ◌+◌, ◌<◌, ◌≤◌, cond, List, [], ◌∷◌, nat_le, Option, Some, None, IfSome, IfNone, refl, sym, ap, ◌∙◌, arith, le-leb, nat_cmp, is_le, is_lt, option_map, Less, FinMap, nat_cmp-IsAntisymmetric, leb-true, common_steps, filter_agree, entries_from, NextEntry, Included, is_from_start}
use Rattle.std.specs.List.{filter}
use Rattle.std.specs.Cmp.{nat_cmp_total}
use Rattle.std.specs.FinMap as maps
use Rattle.mig_guest.proofs.PartCursor.{next_from}
use Rattle.mig_guest.proofs.Found.{none_passes, first_passes}

is_from : (p q : ℕ) → nat_le p q ≡ is_le (nat_cmp p q)
is_from p q = grind (arith, common_steps)

is_behind : (p q : ℕ) → nat_le (p + 1) q ≡ is_lt (nat_cmp p q)
is_behind p q = grind (arith, common_steps)

less : (k q : ℕ) → k < q → nat_cmp k q ≡ Less
less k q lt = grind (arith, common_steps)

-- all numbers are 0 or more
pub from_zero : {X : Type 0} (es : List (ℕ × X)) → entries_from 0 es ≡ es
from_zero [] = refl
from_zero (e ∷ es) = ap (λ b. cond b (e ∷ entries_from 0 es) (entries_from 0 es)) (le-leb 0 e.0 (omega arith)) ∙ ap (λ l. e ∷ l) (from_zero es)

module _ {X : Type 0} (m : FinMap nat_cmp X) (from : ℕ) where
  abbrev es : List (ℕ × X)
  es = maps.entries m

  -- behind the first of them are those from the next number on
  then_behind : (e : ℕ × X) (rest : List (ℕ × X)) → entries_from from es ≡ e ∷ rest → entries_from from es ≡ e ∷ entries_from (e.0 + 1) es
  then_behind e rest first =
      let included : filter (λ f. is_from_start nat_cmp (Included from) f.0) es ≡ e ∷ rest = sym (filter_agree (λ f. nat_le from f.0) (λ f. is_le (nat_cmp from f.0)) (λ f. is_from from f.0) es) ∙ first in
      let behind = filter_agree (λ f. nat_le (e.0 + 1) f.0) (λ f. is_lt (nat_cmp e.0 f.0)) (λ f. is_behind e.0 f.0) es ∙ next_from nat_cmp_total (Included from) m rest e included in
      first ∙ ap (λ l. e ∷ l) (sym behind)

  none_from : ((k : ℕ) → from ≤ k → maps.get m k ≡ None) → (l : List (ℕ × X)) → entries_from from es ≡ l → l ≡ []
  none_from none [] is = refl
  none_from none (e ∷ rest) is =
      let found = first_passes nat_cmp_total nat_cmp-IsAntisymmetric m (nat_le from) e rest is in
      let no : None ≡ Some e.1 = sym (none e.0 (leb-true from e.0 found.0)) ∙ found.1 in cc

  pub first_from : (q : ℕ) (v : X) → maps.get m q ≡ Some v → from ≤ q → ((k : ℕ) → from ≤ k → k < q → maps.get m k ≡ None)
      → (l : List (ℕ × X)) → entries_from from es ≡ l → entries_from from es ≡ (q, v) ∷ entries_from (q + 1) es
  first_from q v got le none [] is = let no : None ≡ Some v = sym (none_passes nat_cmp_total nat_cmp-IsAntisymmetric m (nat_le from) is q (le-leb from q le)) ∙ got in cc
  first_from q v got le none (e ∷ rest) is =
      let found = first_passes nat_cmp_total nat_cmp-IsAntisymmetric m (nat_le from) e rest is in
      let low : e.0 < q → ⊥ = λ lt. let no : None ≡ Some e.1 = sym (none e.0 (leb-true from e.0 found.0) lt) ∙ found.1 in cc in
      let high : q < e.0 → ⊥ = λ lt. let no : None ≡ Some v = sym (found.2 q (le-leb from q le) (less q e.0 lt)) ∙ got in cc in
      let same : e.0 ≡ q = omega (arith, low, high) in
      let value : Some e.1 ≡ Some v = sym found.1 ∙ ap (maps.get m) same ∙ got in
      let has : e.1 ≡ v = cc in
      let one : e ≡ (q, v) = λ i. (same i, has i) in
      then_behind e rest is ∙ ap (λ (f : ℕ × X). f ∷ entries_from (f.0 + 1) es) one

  -- what is least among the numbers from `from` on that have something is the first entry
  pub next_entry : {Y : Type 0} (at : Y → ℕ) (has : Y → X) (r : Option Y) → IfNone r ((k : ℕ) → from ≤ k → maps.get m k ≡ None) → IfSome r (λ y. maps.get m (at y) ≡ Some (has y))
      → IfSome r (λ y. (from ≤ at y) × ((k : ℕ) → from ≤ k → k < at y → maps.get m k ≡ None)) → NextEntry from es (option_map (λ y. (at y, has y)) r)
  next_entry at has None none there least = none_from none (entries_from from es) refl
  next_entry at has (Some y) none there least = first_from (at y) (has y) there least.0 least.1 (entries_from from es) refl
