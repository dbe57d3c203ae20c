-- What the mark of a frame says: no page, a page of zeros, or a place.
use Rattle.mig_pagestore.proofs.Common.{◌≡◌, ℕ, zero, suc, ◌+◌, ◌-◌, ◌<◌, ◌^◌, Bool, true, false, cond, List, length, Option, Some, None, is_some, refl, sym, ap, ◌∙◌, arith, eqb-true, eq-eqb, ne_eqb, is_place, length-replicate}
use Rattle.mig_pagestore.specs.FrameView.{zero_bytes, is_zeros, place_of_mark, zeros_in, page_at_place, page_of_mark, cell_mark, mark_or_0, place_or_0}

zeros_are : (m : ℕ) → is_zeros m ≡ true → m ≡ 2251799813685248
unfolding is_zeros
zeros_are m e = eqb-true m 2251799813685248 e

pub small_not_zeros : (m : ℕ) → m < 2 ^ 51 → is_zeros m ≡ false
unfolding is_zeros
small_not_zeros m lt = ne_eqb m 2251799813685248 (λ e. omega (arith, lt, e))

pub zeros_is : (m : ℕ) → m ≡ 2251799813685248 → is_zeros m ≡ true
unfolding is_zeros
zeros_is m e = eq-eqb m 2251799813685248 e

pub else_is : (m : ℕ) → (m ≡ 2251799813685248 → ⊥) → is_zeros m ≡ false
unfolding is_zeros
else_is m ne = ne_eqb m 2251799813685248 ne

pub zeros_some : (m : ℕ) → is_zeros m ≡ true → 0 < m
zeros_some m e = omega (arith, zeros_are m e)

some_under : (b : Bool) (m : ℕ) → 0 < cond b 0 m → 0 < m
some_under true m lt = absurd (omega (arith, lt))
some_under false m lt = lt

-- what has a place has a mark
pub mark_some : (m : ℕ) → 0 < place_of_mark m → 0 < m
mark_some m lt = some_under (is_zeros m) m lt

not_under : (b : Bool) (m : ℕ) → 0 < cond b 0 m → b ≡ false
not_under true m lt = absurd (omega (arith, lt))
not_under false m lt = refl

-- what has a place isn't zeros
pub placed_not_zeros : (m : ℕ) → 0 < place_of_mark m → is_zeros m ≡ false
placed_not_zeros m lt = not_under (is_zeros m) m lt

pub place_else : (m : ℕ) → is_zeros m ≡ false → place_of_mark m ≡ m
place_else m e = ap (λ b. cond b 0 m) e

pub place_small : (m : ℕ) → m < 2 ^ 51 → place_of_mark m ≡ m
place_small m lt = place_else m (small_not_zeros m lt)

pub no_zeros_else : (m : ℕ) → is_zeros m ≡ false → zeros_in m ≡ 0
no_zeros_else m e = ap (λ b. cond b 1 0) e

pub no_zeros_small : (m : ℕ) → m < 2 ^ 51 → zeros_in m ≡ 0
no_zeros_small m lt = no_zeros_else m (small_not_zeros m lt)

parts_under : (b : Bool) (m : ℕ) → (b ≡ true → 0 < m) → 1 - cond b 0 m ≡ (1 - m) + cond b 1 0
parts_under true m some = omega (arith, some refl)
parts_under false m some = omega arith

-- what has no place has no mark, or is zeros
pub mark_parts : (m : ℕ) → 1 - place_of_mark m ≡ (1 - m) + zeros_in m
mark_parts m = parts_under (is_zeros m) m (zeros_some m)

place_is_some : (m : ℕ) → 0 < m → true ≡ is_place m
place_is_some zero lt = absurd (omega (arith, lt))
place_is_some (suc m) lt = refl

-- the page is the same where it is the same at its place
same_under : (pages ps : List (List ℕ)) (b : Bool) (m : ℕ) → page_at_place ps (cond b 0 m) ≡ page_at_place pages (cond b 0 m)
    → cond b (Some zero_bytes) (page_at_place ps m) ≡ cond b (Some zero_bytes) (page_at_place pages m)
same_under pages ps true m e = refl
same_under pages ps false m e = e

pub page_same : (pages ps : List (List ℕ)) (m : ℕ) → page_at_place ps (place_of_mark m) ≡ page_at_place pages (place_of_mark m) → page_of_mark ps m ≡ page_of_mark pages m
page_same pages ps m e = same_under pages ps (is_zeros m) m e

page_under : (pages : List (List ℕ)) (b : Bool) (m : ℕ) → 0 < cond b 0 m → cond b (Some zero_bytes) (page_at_place pages m) ≡ page_at_place pages (cond b 0 m)
page_under pages true m lt = absurd (omega (arith, lt))
page_under pages false m lt = refl

is_some_under : (pages : List (List ℕ)) (b : Bool) (m : ℕ) → (b ≡ true → 0 < m) → is_some (page_at_place pages m) ≡ is_place m → is_some (cond b (Some zero_bytes) (page_at_place pages m)) ≡ is_place m
is_some_under pages true m some else = place_is_some m (some refl)
is_some_under pages false m some else = else

whole_under : (pages : List (List ℕ)) (b : Bool) (m : ℕ) (w : List ℕ) → (page_at_place pages m ≡ Some w → length w ≡ 4096) → cond b (Some zero_bytes) (page_at_place pages m) ≡ Some w → length w ≡ 4096
whole_under pages true m w else e = let is : zero_bytes ≡ w = cc in ap length (sym is) ∙ length-replicate {A = ℕ} 4096 0
whole_under pages false m w else e = else e

module _ (pages : List (List ℕ)) where
  pub page_zeros : (m : ℕ) → is_zeros m ≡ true → page_of_mark pages m ≡ Some zero_bytes
  page_zeros m e = ap (λ b. cond b (Some zero_bytes) (page_at_place pages m)) e

  pub page_else : (m : ℕ) → is_zeros m ≡ false → page_of_mark pages m ≡ page_at_place pages m
  page_else m e = ap (λ b. cond b (Some zero_bytes) (page_at_place pages m)) e

  pub page_small : (m : ℕ) → m < 2 ^ 51 → page_of_mark pages m ≡ page_at_place pages m
  page_small m lt = page_else m (small_not_zeros m lt)

  pub page_placed : (m : ℕ) → 0 < place_of_mark m → page_of_mark pages m ≡ page_at_place pages (place_of_mark m)
  page_placed m lt = page_under pages (is_zeros m) m lt

  pub mark_is_some : (m : ℕ) → is_some (page_at_place pages m) ≡ is_place m → is_some (page_of_mark pages m) ≡ is_place m
  mark_is_some m else = is_some_under pages (is_zeros m) m (zeros_some m) else

  pub mark_is_whole : (m : ℕ) (w : List ℕ) → (page_at_place pages m ≡ Some w → length w ≡ 4096) → page_of_mark pages m ≡ Some w → length w ≡ 4096
  mark_is_whole m w else e = whole_under pages (is_zeros m) m w else e

-- ---- the mark of a cell or none

module _ (pages : List (List ℕ)) where
  pub page_of_cell : (o : Option ℕ) → 0 < place_or_0 o → page_of_mark pages (mark_or_0 o) ≡ page_at_place pages (place_or_0 o)
  page_of_cell None some = absurd (omega (arith, some))
  page_of_cell (Some c) some = page_placed pages (cell_mark c) some

pub marked : (o : Option ℕ) → 0 < place_or_0 o → 0 < mark_or_0 o
marked None some = absurd (omega (arith, some))
marked (Some c) some = mark_some (cell_mark c) some

pub placed_zeros : (o : Option ℕ) → 0 < place_or_0 o → is_zeros (mark_or_0 o) ≡ false
placed_zeros None some = absurd (omega (arith, some))
placed_zeros (Some c) some = placed_not_zeros (cell_mark c) some

pub zeros_no_place : (o : Option ℕ) → is_zeros (mark_or_0 o) ≡ true → place_or_0 o ≡ 0
zeros_no_place None e = refl
zeros_no_place (Some c) e = ap (λ b. cond b 0 (cell_mark c)) e

pub place_is_mark : (o : Option ℕ) → is_zeros (mark_or_0 o) ≡ false → place_or_0 o ≡ mark_or_0 o
place_is_mark None e = refl
place_is_mark (Some c) e = ap (λ b. cond b 0 (cell_mark c)) e

pub mark_place : (o : Option ℕ) → place_of_mark (mark_or_0 o) ≡ place_or_0 o
mark_place None = place_small 0 (omega arith)
mark_place (Some c) = refl
