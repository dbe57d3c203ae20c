-- A page behind the others that is filled, and comes to be that of a frame.
use Rattle.mig_pagestore.proofs.Common.{◌≡◌, ℕ, zero, suc, ◌+◌, ◌-◌, ◌<◌, ◌≤◌, ◌^◌, true, false, cond, inl, inr, List, [], ◌∷◌, ◌++◌, length, set, slice_get, Some, refl, sym, ap, ◌∙◌, subst, arith, length-append, ValueMap, PageType, type_has_data, Placed, IsCell, IsLed, SameBut, is_place, place_of_page, set_back, cell_type, cell_mark, is_zeros, place_of_mark, zeros_in, page_of_mark}
use Rattle.mig_pagestore.proofs.FrameCells.{some_place}
use Rattle.std.specs.FinMap as maps
use Rattle.mig_pagestore.specs.Filling.{StaysLast, GivesBack, PlacesLast}
use Rattle.mig_pagestore.proofs.Marks.{zeros_some, place_small, no_zeros_small, zeros_no_place, page_zeros}
use Rattle.mig_pagestore.proofs.Packing.{get_right}
use Rattle.mig_pagestore.proofs.Led.{place_in_range, led_put, led_without, led_over, same_over, here_over, place_is, length_behind, led_behind, here_behind, same_behind}

-- the last page is written over, and reads as what was written
pub last_over : (pages ps : List (List ℕ)) (y w v : List ℕ) (p : ℕ) → ps ≡ pages ++ y ∷ [] → p ≡ length pages → slice_get (set ps p w) p ≡ Some v → (set ps p w ≡ pages ++ w ∷ []) × (w ≡ v)
last_over pages ps y w v p is at got =
    let over : set ps p w ≡ pages ++ w ∷ [] = ap (λ l. set l p w) is ∙ set_back pages (y ∷ []) p 0 w (omega (arith, at)) in
    let here : Some w ≡ Some v = sym (get_right pages (w ∷ []) p 0 (omega (arith, at))) ∙ sym (ap (λ l. slice_get l p) over) ∙ got in
    (over, cc)

pub same_front : (xs ys : List (List ℕ)) (x y : List ℕ) → xs ++ x ∷ [] ≡ ys ++ y ∷ [] → xs ≡ ys
same_front [] [] x y e = refl
same_front [] (b ∷ ys) x y e = absurd (omega (arith, ap length e, length-append ys (y ∷ [])))
same_front (a ∷ xs) [] x y e = absurd (omega (arith, ap length e, length-append xs (x ∷ [])))
same_front (a ∷ xs) (b ∷ ys) x y e =
    let head : a ≡ b = cc in let others : xs ++ x ∷ [] ≡ ys ++ y ∷ [] = cc in let front = same_front xs ys x y others in λ i. head i ∷ front i

-- the last page, as it's read
pub last_is : (all pages : List (List ℕ)) (page w : List ℕ) (n : ℕ) → all ≡ pages ++ page ∷ [] → n ≡ length all → slice_get all (n - 1) ≡ Some w → page ≡ w
last_is all pages page w n is many got =
    let here : Some page ≡ Some w = sym (get_right pages (page ∷ []) (n - 1) 0 (omega (arith, many, ap length is, length-append pages (page ∷ [])))) ∙ sym (ap (λ l. slice_get l (n - 1)) is) ∙ got in cc

-- the last page is taken out again
pub last_out : (old pushed new : Placed) (y w r : List ℕ) (p : ℕ) → pushed.pages ≡ old.pages ++ y ∷ [] → pushed.room + 1 ≡ old.room → p ≡ length old.pages → set pushed.pages p w ≡ new.pages ++ r ∷ [] → new.room ≡ pushed.room + 1 → new ≡ old
last_out old pushed new y w r p is less at out more =
    let pages = same_front new.pages old.pages r w (sym out ∙ ap (λ l. set l p w) is ∙ set_back old.pages (y ∷ []) p 0 w (omega (arith, at))) in
    let room : new.room ≡ old.room = omega (arith, less, more) in
    λ i. record { pages = pages i; room = room i }

-- the cell of a frame whose page was filled
pub filled_cell : (d p : ℕ) (t : PageType) → 0 < p → type_has_data t ≡ true → cell_type d ≡ t → cell_mark d ≡ p → IsCell d
filled_cell d p t some paged type mark = record {
  there = λ e. let none : type_has_data t ≡ false = ap type_has_data (sym type ∙ e) in let no : false ≡ true = sym none ∙ paged in cc;
  in_step = ap is_place mark ∙ some_place p some ∙ sym paged ∙ ap type_has_data (sym type);
}

-- a page w that was behind the others is the page of k, which has this mark
pub record IsOfFrame (cells : ValueMap) (pfns : List ℕ) (pages : List (List ℕ)) (k : ℕ) (w : List ℕ) (p : ℕ) (us : List ℕ) (ps : List (List ℕ)) (mark : ℕ) : Type 0 where
  pub some : 0 < mark
  pub led : (c : ℕ) → IsCell c → cell_mark c ≡ mark → IsLed (maps.insert cells k c) us ps
  pub here : page_of_mark ps mark ≡ Some w
  pub others : SameBut k pages cells ps cells
  pub long : length us + zeros_in mark ≤ length pfns + (1 - p)

module _ (cells : ValueMap) (pfns : List ℕ) (pages : List (List ℕ)) (k : ℕ) (w : List ℕ) (us : List ℕ) (ps : List (List ℕ)) (mark : ℕ) (led : IsLed cells pfns pages) (few : length pfns < 2 ^ 31) (size : length w ≡ 4096) where
  stays_last : 0 ≡ place_of_page cells k → StaysLast k w pfns pages us ps mark → IsOfFrame cells pfns pages k w 0 us ps mark
  stays_last place (items, more, is) =
      let none : 0 ≤ 0 = omega arith in let long = length_behind cells pfns pages led k w 0 place none us ps items more in
      let small : length us < 2 ^ 51 = omega (arith, long, few) in record {
        some = omega (arith, is, long);
        led = λ c cell here. led_behind cells pfns pages led k w 0 place none us ps items more c cell (ap place_of_mark (here ∙ is) ∙ place_small (length us) small);
        here = ap (page_of_mark ps) is ∙ here_behind cells pfns pages led k w 0 place none us ps items more size few;
        others = same_behind cells pfns pages led k w 0 place none us ps items more;
        long = omega (arith, long, ap zeros_in is, no_zeros_small (length us) small);
      }

  gives_back : 0 ≡ place_of_page cells k → GivesBack w pfns pages us ps mark → IsOfFrame cells pfns pages k w 0 us ps mark
  gives_back place (zeros, items, same, is) = record {
    some = zeros_some mark is;
    led = λ c cell here. subst (λ (l : List ℕ). IsLed (maps.insert cells k c) l ps) (sym items)
        (subst (IsLed (maps.insert cells k c) pfns) (sym same) (led_put cells k c pfns pages (led_without cells pfns pages led k (sym place)) cell (zeros_no_place (Some c) (ap is_zeros here ∙ is))));
    here = page_zeros ps mark is ∙ ap Some (sym zeros);
    others = subst (λ (l : List (List ℕ)). SameBut k pages cells l cells) (sym same) (record { same = λ q ne. refl });
    long = let one : zeros_in mark ≡ 1 = ap {B = ℕ} (λ b. cond b 1 0) is in omega (arith, ap length items, one);
  }

  pub comes_last : (p : ℕ) → p ≡ place_of_page cells k → PlacesLast p k w pfns pages us ps mark → IsOfFrame cells pfns pages k w p us ps mark
  comes_last zero place (inl stays) = stays_last place stays
  comes_last zero place (inr back) = gives_back place back
  comes_last (suc i) place (items, over, is) =
      let some : 0 < suc i = omega arith in let back : suc i - 1 ≡ i = omega arith in let set_is : set pages (suc i - 1) w ≡ ps = ap (λ j. set pages j w) back ∙ sym over in
      let small : suc i < 2 ^ 51 = omega (arith, place, place_in_range cells pfns pages led k, led.as_many, few) in record {
        some = omega (arith, is);
        led = λ c cell here. subst (λ (l : List ℕ). IsLed (maps.insert cells k c) l ps) (sym items)
            (subst (IsLed (maps.insert cells k c) pfns) set_is (led_over cells pfns pages led k w (suc i) place some c cell (place_is cells pfns pages led k w (suc i) place some few c (here ∙ is))));
        here = ap (page_of_mark ps) is ∙ ap (λ (l : List (List ℕ)). page_of_mark l (suc i)) (sym set_is) ∙ here_over cells pfns pages led k w (suc i) place some size few;
        others = subst (λ (l : List (List ℕ)). SameBut k pages cells l cells) set_is (same_over cells pfns pages led k w (suc i) place some);
        long = omega (arith, ap length items, ap zeros_in is, no_zeros_small (suc i) small);
      }
