-- An index of cells that leads to pages, and what a new cell or page does to it.
use Rattle.mig_pagestore.proofs.Common.{◌≡◌, ◌≢◌, ℕ, ◌+◌, ◌-◌, ◌<◌, ◌≤◌, ◌^◌, List, [], ◌∷◌, ◌++◌, length, set, Option, Some, None, refl, sym, ap, ◌∙◌, subst, inl, inr, arith, length-append, length-set, option_map, cases_eq, ValueMap, PageType, IsCell, AreCells, frame_at, whole_page, place_or_0, place_of_page, Leads, IsLed, SameBut, Moved, inserted, inserted_other, removed, removed_other, cell_type, cell_place, page_at_place, cell_mark, page_of_mark, place_of_mark, mark_or_0, mark_of_page, CountsZeros}
use Rattle.std.specs.FinMap as maps
use Rattle.mig_pagestore.proofs.Marks.{marked, placed_zeros, place_small, page_same, page_small, page_placed}
use Rattle.mig_pagestore.proofs.Counts.{count_kept}
use Rattle.mig_pagestore.proofs.FrameCells.{cell_some, cell_moved}
use Rattle.mig_pagestore.proofs.Places.{leads_same, apart, in_range, leads_pushed, last_place, not_last, leads_popped, leads_swapped, whole_is, page_left, page_end, page_over, page_beside}

module _ (cells : ValueMap) (k : ℕ) where
  place_inserted : (c : ℕ) → place_of_page (maps.insert cells k c) k ≡ cell_place c
  place_inserted c = ap place_or_0 (inserted cells k k c refl)

  place_beside : (c q : ℕ) → q ≢ k → place_of_page (maps.insert cells k c) q ≡ place_of_page cells q
  place_beside c q ne = ap place_or_0 (inserted_other cells k q c ne)

  place_removed : place_of_page (maps.remove cells k) k ≡ 0
  place_removed = ap place_or_0 (removed cells k k refl)

  place_left : (q : ℕ) → q ≢ k → place_of_page (maps.remove cells k) q ≡ place_of_page cells q
  place_left q ne = ap place_or_0 (removed_other cells k q ne)

  typed_inserted : (c : ℕ) → ((q d : ℕ) → q ≢ k → maps.get cells q ≡ Some d → IsCell d) → IsCell c → AreCells (maps.insert cells k c)
  typed_inserted c typed is q d e = elim (cases_eq q k) [
    | inl same ↦ let eq : Some c ≡ Some d = sym (inserted cells k q c same) ∙ e in let cd : c ≡ d = cc in subst IsCell cd is
    | inr ne ↦ typed q d ne (sym (inserted_other cells k q c ne) ∙ e)
  ]

  typed_removed : AreCells cells → AreCells (maps.remove cells k)
  typed_removed typed q d e = elim (cases_eq q k) [
    | inl same ↦ let eq : None ≡ Some d = sym (removed cells k q same) ∙ e in absurd (cc)
    | inr ne ↦ typed q d (sym (removed_other cells k q ne) ∙ e)
  ]

  -- a frame without a page is put where the others are led
  pub led_put : (c : ℕ) (pfns : List ℕ) (pages : List (List ℕ)) → IsLed (maps.remove cells k) pfns pages → IsCell c → cell_place c ≡ 0 → IsLed (maps.insert cells k c) pfns pages
  led_put c pfns pages led is none = record {
    typed = typed_inserted c (λ q d ne e. led.typed q d (removed_other cells k q ne ∙ e)) is;
    leads = leads_same (place_of_page (maps.remove cells k)) (place_of_page (maps.insert cells k c)) pfns k led.leads (place_inserted c ∙ none ∙ sym place_removed) (λ q ne. place_beside c q ne ∙ sym (place_left q ne));
    as_many = led.as_many;
  }

-- the frames of a cell or none, where its page is the same
frame_same : (pages ps : List (List ℕ)) (o : Option ℕ) → page_at_place ps (place_or_0 o) ≡ page_at_place pages (place_or_0 o) → option_map (frame_at ps) o ≡ option_map (frame_at pages) o
frame_same pages ps None e = refl
frame_same pages ps (Some c) e = λ i. Some (record { type = cell_type c; page = page_same pages ps (cell_mark c) e i })

-- the frame of a cell whose type and page are known, where the page has a place
pub frame_is : (pages : List (List ℕ)) (o : Option ℕ) (t : PageType) (page : Option (List ℕ)) → 0 < place_or_0 o → option_map cell_type o ≡ Some t → page_at_place pages (place_or_0 o) ≡ page → option_map (frame_at pages) o ≡ Some (record { type = t; page = page })
frame_is pages None t page some e f = cc
frame_is pages (Some c) t page some e f = let h : cell_type c ≡ t = cc in let g : page_of_mark pages (cell_mark c) ≡ page = page_placed pages (cell_mark c) some ∙ f in λ i. Some (record { type = h i; page = g i })

module _ (cells : ValueMap) (pfns : List ℕ) (pages : List (List ℕ)) (led : IsLed cells pfns pages) where
  pub place_in_range : (q : ℕ) → place_of_page cells q ≤ length pages
  place_in_range q = omega (arith, in_range (place_of_page cells) pfns led.leads q, led.as_many)

  module _ (k : ℕ) where
    pub led_without : place_of_page cells k ≡ 0 → IsLed (maps.remove cells k) pfns pages
    led_without none = record {
      typed = typed_removed cells k led.typed;
      leads = leads_same (place_of_page cells) (place_of_page (maps.remove cells k)) pfns k led.leads (place_removed cells k ∙ sym none) (place_left cells k);
      as_many = led.as_many;
    }

    -- a page is put over one
    module _ (w : List ℕ) (p : ℕ) (at : p ≡ place_of_page cells k) (some : 0 < p) where
      pub led_over : (c : ℕ) → IsCell c → cell_place c ≡ p → IsLed (maps.insert cells k c) pfns (set pages (p - 1) w)
      led_over c is leads = record {
        typed = typed_inserted cells k c (λ q d ne e. led.typed q d e) is;
        leads = leads_same (place_of_page cells) (place_of_page (maps.insert cells k c)) pfns k led.leads (place_inserted cells k c ∙ leads ∙ at) (place_beside cells k c);
        as_many = led.as_many ∙ sym (length-set pages (p - 1) w);
      }

      pub same_over : SameBut k pages cells (set pages (p - 1) w) cells
      same_over = record { same = λ q ne. frame_same pages (set pages (p - 1) w) (maps.get cells q) (page_beside pages p (place_of_page cells q) w some (λ e. apart (place_of_page cells) pfns led.leads q k (omega (arith, at, some)) ne (e ∙ at))) }

      pub here_over : length w ≡ 4096 → length pfns < 2 ^ 31 → page_of_mark (set pages (p - 1) w) p ≡ Some w
      here_over size few = page_small (set pages (p - 1) w) p (omega (arith, at, place_in_range k, led.as_many, few)) ∙ page_over pages p w some (omega (arith, at, place_in_range k)) ∙ ap Some (whole_is w size)

      pub place_is : length pfns < 2 ^ 31 → (c : ℕ) → cell_mark c ≡ p → cell_place c ≡ p
      place_is few c e = ap place_of_mark e ∙ place_small p (omega (arith, at, place_in_range k, led.as_many, few))

    -- a page is put behind the others
    module _ (w : List ℕ) (p : ℕ) (at : p ≡ place_of_page cells k) (none : p ≤ 0) (us : List ℕ) (ps : List (List ℕ)) (items : us ≡ pfns ++ k ∷ []) (more : ps ≡ pages ++ w ∷ []) where
      pub length_behind : length us ≡ length pfns + 1
      length_behind = ap length items ∙ length-append pfns (k ∷ [])

      pub led_behind : (c : ℕ) → IsCell c → cell_place c ≡ length us → IsLed (maps.insert cells k c) us ps
      led_behind c is here = record {
        typed = typed_inserted cells k c (λ q d ne e. led.typed q d e) is;
        leads = subst (Leads (place_of_page (maps.insert cells k c))) (sym items)
            (leads_pushed (place_of_page cells) (place_of_page (maps.insert cells k c)) pfns k led.leads (omega (arith, at, none)) (place_inserted cells k c ∙ here ∙ length_behind) (place_beside cells k c));
        as_many = omega (arith, led.as_many, length_behind, ap length more ∙ length-append pages (w ∷ []));
      }

      pub at_behind : length w ≡ 4096 → page_at_place ps (length us) ≡ Some w
      at_behind size = ap (λ (l : List (List ℕ)). page_at_place l (length us)) more ∙ page_end pages w (length us) (omega (arith, length_behind, led.as_many)) ∙ ap Some (whole_is w size)

      pub here_behind : length w ≡ 4096 → length pfns < 2 ^ 31 → page_of_mark ps (length us) ≡ Some w
      here_behind size few = page_small ps (length us) (omega (arith, length_behind, few)) ∙ at_behind size

      pub same_behind : SameBut k pages cells ps cells
      same_behind = subst (λ (l : List (List ℕ)). SameBut k pages cells l cells) (sym more)
          (record { same = λ q ne. frame_same pages (pages ++ w ∷ []) (maps.get cells q) (page_left pages (w ∷ []) (place_of_page cells q) (place_in_range q)) })

-- a cell that is written for another place
module _ (cells : ValueMap) (k p cell d : ℕ) (at : maps.get cells k ≡ Some cell) (typed : AreCells cells) (was : 0 < mark_of_page cells k) (some : 0 < p) (small : p < 2 ^ 51) (type : cell_type d ≡ cell_type cell) (mark : cell_mark d ≡ p) where
  moved_place : cell_place d ≡ p
  moved_place = ap place_of_mark mark ∙ place_small p small

  moved_cell : IsCell d
  moved_cell = cell_moved cell d (typed k cell at) (omega (arith, was, ap mark_or_0 at)) type (omega (arith, moved_place, some))

  pub moved_some : 0 < d
  moved_some = cell_some d moved_cell

  pub moved_is : (new : ValueMap) → new ≡ maps.insert cells k d → Moved cells new k p
  moved_is new set = record { cell = d; is = moved_cell; leads = moved_place; same_type = ap (option_map cell_type) at ∙ ap Some (sym type); set = set }

-- the last ones are taken out of the lists, k goes, and the last one, if it is another, comes to its place
module _ (cells : ValueMap) (pfns us : List ℕ) (last : ℕ) (pages ps : List (List ℕ)) (page : List ℕ) (led : IsLed cells pfns pages) (items : pfns ≡ us ++ last ∷ []) (gone : pages ≡ ps ++ page ∷ []) (k : ℕ) where
  abbrev F : ℕ → ℕ
  F = place_of_page cells

  leads : Leads F (us ++ last ∷ [])
  leads = subst (Leads F) items led.leads

  as_many : length us ≡ length ps
  as_many = omega (arith, led.as_many, ap length items, ap length gone, length-append us (last ∷ []), length-append ps (page ∷ []))

  -- all but the last stay
  before : (q : ℕ) → q ≢ last → page_at_place pages (F q) ≡ page_at_place ps (F q)
  before q ne = ap (λ l. page_at_place l (F q)) gone ∙ page_left ps (page ∷ []) (F q) (omega (arith, not_last F us last leads q ne, as_many))

  pub led_popped : last ≡ k → IsLed (maps.remove cells k) us ps
  led_popped is = record {
    typed = typed_removed cells k led.typed;
    leads = leads_popped F us last leads (place_of_page (maps.remove cells k)) k (place_removed cells k) is (place_left cells k);
    as_many = as_many;
  }

  pub same_popped : last ≡ k → SameBut k pages cells ps cells
  same_popped is = record { same = λ q ne. frame_same pages ps (maps.get cells q) (sym (before q (λ e. ne (e ∙ is)))) }

  pub last_is_there : F last ≡ length us + 1
  last_is_there = last_place F us last leads

  module _ (p : ℕ) (at : p ≡ F k) (some : (p ≡ 0) → ⊥) (ne : last ≢ k) where
    pub last_marked : 0 < mark_of_page cells last
    last_marked = marked (maps.get cells last) (omega (arith, last_is_there))

    pub in_both : (p ≤ length us) × (p ≤ length ps)
    in_both = let lt : p ≤ length us = omega (arith, at, not_last F us last leads k (λ e. ne (sym e))) in (lt, omega (arith, lt, as_many))

    pub small_place : length pfns < 2 ^ 31 → (0 < p) × (p < 2 ^ 51)
    small_place few = (omega (arith, some), omega (arith, few, in_both.0, ap length items, length-append us (last ∷ [])))

    module _ (new : ValueMap) (moved : Moved cells new last p) where
      there : (q : ℕ) → q ≢ last → maps.get new q ≡ maps.get cells q
      there q away = ap (λ m. maps.get m q) moved.set ∙ inserted_other cells last q moved.cell away

      here : maps.get new last ≡ Some moved.cell
      here = ap (λ m. maps.get m last) moved.set ∙ inserted cells last last moved.cell refl

      pub cell_kept : maps.get new k ≡ maps.get cells k
      cell_kept = there k (λ e. ne (sym e))

      pub led_swapped : IsLed (maps.remove new k) (set us (p - 1) last) (set ps (p - 1) page)
      led_swapped = record {
        typed = typed_removed new k (subst AreCells (sym moved.set) (typed_inserted cells last moved.cell (λ q d _ e. led.typed q d e) moved.is));
        leads = subst (λ (n : ℕ). Leads (place_of_page (maps.remove new k)) (set us (n - 1) last)) (sym at)
            (leads_swapped F us last leads (place_of_page (maps.remove new k)) k (place_removed new k) (omega (arith, at, some)) ne
            (place_left new k last ne ∙ ap place_or_0 here ∙ moved.leads ∙ at)
            (λ q other away. place_left new k q other ∙ ap place_or_0 (there q away)));
        as_many = length-set us (p - 1) last ∙ as_many ∙ sym (length-set ps (p - 1) page);
      }

      pub count_swapped : (n : ℕ) → CountsZeros cells n → CountsZeros new n
      count_swapped n count = count_kept cells n count new last there
          (placed_zeros (maps.get new last) (omega (arith, at, some, ap place_or_0 here, moved.leads)) ∙ sym (placed_zeros (maps.get cells last) (omega (arith, last_is_there))))

      abbrev over : List (List ℕ)
      over = set ps (p - 1) page

      last_moved : option_map (frame_at over) (maps.get new last) ≡ option_map (frame_at pages) (maps.get cells last)
      last_moved = frame_is over (maps.get new last) (cell_type moved.cell) (Some (whole_page page)) (omega (arith, at, some, ap place_or_0 here, moved.leads)) (ap (option_map cell_type) here)
          (ap (page_at_place over) (ap place_or_0 here ∙ moved.leads) ∙ page_over ps p page (omega (arith, some)) in_both.1)
          ∙ sym (frame_is pages (maps.get cells last) (cell_type moved.cell) (Some (whole_page page)) (omega (arith, last_is_there)) moved.same_type
          (ap (λ l. page_at_place l (F last)) gone ∙ page_end ps page (F last) (last_is_there ∙ ap (λ n. n + 1) as_many)))

      pub same_swapped : SameBut k pages cells over new
      same_swapped = record {
        same = λ q other. elim (cases_eq q last) [
          | inl e ↦ subst (λ (n : ℕ). option_map (frame_at over) (maps.get new n) ≡ option_map (frame_at pages) (maps.get cells n)) (sym e) last_moved
          | inr away ↦ ap (option_map (frame_at over)) (there q away)
              ∙ frame_same pages over (maps.get cells q) (page_beside ps p (F q) page (omega (arith, some)) (λ e. apart F (us ++ last ∷ []) leads q k (omega (arith, at, some)) other (e ∙ at)) ∙ sym (before q away))
        ];
      }
