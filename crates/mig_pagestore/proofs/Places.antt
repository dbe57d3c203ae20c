-- Numbers that lead to places, each to its own; and what stands at a place.
use Rattle.mig_pagestore.proofs.Common.{◌≡◌, ◌≢◌, ℕ, zero, suc, ◌+◌, ◌-◌, ◌<◌, ◌≤◌, ◌==◌, Bool, true, false, cond, is_some, replicate, List, [], ◌∷◌, ◌++◌, length, set, slice_get, slice_index, Option, Some, None, Bor, get_or, refl, sym, ap, ◌∙◌, inl, inr, arith, length-append, length-set, get_or-set_same, get_or-set_other, option_copied, cases_eq, eq-eqb, eqb-true, PageType, type_has_data, IsCell, Leads, whole_page, is_place, get_or-append_seam, length-replicate, get_or_append_left, get_or_from_slice_get}
use Rattle.std.proofs.lemmas.Grind.{get_or-set_at}
use Rattle.mig_pagestore.specs.FrameView.{cell_type, cell_mark, page_at_place, page_of_mark}
use Rattle.mig_pagestore.proofs.Marks.{small_not_zeros, page_else, mark_is_some, mark_is_whole}

index_left : (xs ys : List ℕ) (i : ℕ) → i < length xs → slice_index (xs ++ ys) i ≡ slice_index xs i
index_left xs ys i lt = get_or_append_left xs ys 0 i lt

index_end : (xs : List ℕ) (k i : ℕ) → i ≡ length xs → slice_index (xs ++ k ∷ []) i ≡ k
index_end xs k i e = ap (slice_index (xs ++ k ∷ [])) e ∙ get_or-append_seam xs k [] 0

-- ---- places in a list of numbers

-- G is F, at k and elsewhere
pub leads_same : (F G : ℕ → ℕ) (us : List ℕ) (k : ℕ) → Leads F us → G k ≡ F k → ((q : ℕ) → q ≢ k → G q ≡ F q) → Leads G us
leads_same F G us k leads here there =
    let same : (q : ℕ) → G q ≡ F q = λ q. elim (cases_eq q k) [ inl e ↦ ap G e ∙ here ∙ sym (ap F e) | inr ne ↦ there q ne ] in
    record {
      there = λ i lt. same (slice_index us i) ∙ leads.there i lt;
      back = λ q some. let was = leads.back q (omega (arith, same q, some)) in
          (omega (arith, same q, was.0), ap (λ m. slice_index us (m - 1)) (same q) ∙ was.1);
    }

-- no two numbers lead to one place
pub apart : (F : ℕ → ℕ) (us : List ℕ) → Leads F us → (q k : ℕ) → 0 < F k → q ≢ k → F q ≢ F k
apart F us leads q k some ne e = ne (sym (leads.back q (omega (arith, e, some))).1 ∙ ap (λ m. slice_index us (m - 1)) e ∙ (leads.back k some).1)

pub in_range : (F : ℕ → ℕ) (us : List ℕ) → Leads F us → (q : ℕ) → F q ≤ length us
in_range F us leads q = elim (cases_eq (F q) 0) [ inl e ↦ omega (arith, e) | inr ne ↦ (leads.back q (omega (arith, ne))).0 ]

-- k is behind the others
module _ (F G : ℕ → ℕ) (us : List ℕ) (k : ℕ) (leads : Leads F us) (none : F k ≡ 0) (here : G k ≡ length us + 1) (others : (q : ℕ) → q ≢ k → G q ≡ F q) where
  long : length (us ++ k ∷ []) ≡ length us + 1
  long = length-append us (k ∷ [])

  pub leads_pushed : Leads G (us ++ k ∷ [])
  leads_pushed = record {
    there = λ i lt. elim (cases_eq i (length us)) [
      | inl e ↦ ap G (index_end us k i e) ∙ here ∙ omega (arith, e)
      | inr ne ↦
          let old : i < length us = omega (arith, lt, long, ne) in let at = leads.there i old in
          ap G (index_left us (k ∷ []) i old) ∙ others (slice_index us i) (λ e. omega (arith, at, ap F e, none)) ∙ at
    ];
    back = λ q some. elim (cases_eq q k) [
      | inl e ↦ let at : G q ≡ length us + 1 = ap G e ∙ here in (omega (arith, at, long), index_end us k (G q - 1) (omega (arith, at)) ∙ sym e)
      | inr ne ↦
          let same = others q ne in let was = leads.back q (omega (arith, same, some)) in
          (omega (arith, same, was.0, long), ap (λ m. slice_index (us ++ k ∷ []) (m - 1)) same ∙ index_left us (k ∷ []) (F q - 1) (omega (arith, same, some, was.0)) ∙ was.1)
    ];
  }

-- k goes, and the last one, if it is another, comes to its place
module _ (F : ℕ → ℕ) (us : List ℕ) (last : ℕ) (leads : Leads F (us ++ last ∷ [])) where
  longer : length (us ++ last ∷ []) ≡ length us + 1
  longer = length-append us (last ∷ [])

  pub last_place : F last ≡ length us + 1
  last_place = ap F (sym (index_end us last (length us) refl)) ∙ leads.there (length us) (omega (arith, longer))

  pub not_last : (q : ℕ) → q ≢ last → F q ≤ length us
  not_last q ne = omega (arith, in_range F (us ++ last ∷ []) leads q, longer, last_place, apart F (us ++ last ∷ []) leads q last (omega (arith, last_place)) ne)

  place_of : (j : ℕ) → j < length us → F (slice_index us j) ≡ j + 1
  place_of j lt = ap F (sym (index_left us (last ∷ []) j lt)) ∙ leads.there j (omega (arith, lt, longer))

  back_in : (q : ℕ) → q ≢ last → 0 < F q → slice_index us (F q - 1) ≡ q
  back_in q ne some = sym (index_left us (last ∷ []) (F q - 1) (omega (arith, not_last q ne, some))) ∙ (leads.back q some).1

  module _ (G : ℕ → ℕ) (k : ℕ) (gone : G k ≡ 0) where
    pub leads_popped : last ≡ k → ((q : ℕ) → q ≢ k → G q ≡ F q) → Leads G us
    leads_popped is others = record {
      there = λ j lt. let at = place_of j lt in others (slice_index us j) (λ e. omega (arith, at, ap F (e ∙ sym is), last_place, lt)) ∙ at;
      back = λ q some. elim (cases_eq q k) [
        | inl e ↦ absurd (omega (arith, some, ap G e, gone))
        | inr ne ↦
            let same = others q ne in let away : q ≢ last = λ e. ne (e ∙ is) in
            (omega (arith, same, not_last q away), ap (λ m. slice_index us (m - 1)) same ∙ back_in q away (omega (arith, same, some)))
      ];
    }

    module _ (some : 0 < F k) (ne : last ≢ k) (moved : G last ≡ F k) (others : (q : ℕ) → q ≢ k → q ≢ last → G q ≡ F q) where
      abbrev place : ℕ
      place = F k - 1

      within : place < length us
      within = omega (arith, not_last k (λ e. ne (sym e)), some)

      pub leads_swapped : Leads G (set us place last)
      leads_swapped = record {
        there = λ j lt. elim (cases_eq j place) [
          | inl e ↦ ap G (ap (slice_index (set us place last)) e ∙ get_or-set_same us place last 0 within) ∙ moved ∙ omega (arith, e, some)
          | inr other ↦
              let old : j < length us = omega (arith, lt, length-set us place last) in let at = place_of j old in
              ap G (get_or-set_other us place j last 0 other)
              ∙ others (slice_index us j) (λ e. other (omega (arith, at, ap F e))) (λ e. omega (arith, at, ap F e, last_place, old)) ∙ at
        ];
        back = λ q there. elim (cases_eq q last) [
          | inl e ↦
              let at : G q ≡ F k = ap G e ∙ moved in
              (omega (arith, at, within, some, length-set us place last), ap (λ m. slice_index (set us place last) (m - 1)) at ∙ get_or-set_same us place last 0 within ∙ sym e)
          | inr away ↦ elim (cases_eq q k) [
            | inl e ↦ absurd (omega (arith, there, ap G e, gone))
            | inr other ↦
                let same = others q other away in let was : 0 < F q = omega (arith, same, there) in
                let elsewhere : F q - 1 ≢ place = λ e. apart F (us ++ last ∷ []) leads q k some other (omega (arith, e, was, some)) in
                (omega (arith, same, not_last q away, length-set us place last), ap (λ m. slice_index (set us place last) (m - 1)) same ∙ get_or-set_other us place (F q - 1) last 0 elsewhere ∙ back_in q away was)
          ]
        ];
      }

-- ---- pages at places

pub whole_is : (w : List ℕ) → length w ≡ 4096 → whole_page w ≡ w
whole_is w e = ap (λ b. cond b w (replicate 4096 0)) (eq-eqb (length w) 4096 e)

length_either : (w : List ℕ) (b : Bool) → (b ≡ true → length w ≡ 4096) → length (cond b w (replicate 4096 0)) ≡ 4096
length_either w true e = e refl
length_either w false e = length-replicate {A = ℕ} 4096 0

pub length_whole : (w : List ℕ) → length (whole_page w) ≡ 4096
length_whole w = length_either w (length w == 4096) (eqb-true (length w) 4096)

pub some_copied : (r : Option (Bor (List ℕ))) → is_some (option_copied r) ≡ is_some r
some_copied None = refl
some_copied (Some x) = refl

module _ (pages : List (List ℕ)) where
  pub no_page : (p : ℕ) → p ≡ 0 → None ≡ page_at_place pages p
  unfolding page_at_place
  no_page zero e = refl
  no_page (suc i) e = absurd (omega (arith, e))

  -- the page that is found, an array v
  pub page_found : (p : ℕ) (w v : List ℕ) → 0 < p → slice_get pages (p - 1) ≡ Some w → v ≡ w → length v ≡ 4096 → Some v ≡ page_at_place pages p
  unfolding page_at_place
  page_found zero w v some e same size = absurd (omega (arith, some))
  page_found (suc i) w v some e same size =
      let at : get_or pages i [] ≡ v = get_or_from_slice_get pages i w [] (ap (slice_get pages) (omega arith) ∙ e) ∙ sym same in
      ap Some (sym (ap whole_page at ∙ whole_is v size))

  pub page_left : (ys : List (List ℕ)) (p : ℕ) → p ≤ length pages → page_at_place (pages ++ ys) p ≡ page_at_place pages p
  unfolding page_at_place
  page_left ys zero le = refl
  page_left ys (suc i) le = ap (λ w. Some (whole_page w)) (get_or_append_left pages ys [] i (omega (arith, le)))

  pub page_end : (w : List ℕ) (p : ℕ) → p ≡ length pages + 1 → page_at_place (pages ++ w ∷ []) p ≡ Some (whole_page w)
  unfolding page_at_place
  page_end w zero e = absurd (omega (arith, e))
  page_end w (suc i) e = ap (λ v. Some (whole_page v)) (ap (λ n. get_or (pages ++ w ∷ []) n []) (omega (arith, e)) ∙ get_or-append_seam pages w [] [])

  pub page_over : (p : ℕ) (w : List ℕ) → 0 < p → p ≤ length pages → page_at_place (set pages (p - 1) w) p ≡ Some (whole_page w)
  unfolding page_at_place
  page_over zero w some le = absurd (omega (arith, some))
  page_over (suc i) w some le = ap (λ v. Some (whole_page v)) (get_or-set_at pages (suc i - 1) i w [] (omega arith) (omega (arith, le)))

  pub page_beside : (p q : ℕ) (w : List ℕ) → 0 < p → q ≢ p → page_at_place (set pages (p - 1) w) q ≡ page_at_place pages q
  unfolding page_at_place
  page_beside p zero w some ne = refl
  page_beside p (suc i) w some ne = ap (λ v. Some (whole_page v)) (get_or-set_other pages (p - 1) i w [] (λ e. ne (omega (arith, e, some))))

  -- a page is there exactly at a place
  pub page_is_some : (p : ℕ) → is_some (page_at_place pages p) ≡ is_place p
  unfolding page_at_place
  page_is_some zero = refl
  page_is_some (suc i) = refl

  pub page_is_whole : (p : ℕ) (w : List ℕ) → page_at_place pages p ≡ Some w → length w ≡ 4096
  unfolding page_at_place
  page_is_whole zero w e = cc
  page_is_whole (suc i) w e = let is : whole_page (get_or pages i []) ≡ w = cc in ap length (sym is) ∙ length_whole (get_or pages i [])

  -- no page at the mark 0
  pub no_mark : (m : ℕ) → m ≡ 0 → None ≡ page_of_mark pages m
  no_mark m e = no_page m e ∙ sym (page_else pages m (small_not_zeros m (omega (arith, e))))

  pub marked_is_some : (m : ℕ) → is_some (page_of_mark pages m) ≡ is_place m
  marked_is_some m = mark_is_some pages m (page_is_some m)

  pub marked_is_whole : (m : ℕ) (w : List ℕ) → page_of_mark pages m ≡ Some w → length w ≡ 4096
  marked_is_whole m w e = mark_is_whole pages m w (page_is_whole m w) e

  -- a frame has a page where its type has data
  pub frame_paged : (r : Option (Bor (List ℕ))) (c : ℕ) (t : PageType) (p : ℕ) → IsCell c → t ≡ cell_type c → p ≡ cell_mark c → option_copied r ≡ page_of_mark pages p → is_some r ≡ type_has_data t
  frame_paged r c t p is type at found =
      sym (some_copied r) ∙ ap is_some found ∙ marked_is_some p ∙ ap is_place at ∙ is.in_step ∙ ap type_has_data (sym type)
