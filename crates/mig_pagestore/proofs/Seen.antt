-- What the frames that are seen tell.
use Rattle.mig_pagestore.proofs.Common.{◌≡◌, ◌≢◌, ℕ, cond, ◌+◌, ◌<◌, ◌≤◌, ◌-◌, List, [], ◌∷◌, ◌++◌, length, length-append, set, Option, Some, None, IsSome, is_some, true, false, inl, inr, Bor, refl, sym, ap, ◌∙◌, subst, arith, nat_cmp, option_map, option_and_then, option_copied, get-empty, cases_eq, same_map, nat_cmp-IsAntisymmetric, ValueMap, FrameOf, Framed, IsFrame, IsSized, frame_page, whole_page, is_place, IsCell, frame_at, frames_seen, place_or_0, place_of_page, IsLed, SameBut, repaged, with_page, PageType, type_has_data, pfn_limit, is_inserted, inserted, inserted_other, is_removed, removed, removed_other, cell_type, page_at_place, nat_cmp_total}
use Rattle.std.specs.FinMap as maps
use Rattle.mig_pagestore.specs.FrameView.{zero_bytes, cell_mark, is_zeros, zeros_in, page_of_mark, mark_or_0, Moved, mark_of_page, CountsZeros}
use Rattle.mig_pagestore.proofs.Marks.{small_not_zeros, page_of_cell, placed_zeros, zeros_no_place, place_is_mark}
use Rattle.mig_pagestore.proofs.Counts.{recounted}
use Rattle.mig_pagetypes.specs.declared.page_type.PageType.TheVariants.{Xtab}
use Rattle.mig_pagestore.proofs.Mapping.{get-mapped, len-mapped, mapped-empty}
use Rattle.mig_pagestore.proofs.Places.{some_copied, no_mark, page_over, marked_is_some, marked_is_whole}
use Rattle.mig_pagestore.proofs.Led.{place_in_range, frame_is, same_over, led_behind, at_behind, same_behind}

module _ (pages : List (List ℕ)) (cells : ValueMap) where
  get_seen : (q : ℕ) → maps.get (frames_seen pages cells) q ≡ option_map (frame_at pages) (maps.get cells q)
  get_seen q = get-mapped (frame_at pages) cells q

  pub get_none : (q : ℕ) → maps.get cells q ≡ None → maps.get (frames_seen pages cells) q ≡ None
  get_none q e = get_seen q ∙ ap (option_map (frame_at pages)) e

  pub get_some : (q c : ℕ) → maps.get cells q ≡ Some c → maps.get (frames_seen pages cells) q ≡ Some (frame_at pages c)
  get_some q c e = get_seen q ∙ ap (option_map (frame_at pages)) e

  pub len_seen : maps.len (frames_seen pages cells) ≡ maps.len cells
  len_seen = len-mapped (frame_at pages) cells

  sized_at : (q : ℕ) (f : FrameOf) (o : Option ℕ) → (IsSome (maps.get cells q) → q < pfn_limit) → ((c : ℕ) → maps.get cells q ≡ Some c → IsCell c) → maps.get cells q ≡ o → option_map (frame_at pages) o ≡ Some f → (q < pfn_limit) × IsFrame f
  sized_at q f None small typed e is = cc
  sized_at q f (Some c) small typed e is =
      let at : frame_at pages c ≡ f = cc in let cell = typed c e in
      (small (ap is_some e), subst IsFrame at (record { there = cell.there; in_step = marked_is_some pages (cell_mark c) ∙ cell.in_step; whole = marked_is_whole pages (cell_mark c) }))

  pub sized_seen : (pfns : List ℕ) → IsLed cells pfns pages → ((q : ℕ) → IsSome (maps.get cells q) → q < pfn_limit) → IsSized (frames_seen pages cells)
  sized_seen pfns led small q f e = sized_at q f (maps.get cells q) (small q) (led.typed q) refl (sym (get_seen q) ∙ e)

  page_of_frame : (o : Option ℕ) → option_and_then (λ (f : FrameOf). f.page) (option_map (frame_at pages) o) ≡ page_of_mark pages (mark_or_0 o)
  page_of_frame None = no_mark pages 0 refl
  page_of_frame (Some c) = refl

  pub page_seen : (q : ℕ) → frame_page (frames_seen pages cells) q ≡ page_of_mark pages (mark_of_page cells q)
  page_seen q = ap (option_and_then (λ (f : FrameOf). f.page)) (get_seen q) ∙ page_of_frame (maps.get cells q)

  -- the page at the place of the frame
  pub page_at : (q p : ℕ) → p ≡ place_of_page cells q → 0 < p → page_at_place pages p ≡ frame_page (frames_seen pages cells) q
  page_at q p at some = ap (page_at_place pages) at ∙ sym (page_of_cell pages (maps.get cells q) (omega (arith, at, some))) ∙ sym (page_seen q)

  pub page_none : (q : ℕ) → mark_of_page cells q ≡ 0 → frame_page (frames_seen pages cells) q ≡ None
  page_none q e = page_seen q ∙ sym (no_mark pages (mark_of_page cells q) e)

  some_mark : (o : Option ℕ) → (mark_or_0 o ≡ 0 → ⊥) → 0 < mark_or_0 o
  some_mark o ne = omega (arith, ne)

  pub page_some : (q : ℕ) → IsSome (frame_page (frames_seen pages cells) q) → 0 < mark_of_page cells q
  page_some q there = some_mark (maps.get cells q) (λ e. let no : false ≡ true = sym (ap is_some (page_none q e)) ∙ there in cc)

  -- a frame without a page finds a spare one
  pub spare_enough : (n q : ℕ) (s : Framed) → record { frames = frames_seen pages cells; spare = n } ≡ s → (frame_page s.frames q ≡ None → 1 ≤ s.spare) → 1 - mark_of_page cells q ≤ n
  spare_enough n q s view need = elim (cases_eq (mark_of_page cells q) 0) [
    | inl e ↦ let one = subst (λ (t : Framed). frame_page t.frames q ≡ None → 1 ≤ t.spare) (sym view) need (page_none q e) in omega (arith, one)
    | inr ne ↦ omega (arith, ne)
  ]

  some_cell : (o : Option ℕ) → 0 < place_or_0 o → (c : ℕ) × (o ≡ Some c)
  some_cell None some = absurd (omega (arith, some))
  some_cell (Some c) some = (c, refl)

  -- the page of k is w
  pub repaged_seen : (pfns : List ℕ) → IsLed cells pfns pages → (k p : ℕ) (w : List ℕ) → p ≡ place_of_page cells k → 0 < p → frames_seen (set pages (p - 1) w) cells ≡ with_page (frames_seen pages cells) k w
  repaged_seen pfns led k p w at some =
      let cell = some_cell (maps.get cells k) (omega (arith, at, some)) in
      let ps = set pages (p - 1) w in let f : FrameOf = record { type = cell_type cell.0; page = Some (whole_page w) } in
      let here : maps.get (frames_seen ps cells) k ≡ Some f = get-mapped (frame_at ps) cells k
      ∙ frame_is ps (maps.get cells k) (cell_type cell.0) (Some (whole_page w)) (omega (arith, at, some)) (ap (option_map cell_type) cell.1)
      (ap (page_at_place ps) (sym at) ∙ page_over pages p w some (omega (arith, at, place_in_range cells pfns pages led k))) in
      is_inserted (frames_seen ps cells) (frames_seen pages cells) k f here
      (λ q ne. get-mapped (frame_at ps) cells q ∙ (same_over cells pfns pages led k w p at some).same q ne ∙ sym (get-mapped (frame_at pages) cells q))
      ∙ sym (ap (λ (o : Option FrameOf). repaged o (frames_seen pages cells) k w) (get-mapped (frame_at pages) cells k ∙ ap (option_map (frame_at pages)) cell.1))

pub led_empty : (cells : ValueMap) (pfns : List ℕ) (pages : List (List ℕ)) → cells ≡ maps.empty → pfns ≡ [] → pages ≡ [] → IsLed cells pfns pages
led_empty cells pfns pages none no_pfn no_page = record {
  typed = λ q c e. let no : None ≡ Some c = sym (ap (λ (m : ValueMap). maps.get m q) none ∙ get-empty nat_cmp q) ∙ e in absurd (cc);
  leads = record {
    there = λ i lt. absurd (omega (arith, lt, ap length no_pfn));
    back = λ q some. absurd (omega (arith, some, ap place_or_0 (ap (λ (m : ValueMap). maps.get m q) none ∙ get-empty nat_cmp q)));
  };
  as_many = ap length no_pfn ∙ sym (ap length no_page);
}

-- an empty map shows no frames
pub none_seen : (pages : List (List ℕ)) (cells : ValueMap) → cells ≡ maps.empty → frames_seen pages cells ≡ maps.empty
none_seen pages cells e = ap (frames_seen pages) e ∙ mapped-empty (frame_at pages)

-- the frame of k is set
pub put_seen : (pages ps : List (List ℕ)) (cells new : ValueMap) (k c : ℕ) (f : FrameOf) → SameBut k pages cells ps new → cell_type c ≡ f.type → page_of_mark ps (cell_mark c) ≡ f.page → frames_seen ps (maps.insert new k c) ≡ maps.insert (frames_seen pages cells) k f
put_seen pages ps cells new k c f others type page =
    is_inserted (frames_seen ps (maps.insert new k c)) (frames_seen pages cells) k f
    (get-mapped (frame_at ps) (maps.insert new k c) k ∙ ap (option_map (frame_at ps)) (inserted new k k c refl) ∙ (λ i. Some (record { type = type i; page = page i })))
    (λ q ne. get-mapped (frame_at ps) (maps.insert new k c) q ∙ ap (option_map (frame_at ps)) (inserted_other new k q c ne) ∙ others.same q ne ∙ sym (get-mapped (frame_at pages) cells q))

-- the frame of k goes
pub out_seen : (pages ps : List (List ℕ)) (cells new : ValueMap) (k : ℕ) → SameBut k pages cells ps new → frames_seen ps (maps.remove new k) ≡ maps.remove (frames_seen pages cells) k
out_seen pages ps cells new k others =
    is_removed (frames_seen ps (maps.remove new k)) (frames_seen pages cells) k
    (get-mapped (frame_at ps) (maps.remove new k) k ∙ ap (option_map (frame_at ps)) (removed new k k refl))
    (λ q ne. get-mapped (frame_at ps) (maps.remove new k) q ∙ ap (option_map (frame_at ps)) (removed_other new k q ne) ∙ others.same q ne ∙ sym (get-mapped (frame_at pages) cells q))

-- a number that has a cell takes no spare one
pub numbers_left : (o : Option ℕ) (before after n : ℕ) → (IsSome o → after ≡ before) → before ≤ after + 1 → n ≤ before → n - (1 - mark_or_0 o) ≤ after
numbers_left None before after n kept taken le = omega (arith, taken, le)
numbers_left (Some c) before after n kept taken le = let same : after ≡ before = kept refl in omega (arith, same, le)

-- the cell that is written for a frame
pub cell_is : (pages : List (List ℕ)) (p : ℕ) (r : Option (Bor (List ℕ))) (t : PageType) (d : ℕ) → page_of_mark pages p ≡ option_copied r → is_some r ≡ type_has_data t → t ≢ Xtab → cell_type d ≡ t → cell_mark d ≡ p → IsCell d
cell_is pages p r t d here paged there type place = record {
  there = λ e. there (sym type ∙ e);
  in_step = ap is_place place ∙ sym (marked_is_some pages p) ∙ ap is_some here ∙ some_copied r ∙ paged ∙ ap type_has_data (sym type);
}

-- the cell of k is written, or goes, and is counted anew
module _ (cells mid : ValueMap) (k n : ℕ) (count : CountsZeros mid n) (same : maps.get mid k ≡ maps.get cells k) where
  before : zeros_in (mark_of_page mid k) ≡ zeros_in (mark_of_page cells k)
  before = ap (λ o. zeros_in (mark_or_0 o)) same

  pub count_put : (c m z : ℕ) → cell_mark c ≡ m → z ≡ n - zeros_in (mark_of_page cells k) + zeros_in m → CountsZeros (maps.insert mid k c) z
  count_put c m z mark is = subst (CountsZeros (maps.insert mid k c))
      ((λ i. n - before i + zeros_in (ap mark_or_0 (inserted mid k k c refl) i)) ∙ ap (λ p. n - zeros_in (mark_of_page cells k) + zeros_in p) mark ∙ sym is)
      (recounted mid n count (maps.insert mid k c) k (λ q ne. inserted_other mid k q c ne))

  pub count_out : (z : ℕ) → z ≡ n - zeros_in (mark_of_page cells k) → CountsZeros (maps.remove mid k) z
  count_out z is = subst (CountsZeros (maps.remove mid k))
      ((λ i. n - before i + zeros_in (ap mark_or_0 (removed mid k k refl) i)) ∙ ap (λ b. n - zeros_in (mark_of_page cells k) + cond b 1 0) (small_not_zeros 0 (omega arith)) ∙ omega (arith, is))
      (recounted mid n count (maps.remove mid k) k (λ q ne. removed_other mid k q ne))

-- the frame of a cell whose page is zeros
frame_zeros : (pages : List (List ℕ)) (o : Option ℕ) (t : PageType) → is_zeros (mark_or_0 o) ≡ true → option_map cell_type o ≡ Some t → option_map (frame_at pages) o ≡ Some (record { type = t; page = Some zero_bytes })
frame_zeros pages None t zeros e = cc
frame_zeros pages (Some c) t zeros e = let h : cell_type c ≡ t = cc in λ i. Some (record { type = h i; page = cond (zeros i) (Some zero_bytes) (page_at_place pages (cell_mark c)) })

-- the page of k, which is zeros, is put behind the others
module _ (cells : ValueMap) (pfns : List ℕ) (pages : List (List ℕ)) (led : IsLed cells pfns pages) (k : ℕ) (zeros : is_zeros (mark_of_page cells k) ≡ true) (w : List ℕ) (us : List ℕ) (ps : List (List ℕ)) (items : us ≡ pfns ++ k ∷ []) (more : ps ≡ pages ++ w ∷ []) (new : ValueMap) (p : ℕ) (place : p ≡ length us) (moved : Moved cells new k p) where
  no_place : 0 ≡ place_of_page cells k
  no_place = sym (zeros_no_place (maps.get cells k) zeros)

  cell_there : maps.get new k ≡ Some moved.cell
  cell_there = ap (λ (m : ValueMap). maps.get m k) moved.set ∙ inserted cells k k moved.cell refl

  beside : (q : ℕ) → q ≢ k → maps.get new q ≡ maps.get cells q
  beside q ne = ap (λ (m : ValueMap). maps.get m q) moved.set ∙ inserted_other cells k q moved.cell ne

  pub opened_place : p ≡ place_of_page new k
  opened_place = sym (ap place_or_0 cell_there ∙ moved.leads)

  place_there : 0 < place_of_page new k
  place_there = omega (arith, opened_place, place, ap length items, length-append pfns (k ∷ []))

  pub opened_mark : p ≡ mark_of_page new k
  opened_mark = opened_place ∙ place_is_mark (maps.get new k) (placed_zeros (maps.get new k) place_there)

  pub opened_led : IsLed new us ps
  opened_led = subst (λ (m : ValueMap). IsLed m us ps) (sym moved.set) (led_behind cells pfns pages led k w 0 no_place (omega arith) us ps items more moved.cell moved.is (moved.leads ∙ place))

  pub opened_count : (n : ℕ) → CountsZeros cells n → CountsZeros new (n - 1)
  opened_count n count = subst (CountsZeros new)
      ((λ i. n - cond (zeros i) 1 0 + cond (placed_zeros (maps.get new k) place_there i) 1 0) ∙ omega arith)
      (recounted cells n count new k beside)

  module _ (is : w ≡ zero_bytes) (size : length w ≡ 4096) where
    frame_there : option_map (frame_at ps) (maps.get new k) ≡ option_map (frame_at pages) (maps.get cells k)
    frame_there =
        frame_is ps (maps.get new k) (cell_type moved.cell) (Some zero_bytes) place_there (ap (option_map cell_type) cell_there)
        (ap (page_at_place ps) (sym opened_place ∙ place) ∙ at_behind cells pfns pages led k w 0 no_place (omega arith) us ps items more size ∙ ap Some is)
        ∙ sym (frame_zeros pages (maps.get cells k) (cell_type moved.cell) zeros moved.same_type)

    pub opened_frames : frames_seen ps new ≡ frames_seen pages cells
    opened_frames = same_map nat_cmp_total nat_cmp-IsAntisymmetric (frames_seen ps new) (frames_seen pages cells) (λ q.
        get-mapped (frame_at ps) new q ∙ elim (cases_eq q k) [
          | inl e ↦ subst (λ (j : ℕ). option_map (frame_at ps) (maps.get new j) ≡ option_map (frame_at pages) (maps.get cells j)) (sym e) frame_there
          | inr ne ↦ ap (option_map (frame_at ps)) (beside q ne) ∙ (same_behind cells pfns pages led k w 0 no_place (omega arith) us ps items more).same q ne
        ] ∙ sym (get-mapped (frame_at pages) cells q))
