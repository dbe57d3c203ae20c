-- The frames of a guest on its way to its blank form.
use Rattle.mig_pvtables.proofs.Common.{◌≡◌, ℕ, ◌+◌, ◌<◌, ◌≤◌, cond, List, length, Option, Some, None, refl, sym, ap, ◌∙◌, inl, inr, arith, option_map, nat_cmp, nat_cmp_total, nat_cmp-IsAntisymmetric, cases_lt, lt-ltb, le-ltb, pfn_limit, PageType, level_of, FrameOf, FrameMap, GuestOf, each_value, table_changed, only, with_other_page, with_table_changed, option_and_then, blanked_below}
use Rattle.mig_pagestore.specs.FrameLending.{with_page, repaged}
use Rattle.mig_pagestore.proofs.Places.{whole_is}
use Rattle.mig_pvtables.proofs.EachValue.{get_each, each_same, same_each}
use Rattle.mig_pvtables.proofs.Only.{insert_only, only_stays, then_only}
use Rattle.std.specs.FinMap as maps

abbrev OnlyFrame : (FrameOf → FrameOf) → FrameMap → ℕ → FrameMap
OnlyFrame f m pfn = each_value (only nat_cmp pfn f) m

-- ---- one frame

abbrev page_in : Option FrameOf → Option (List ℕ)
page_in o = option_and_then (λ (f : FrameOf). f.page) o

module _ (m : FrameMap) (pfn : ℕ) (h : FrameOf → FrameOf) where
  -- its page was written
  pub page_written : (p w : List ℕ) → Some p ≡ option_and_then (λ (f : FrameOf). f.page) (maps.get m pfn) → length w ≡ 4096
      → ((f : FrameOf) → maps.get m pfn ≡ Some f → f.page ≡ Some p → h f ≡ record { type = f.type; page = Some w }) → with_page m pfn w ≡ OnlyFrame h m pfn
  page_written p w has size is = elim (maps.get m pfn) as (λ o. maps.get m pfn ≡ o → Some p ≡ option_and_then (λ (f : FrameOf). f.page) o → repaged o m pfn w ≡ OnlyFrame h m pfn) [
    | None ↦ λ e at. let no : Some p ≡ None = at in cc
    | Some f ↦ λ e at.
        ap (λ (l : List ℕ). maps.insert m pfn (record { type = f.type; page = Some l })) (whole_is w size)
        ∙ ap (maps.insert m pfn) (sym (is f e (sym at))) ∙ insert_only nat_cmp_total nat_cmp-IsAntisymmetric m pfn h f e
  ] refl has

  -- it has no page, or isn't there
  pub no_page : None ≡ option_and_then (λ (f : FrameOf). f.page) (maps.get m pfn) → ((f : FrameOf) → f.page ≡ None → h f ≡ f) → m ≡ OnlyFrame h m pfn
  no_page none stays = only_stays nat_cmp_total nat_cmp-IsAntisymmetric m pfn h (λ f is. stays f (sym (none ∙ ap page_in is)))

abbrev pub WithFrames : GuestOf → FrameMap → GuestOf
WithFrames g m = record { kind = g.kind; top = g.top; frames = m; parts = g.parts }

-- ---- a frame with another page

module _ (page : List ℕ) (g : GuestOf) (pfn : ℕ) where
  abbrev Written : GuestOf
  Written = WithFrames g (OnlyFrame (with_other_page page) g.frames pfn)

  pub other_written : (p w : List ℕ) → Some p ≡ option_and_then (λ (f : FrameOf). f.page) (maps.get g.frames pfn) → length w ≡ 4096 → w ≡ page → WithFrames g (with_page g.frames pfn w) ≡ Written
  other_written p w has size is = ap (WithFrames g) (page_written g.frames pfn (with_other_page page) p w has size
      (λ f at there. ap (λ (o : Option (List ℕ)). record { type = f.type; page = option_map (λ _. page) o }) there ∙ ap (λ (l : List ℕ). record { type = f.type; page = Some l }) (sym is)))

  pub nothing_written : None ≡ option_and_then (λ (f : FrameOf). f.page) (maps.get g.frames pfn) → g ≡ Written
  nothing_written none = ap (WithFrames g) (no_page g.frames pfn (with_other_page page) none (λ f there.
      ap (λ (o : Option (List ℕ)). record { type = f.type; page = option_map (λ _. page) o }) there ∙ ap (λ (o : Option (List ℕ)). record { type = f.type; page = o }) (sym there)))

-- ---- a frame whose page changes where it is a table

module _ (h : ℕ → List ℕ → List ℕ) (g : GuestOf) (pfn : ℕ) where
  abbrev Turned : GuestOf
  Turned = WithFrames g (OnlyFrame (with_table_changed h) g.frames pfn)

  pub no_frame : None ≡ option_map (λ (x : FrameOf). x.type) (maps.get g.frames pfn) → g ≡ Turned
  no_frame none = ap (WithFrames g) (only_stays nat_cmp_total nat_cmp-IsAntisymmetric g.frames pfn (with_table_changed h) (λ x is. let no : None ≡ Some x.type = none ∙ ap (option_map (λ (x : FrameOf). x.type)) is in cc))

  still_bare : (level : Option ℕ) → table_changed h level None ≡ None
  still_bare None = refl
  still_bare (Some level) = refl

  pub no_table_page : None ≡ option_and_then (λ (x : FrameOf). x.page) (maps.get g.frames pfn) → g ≡ Turned
  no_table_page none = ap (WithFrames g) (no_page g.frames pfn (with_table_changed h) none (λ x page. ap (λ (o : Option (List ℕ)). record { type = x.type; page = o }) (ap (table_changed h (level_of x.type)) page ∙ still_bare (level_of x.type) ∙ sym page)))

  module _ (type : PageType) (typed : Some type ≡ option_map (λ (x : FrameOf). x.type) (maps.get g.frames pfn)) where
    same_type : (x : FrameOf) → maps.get g.frames pfn ≡ Some x → type ≡ x.type
    same_type x is = let same : Some type ≡ Some x.type = typed ∙ ap (option_map (λ (x : FrameOf). x.type)) is in cc

    pub no_table : None ≡ level_of type → g ≡ Turned
    no_table none = ap (WithFrames g) (only_stays nat_cmp_total nat_cmp-IsAntisymmetric g.frames pfn (with_table_changed h) (λ x is.
        ap (λ (l : Option ℕ). record { type = x.type; page = table_changed h l x.page }) (sym (none ∙ ap level_of (same_type x is)))))

    pub table_written : (level : ℕ) (p w : List ℕ) → Some level ≡ level_of type → Some p ≡ option_and_then (λ (x : FrameOf). x.page) (maps.get g.frames pfn) → length w ≡ 4096 → w ≡ h level p
        → WithFrames g (with_page g.frames pfn w) ≡ Turned
    table_written level p w lev has size is = ap (WithFrames g) (page_written g.frames pfn (with_table_changed h) p w has size (λ x at page.
        ap (λ (o : Option (List ℕ)). record { type = x.type; page = o }) ((λ i. table_changed h (sym (lev ∙ ap level_of (same_type x at)) i) (page i)) ∙ ap (λ (q : List ℕ). Some q) (sym is))))

-- ---- one frame after another

module _ (h : FrameOf → FrameOf) (m : FrameMap) where
  none_below : each_value (blanked_below 0 h) m ≡ m
  none_below = each_same nat_cmp_total nat_cmp-IsAntisymmetric (blanked_below 0 h) m (λ q f is. ap (λ b. cond b (h f) f) (le-ltb q 0 (omega arith)))

  module _ (from : ℕ) where
    abbrev now : FrameMap
    now = each_value (blanked_below from h) m

    there : (q : ℕ) (f : FrameOf) → maps.get m q ≡ Some f → maps.get now q ≡ None → ⊥
    there q f is none = let no : None ≡ Some (blanked_below from h q f) = sym none ∙ get_each nat_cmp_total nat_cmp-IsAntisymmetric (blanked_below from h) m q ∙ ap (option_map (blanked_below from h q)) is in cc

    next_below : (pfn : ℕ) → from ≤ pfn → ((k : ℕ) → from ≤ k → k < pfn → maps.get now k ≡ None) → each_value (only nat_cmp pfn h) now ≡ each_value (blanked_below (pfn + 1) h) m
    next_below pfn least none = then_only nat_cmp_total nat_cmp-IsAntisymmetric m pfn h (blanked_below from h) (blanked_below (pfn + 1) h)
        (λ x. ap (λ b. h (cond b (h x) x)) (le-ltb pfn from least) ∙ sym (ap (λ b. cond b (h x) x) (lt-ltb pfn (pfn + 1) (omega arith))))
        (λ q x is ne. ap (λ b. cond b (h x) x) (elim (cases_lt q from) [
          | inl lt ↦ lt-ltb q from lt ∙ sym (lt-ltb q (pfn + 1) (omega (arith, lt, least)))
          | inr ge ↦ elim (cases_lt q pfn) [ inl lt ↦ absurd (there q x is (none q ge lt)) | inr above ↦ le-ltb q from ge ∙ sym (le-ltb q (pfn + 1) (omega (arith, above, ne))) ]
        ]))

    all_below : ((k : ℕ) → from ≤ k → maps.get now k ≡ None) → now ≡ each_value (λ _ f. h f) m
    all_below none = same_each nat_cmp_total nat_cmp-IsAntisymmetric (blanked_below from h) (λ _ f. h f) m (λ q f is. elim (cases_lt q from) [
      | inl lt ↦ ap (λ b. cond b (h f) f) (lt-ltb q from lt)
      | inr ge ↦ absurd (there q f is (none q ge))
    ])

-- on the way from g the frames below this number are changed
pub record FramesChangedBelow (h : FrameOf → FrameOf) (g : GuestOf) (from : ℕ) (now : GuestOf) : Type 0 where
  pub small : from ≤ pfn_limit
  pub done : now ≡ WithFrames g (each_value (blanked_below from h) g.frames)

module _ {h : FrameOf → FrameOf} {g : GuestOf} where
  pub frames_start : FramesChangedBelow h g 0 g
  frames_start = record { small = omega arith; done = ap (WithFrames g) (sym (none_below h g.frames)) }

  module _ {from : ℕ} {now : GuestOf} (is : FramesChangedBelow h g from now) where
    pub frames_next : {new : GuestOf} {pfn : ℕ} → pfn < pfn_limit → new ≡ WithFrames now (each_value (only nat_cmp pfn h) now.frames) → (from ≤ pfn) × ((k : ℕ) → from ≤ k → k < pfn → maps.get now.frames k ≡ None) → FramesChangedBelow h g (pfn + 1) new
    frames_next {pfn = pfn} small one least = record {
      small = omega (arith, small);
      done = one ∙ ap (λ (s : GuestOf). WithFrames s (each_value (only nat_cmp pfn h) s.frames)) is.done
          ∙ ap (WithFrames g) (next_below h g.frames from pfn least.0 (λ k le lt. ap (λ (s : GuestOf). maps.get s.frames k) (sym is.done) ∙ least.1 k le lt));
    }

    pub frames_end : ((k : ℕ) → from ≤ k → maps.get now.frames k ≡ None) → now ≡ WithFrames g (each_value (λ _ f. h f) g.frames)
    frames_end none = is.done ∙ ap (WithFrames g) (all_below h g.frames from (λ k le. ap (λ (s : GuestOf). maps.get s.frames k) (sym is.done) ∙ none k le))
