-- What the pages that are seen of frames tell.
use Rattle.mig_pagestore.proofs.Common.{◌≡◌, ℕ, ◌<◌, List, [], Option, Some, None, IsSome, is_some, refl, sym, ap, ◌∙◌, subst, inl, inr, MutBor, option_map, option_and_then, option_copied_mut, unwrap_or, get-empty, nat_cmp, cases_eq, PageType, FrameOf, FrameMap, IsSized, frame_page, whole_page, repaged, with_page, pfn_limit, inserted, inserted_other, removed, removed_other}
use Rattle.std.specs.FinMap as maps
use Rattle.mig_pagestore.specs.PageView.{bytes_of, pages_seen, HasPages}
use Rattle.mig_pagestore.proofs.Mapping.{get-mapped, len-mapped, mapped-empty, mapped-insert, mapped-remove}

a_page : (o : Option (List ℕ)) → IsSome o → Some (unwrap_or o []) ≡ o
a_page None there = cc
a_page (Some w) there = refl

module _ (frames : FrameMap) where
  pub page_absent : (q : ℕ) → maps.get frames q ≡ None → maps.get (pages_seen frames) q ≡ None
  page_absent q e = get-mapped bytes_of frames q ∙ ap (option_map bytes_of) e

  pub page_present : (q : ℕ) (f : FrameOf) → maps.get frames q ≡ Some f → IsSome (maps.get (pages_seen frames) q)
  page_present q f e = ap is_some (get-mapped bytes_of frames q ∙ ap (option_map bytes_of) e)

  pub len_seen : maps.len (pages_seen frames) ≡ maps.len frames
  len_seen = len-mapped bytes_of frames

  small_at : (q : ℕ) (o : Option FrameOf) → maps.get frames q ≡ o → IsSized frames → IsSome (option_map bytes_of o) → q < pfn_limit
  small_at q None e sized there = cc
  small_at q (Some f) e sized there = (sized q f e).0

  pub small_seen : (q : ℕ) → IsSized frames → IsSome (maps.get (pages_seen frames) q) → q < pfn_limit
  small_seen q sized there = small_at q (maps.get frames q) refl sized (ap is_some (sym (get-mapped bytes_of frames q)) ∙ there)

module _ (frames : FrameMap) (has : HasPages frames) where
  page_of_frame : (q : ℕ) (o : Option FrameOf) → maps.get frames q ≡ o → option_map bytes_of o ≡ option_and_then (λ (f : FrameOf). f.page) o
  page_of_frame q None e = refl
  page_of_frame q (Some f) e = a_page f.page (has.has q f e)

  pub page_seen : (q : ℕ) → maps.get (pages_seen frames) q ≡ frame_page frames q
  page_seen q = get-mapped bytes_of frames q ∙ page_of_frame q (maps.get frames q) refl

  pub page_got : (q : ℕ) (t : PageType) (page : Option (List ℕ)) → Some (record { type = t; page = page }) ≡ maps.get frames q → page ≡ maps.get (pages_seen frames) q
  page_got q t page e = sym (page_seen q ∙ ap (option_and_then (λ (f : FrameOf). f.page)) (sym e))

  pub pages_put : (k : ℕ) (f : FrameOf) → IsSome f.page → HasPages (maps.insert frames k f)
  pages_put k f there = record {
    has = λ q g e. elim (cases_eq q k) [
      | inl same ↦ let is : Some f ≡ Some g = sym (inserted frames k q f same) ∙ e in let fg : f ≡ g = cc in subst (λ (h : FrameOf). IsSome h.page) fg there
      | inr ne ↦ has.has q g (sym (inserted_other frames k q f ne) ∙ e)
    ];
  }

  pub pages_out : (k : ℕ) → HasPages (maps.remove frames k)
  pages_out k = record {
    has = λ q g e. elim (cases_eq q k) [
      | inl same ↦ let no : None ≡ Some g = sym (removed frames k q same) ∙ e in absurd (cc)
      | inr ne ↦ has.has q g (sym (removed_other frames k q ne) ∙ e)
    ];
  }

  pages_repaged : (o : Option FrameOf) (k : ℕ) (w : List ℕ) → HasPages (repaged o frames k w)
  pages_repaged None k w = has
  pages_repaged (Some f) k w = pages_put k (record f { page = Some (whole_page w) }) refl

  pub pages_lent : (k : ℕ) (w : List ℕ) → HasPages (with_page frames k w)
  pages_lent k w = pages_repaged (maps.get frames k) k w

  lent_at : (o : Option FrameOf) (k : ℕ) (w : List ℕ) → IsSome (option_and_then (λ (f : FrameOf). f.page) o) → pages_seen (repaged o frames k w) ≡ maps.insert (pages_seen frames) k (whole_page w)
  lent_at None k w there = cc
  lent_at (Some f) k w there = mapped-insert bytes_of frames k (record f { page = Some (whole_page w) })

  pub lent_seen : (k : ℕ) (w : List ℕ) → IsSome (frame_page frames k) → pages_seen (with_page frames k w) ≡ maps.insert (pages_seen frames) k (whole_page w)
  lent_seen k w there = lent_at (maps.get frames k) k w there

  pub put_seen : (k : ℕ) (f : FrameOf) (w : List ℕ) → f.page ≡ Some w → pages_seen (maps.insert frames k f) ≡ maps.insert (pages_seen frames) k w
  put_seen k f w e = mapped-insert bytes_of frames k f ∙ ap (λ (o : Option (List ℕ)). maps.insert (pages_seen frames) k (unwrap_or o [])) e

  pub out_seen : (k : ℕ) → pages_seen (maps.remove frames k) ≡ maps.remove (pages_seen frames) k
  out_seen k = mapped-remove bytes_of frames k

pub pages_none : (frames : FrameMap) → frames ≡ maps.empty → HasPages frames
pages_none frames none = record { has = λ q f e. let no : None ≡ Some f = sym (ap (λ (m : FrameMap). maps.get m q) none ∙ get-empty nat_cmp q) ∙ e in absurd (cc) }

pub none_seen : (frames : FrameMap) → frames ≡ maps.empty → pages_seen frames ≡ maps.empty
none_seen frames none = ap pages_seen none ∙ mapped-empty bytes_of

pub some_lent : (r : Option (MutBor (List ℕ))) → is_some (option_copied_mut r) ≡ is_some r
some_lent None = refl
some_lent (Some x) = refl
