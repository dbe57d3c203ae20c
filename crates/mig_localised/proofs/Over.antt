-- The frames that an outline in a machine stands for, one after another, as a writer takes them.
use Rattle.mig_pvtables.proofs.Common.{◌≡◌, ℕ, zero, suc, ◌+◌, ◌-◌, ◌*◌, ◌<◌, ◌≤◌, IfSome, true, false, List, [], ◌∷◌, length, Option, Some, None, is_some, refl, sym, ap, subst, ◌∙◌, arith, append-nil, option_map, unwrap_or, nat_cmp_total, nat_cmp-IsAntisymmetric, FrameOf, FrameMap}
use Rattle.mig_guest.proofs.NextEntries.{next_entry}
use Rattle.mig_pagestore.proofs.Mapping.{get-mapped}
use Rattle.mig_pagestore.proofs.Places.{length_whole}
use Rattle.mig_pagestore.specs.FrameView.{whole_page}
use Rattle.mig_pagestore_index.specs.Indexed.{ValueMap}
use Rattle.mig_pagetypes.specs.declared.frame_word.FrameWord.{FrameWord}
use Rattle.mig_placed.proofs.Seen.{frame_told, len_placed, page_there}
use Rattle.mig_file.specs.Files.{IsThere}
use Rattle.mig_placed.specs.InFile.{frame_in_file, frames_in_file, page_bytes_at, page_in_file}
use Rattle.mig_placed.specs.Runs.{IsFirstCell}
use Rattle.mig_pvtables.proofs.EachValue.{get_each, len_each}
use Rattle.mig_records_pages.proofs.Copying.{some_of_more}
use Rattle.mig_records_pages.proofs.ListSteps.{entries_counted}
use Rattle.mig_records_pages.specs.Copied.{IsFirstFrame}
use Rattle.mig_records_pages.specs.PageData.{pages_of}
use Rattle.mig_localised.specs.Over.{frame_over, frames_over, over_after, page_over}
use Rattle.std.proofs.Common.{drop, take}
use Rattle.std.specs.FinMap as maps

module _ (kept : FrameMap) (file : Option (List ℕ)) (cells : ValueMap) where
  abbrev over : FrameMap
  over = frames_over kept (frames_in_file file cells)

  got : (q : ℕ) → maps.get over q ≡ option_map (frame_over kept q) (option_map (frame_in_file file) (maps.get cells q))
  got q = get_each nat_cmp_total nat_cmp-IsAntisymmetric (frame_over kept) (frames_in_file file cells) q ∙ ap (option_map (frame_over kept q)) (get-mapped (frame_in_file file) cells q)

  none_here : (q : ℕ) → maps.get cells q ≡ None → maps.get over q ≡ None
  none_here q none = got q ∙ ap (λ o. option_map (frame_over kept q) (option_map (frame_in_file file) o)) none

  -- the frame that a cell tells
  abbrev told : ℕ × FrameWord → FrameOf
  told e = frame_over kept e.0 (frame_told file e.1)

  pub first_over : (from : ℕ) (e : ℕ × FrameWord) → IsFirstCell cells from e → over_after kept file cells from ≡ (e.0, told e) ∷ over_after kept file cells (e.0 + 1)
  first_over from e first =
      let (c, cell, here, kind, place) = first.there in
      let read : maps.get over e.0 ≡ Some (told e) =
      got e.0 ∙ ap (λ o. option_map (frame_over kept e.0) (option_map (frame_in_file file) o)) here
      ∙ (λ i. Some (frame_over kept e.0 (record { type = kind i; page = page_in_file file (place i) }))) in
      next_entry over from {Y = ℕ × FrameWord} (λ e. e.0) told (Some e) tt read (first.least.0, λ k ge lt. none_here k (first.least.1 k ge lt))

  pub none_over : (from : ℕ) → ((k : ℕ) → from ≤ k → maps.get cells k ≡ None) → over_after kept file cells from ≡ []
  none_over from none = next_entry over from {Y = ℕ × FrameWord} (λ e. e.0) told None (λ k ge. none_here k (none k ge)) tt tt

  -- as a writer takes it
  pub first_frame : (from n : ℕ) (e : ℕ × FrameWord) → IsFirstCell cells from e → length (unwrap_or (told e).page []) ≡ 4096 * n → n ≤ 1
      → IsFirstFrame (over_after kept file cells from) (record { pfn = e.0; kind = e.1.kind }) n (over_after kept file cells (e.0 + 1))
  first_frame from n e first size few = record {
    frame = told e;
    type = refl;
    size = size;
    few = few;
    is = first_over from e first;
  }

  pub one_page : (from : ℕ) (e : ℕ × FrameWord) → IsFirstCell cells from e → pages_of (take 1 (over_after kept file cells from)) ≡ unwrap_or (told e).page []
  one_page from e first = ap (λ l. pages_of (take 1 l)) (first_over from e first) ∙ append-nil (unwrap_or (told e).page [])

pub over_counted : (kept : FrameMap) (file : Option (List ℕ)) (cells : ValueMap) (n : ℕ) → n ≡ maps.len cells → n ≡ length (over_after kept file cells 0)
over_counted kept file cells n is =
    let m = frames_in_file file cells in
    entries_counted (frames_over kept m) n
    (is ∙ sym (len_placed file cells) ∙ maps.len-entries m ∙ sym (len_each nat_cmp_total nat_cmp-IsAntisymmetric (frame_over kept) m) ∙ sym (maps.len-entries (frames_over kept m)))

-- ---- the page of a frame

pub none_at_0 : (kept file : Option (List ℕ)) (place : ℕ) → place ≡ 0 → unwrap_or (page_over kept (page_in_file file place)) [] ≡ []
unfolding page_in_file
none_at_0 kept file zero none = refl
none_at_0 kept file (suc at) none = absurd (omega (arith, none))

-- a page that is kept stands in place of the frame's own
pub kept_over : (kept file : Option (List ℕ)) (place : ℕ) (page : List ℕ) → kept ≡ Some page → 0 < place → unwrap_or (page_over kept (page_in_file file place)) [] ≡ page
unfolding page_in_file
kept_over kept file zero page is some = absurd (omega (arith, some))
kept_over kept file (suc at) page is some = ap (λ o. unwrap_or o (whole_page (page_bytes_at file at))) is

-- where none is kept, it is the frame's own
pub own_page : (kept file : Option (List ℕ)) (place : ℕ) → kept ≡ None → 0 < place → unwrap_or (page_over kept (page_in_file file place)) [] ≡ unwrap_or (page_in_file file place) []
unfolding page_in_file
own_page kept file zero is some = absurd (omega (arith, some))
own_page kept file (suc at) is some = ap (λ o. unwrap_or o (whole_page (page_bytes_at file at))) is

pub own_len : (kept file : Option (List ℕ)) (place : ℕ) → kept ≡ None → 0 < place → length (unwrap_or (page_over kept (page_in_file file place)) []) ≡ 4096
unfolding page_in_file
own_len kept file zero is some = absurd (omega (arith, some))
own_len kept file (suc at) is some = ap (λ o. length (unwrap_or o (whole_page (page_bytes_at file at)))) is ∙ length_whole (page_bytes_at file at)

-- ---- what is put into a buffer

module _ (kept : FrameMap) (file : Option (List ℕ)) (cells : ValueMap) (from : ℕ) (e : ℕ × FrameWord) (first : IsFirstCell cells from e) where
  -- where the bytes of the file are told, they are the page of the first frame
  pub told_page : (put : List ℕ) → is_some file ≡ true → ((all : List ℕ) → file ≡ Some all → put ≡ unwrap_or (told kept (Some all) cells e).page [])
      → put ≡ pages_of (take 1 (over_after kept file cells from))
  told_page put some says = by file refl some says
    where
      by : (o : Option (List ℕ)) → file ≡ o → is_some o ≡ true → ((all : List ℕ) → o ≡ Some all → put ≡ unwrap_or (told kept (Some all) cells e).page []) → put ≡ pages_of (take 1 (over_after kept file cells from))
      by None is some says = let no : false ≡ true = some in cc
      by (Some all) is some says = says all refl ∙ ap (λ o. unwrap_or (told kept o cells e).page []) (sym is) ∙ sym (one_page kept file cells from e first)

  pub then_rest : over_after kept file cells (e.0 + 1) ≡ drop 1 (over_after kept file cells from)
  then_rest = sym (ap (drop 1) (first_over kept file cells from e first))

  -- a page of the first frame is one of several
  pub some_page : (most : ℕ) → 0 < most → 0 < length (unwrap_or (told kept file cells e).page []) → 0 < length (pages_of (take most (over_after kept file cells from)))
  some_page most some page =
      some_of_more 0 1 most (over_after kept file cells from) (omega (arith, some)) (subst (λ l. 0 < length l) (sym (one_page kept file cells from e first)) page)

-- frames that are asked for are there
pub never_none : (kept : FrameMap) (file : Option (List ℕ)) (cells : ValueMap) (from most : ℕ) → ((k : ℕ) → from ≤ k → maps.get cells k ≡ None) → 0 < most → most ≤ length (over_after kept file cells from) → ⊥
never_none kept file cells from most none some has = omega (arith, some, has, ap length (none_over kept file cells from none))

-- what is read at a place of the file is the page there
pub read_page : (file : Option (List ℕ)) (place : ℕ) (put : List ℕ) → 0 < place → length put ≡ 4096 → IfSome file (λ all. IsThere all (place - 1) put) → (all : List ℕ) → file ≡ Some all → put ≡ unwrap_or (page_in_file (Some all) place) []
read_page file place put some size there all is =
    let here = subst (λ o. IfSome o (λ all. IsThere all (place - 1) put)) is there in
    sym (page_there all place some (omega (arith, here.0, size)) ∙ ap (λ n. take n (drop (place - 1) all)) (sym size) ∙ here.1)
