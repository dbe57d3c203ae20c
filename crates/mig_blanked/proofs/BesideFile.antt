-- Frames of a guest in its blank form beside those of the file, in the same order.
use Rattle.mig_pvtables.proofs.Common.{◌≡◌, ℕ, ◌+◌, ◌<◌, ◌≤◌, map, List, [], ◌∷◌, ◌++◌, length, take, drop, Option, is_some, sym, ap, subst, ◌∙◌, arith, nat_le, nat_cmp_total, nat_cmp-IsAntisymmetric, FrameMap, entries_from, kept_shown, shown}
use Rattle.std.specs.FinMap as maps
use Rattle.std.specs.Prelude.{IfOk, Result, Ok, Err}
use Rattle.std.proofs.lemmas.List.{take-take}
use Rattle.std.specs.List.{drop-map}
use Rattle.mig_pagestore_index.specs.Indexed.{ValueMap}
use Rattle.mig_pagetypes.specs.PageTypes.{level_of}
use Rattle.mig_pagetypes.specs.declared.frame_word.FrameWord.{FrameWord}
use Rattle.mig_placed.proofs.Seen.{first_placed, frame_told}
use Rattle.mig_placed.specs.InFile.{frames_in_file, page_in_file}
use Rattle.mig_placed.specs.Runs.{IsFirstCell, frames_after}
use Rattle.mig_pvtables.proofs.EachValue.{entries_each}
use Rattle.mig_records_pages.proofs.Copying.{some_of_more}
use Rattle.mig_records_pages.proofs.ListSteps.{drop_next, take_next}
use Rattle.mig_records_pages.specs.PageData.{Frame, pages_of}
use Rattle.mig_blanked.specs.Behind.{behind_after, frame_behind, kept_page, page_behind}
use Rattle.mig_blanked.proofs.Behind.{first_behind}
use Rattle.mig_blanked.specs.Plain.{ArePlain}

module _ (marks : ValueMap) (kept : FrameMap) (file : Option (List ℕ)) (cells : ValueMap) where
  abbrev each : List Frame → List Frame
  each fs = map (shown (frame_behind marks kept)) fs

  all_shown : (from : ℕ) → behind_after marks kept file cells from ≡ each (frames_after file cells from)
  all_shown from =
      ap (λ es. entries_from from es) (entries_each nat_cmp_total nat_cmp-IsAntisymmetric (frame_behind marks kept) (frames_in_file file cells))
      ∙ kept_shown nat_cmp_total nat_cmp-IsAntisymmetric (frame_behind marks kept) (nat_le from) (maps.entries (frames_in_file file cells))

  drop_alike : (from behind n : ℕ) → frames_after file cells behind ≡ drop n (frames_after file cells from) → behind_after marks kept file cells behind ≡ drop n (behind_after marks kept file cells from)
  drop_alike from behind n is =
      all_shown behind ∙ ap (λ fs. each fs) is ∙ sym (drop-map (shown (frame_behind marks kept)) n (frames_after file cells from)) ∙ ap (drop n) (sym (all_shown from))

-- fewer than those that are alike are alike
fewer_alike : (n count : ℕ) (xs ys : List Frame) → n ≤ count → take count xs ≡ take count ys → take n xs ≡ take n ys
fewer_alike n count xs ys le is = sym (take-take n count xs le) ∙ ap (take n) is ∙ take-take n count ys le

module _ (marks cells : ValueMap) (from count at : ℕ) (e : ℕ × FrameWord) (first : IsFirstCell cells at e) (here : (file : Option (List ℕ)) → frames_after file cells at ≡ drop count (frames_after file cells from)) where
  pub next_at : (file : Option (List ℕ)) → frames_after file cells (e.0 + 1) ≡ drop (count + 1) (frames_after file cells from)
  next_at file = sym (drop_next count (frames_after file cells from) _ (e.0, frame_told file e.1) (sym (here file) ∙ first_placed file cells at e first))

  -- one frame more
  pub more_plain : ArePlain marks cells from count → ((kept page : Option (List ℕ)) → page_behind (is_some (maps.get marks e.0)) (level_of e.1.kind) kept page ≡ page) → ArePlain marks cells from (count + 1)
  more_plain plain own kept file =
      let frame : Frame = (e.0, frame_told file e.1) in
      let behind : Frame = (e.0, frame_behind marks kept e.0 (frame_told file e.1)) in
      let same : behind ≡ frame = (λ i. (e.0, record { type = e.1.kind; page = own (kept_page kept e.0) (page_in_file file e.1.pfn) i })) in
      take_next count (behind_after marks kept file cells from) (behind_after marks kept file cells (e.0 + 1)) behind
      (sym (drop_alike marks kept file cells from at count (here file)) ∙ first_behind marks kept file cells at e first)
      ∙ (λ i. plain kept file i ++ same i ∷ [])
      ∙ sym (take_next count (frames_after file cells from) (frames_after file cells (e.0 + 1)) frame (sym (here file) ∙ first_placed file cells at e first))

-- ---- what is read of a run

-- of what comes, where two things hold, a third does
pub both_ok : {T E : Type 0} (r : Result T E) {P Q R : T → Type 0} → ((x : T) → P x → Q x → R x) → IfOk r P → IfOk r Q → IfOk r R
both_ok (Ok x) h p q = h x p q
both_ok (Err e) h p q = tt

-- frames that are read of the same file at the same places
module _ (marks : ValueMap) (kept : FrameMap) (file other : Option (List ℕ)) (cells others : ValueMap) (same : other ≡ file) (alike : others ≡ cells) (from : ℕ) where
  read_there : (at : ℕ) → frames_after other others at ≡ frames_after file cells at
  read_there at = (λ i. frames_after (same i) (alike i) at)

  pub behind_run : (behind n : ℕ) → frames_after other others behind ≡ drop n (frames_after other others from) → behind_after marks kept file cells behind ≡ drop n (behind_after marks kept file cells from)
  behind_run behind n is = drop_alike marks kept file cells from behind n (sym (read_there behind) ∙ is ∙ ap (drop n) (read_there from))

  module _ (count : ℕ) (plain : ArePlain marks cells from count) where
    -- the pages of the first of them
    pub run_pages : (n : ℕ) → n ≤ count → pages_of (take n (frames_after other others from)) ≡ pages_of (take n (behind_after marks kept file cells from))
    run_pages n le =
        ap (λ fs. pages_of (take n fs)) (read_there from)
        ∙ ap (λ fs. pages_of fs) (sym (fewer_alike n count (behind_after marks kept file cells from) (frames_after file cells from) le (plain kept file)))

    -- a page of one of them is one of several
    pub run_some : (most : ℕ) → count ≤ most → 0 < length (pages_of (take count (frames_after other others from))) → 0 < length (pages_of (take most (behind_after marks kept file cells from)))
    run_some most le some =
        some_of_more 0 count most (behind_after marks kept file cells from) (omega (arith, le)) (subst (λ (fs : List ℕ). 0 < length fs) (run_pages count (omega arith)) some)
