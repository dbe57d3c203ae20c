-- What cells tell of frames.
use Rattle.mig_placed.proofs.Common.{◌≡◌, ℕ, zero, suc, ◌+◌, ◌-◌, ◌*◌, ◌<◌, ◌≤◌, List, [], ◌∷◌, ◌++◌, length, take, drop, Option, Some, None, refl, sym, ap, ◌∙◌, arith, length-take, length-drop, take-append-le, take_all, option_map, unwrap_or, whole_is, length_whole, get-mapped, len-mapped, mapped-empty, mapped-insert, mapped-remove, type_of_cell, mark_of_cell, ValueMap, FrameOf, FrameWord, PageType, Xtab, type_has_data, cell_type, whole_page, framed, place_for, place_limit, cell_for, with_place, page_bytes_at, frame_in_file, frames_in_file, frames_after, next_entry, from_zero, entries_counted, IsFirstCell, IsFirstFrame, cell_mark}
use Rattle.std.specs.FinMap as maps
use Rattle.mig_placed.specs.InFile.{page_in_file}
use Rattle.mig_placed.proofs.Cells.{place_small}

pub none_placed : (file : Option (List ℕ)) → frames_in_file file maps.empty ≡ maps.empty
none_placed file = mapped-empty (frame_in_file file)

pub len_placed : (file : Option (List ℕ)) (cells : ValueMap) → maps.len (frames_in_file file cells) ≡ maps.len cells
len_placed file cells = len-mapped (frame_in_file file) cells

-- what a cell tells that was written
cell_told : (file : Option (List ℕ)) (t : PageType) (at : ℕ) → at < place_limit → frame_in_file file (cell_for t at) ≡ record { type = t; page = page_in_file file (place_for (type_has_data t) at) }
cell_told file t at small =
    let place = place_for (type_has_data t) at in let lt = place_small (type_has_data t) at small in
    (λ i. record { type = type_of_cell t place lt i; page = page_in_file file (mark_of_cell t place lt i) })

-- a frame whose place is set is set
pub set_placed : (file : Option (List ℕ)) (cells : ValueMap) (pfn : ℕ) (t : PageType) (at : ℕ) → at < place_limit
    → frames_in_file file (with_place cells pfn t at) ≡ framed (frames_in_file file cells) pfn t (page_in_file file (place_for (type_has_data t) at))
set_placed file cells pfn Xtab at small = mapped-remove (frame_in_file file) cells pfn
set_placed file cells pfn t at small = mapped-insert (frame_in_file file) cells pfn (cell_for t at) ∙ ap (maps.insert (frames_in_file file cells) pfn) (cell_told file t at small)

pub no_page_at_0 : (file : Option (List ℕ)) → page_in_file file 0 ≡ None
unfolding page_in_file
no_page_at_0 file = refl

-- the page behind so many bytes
pub page_stands : (front page rest : List ℕ) → length page ≡ 4096 → page_in_file (Some (front ++ (page ++ rest))) (length front + 1) ≡ Some page
unfolding page_in_file
page_stands front page rest size =
    let all = front ++ (page ++ rest) in
    let one : page_in_file (Some all) (length front + 1) ≡ page_in_file (Some all) (suc (length front)) = ap (page_in_file (Some all)) (let e : length front + 1 ≡ suc (length front) = omega arith in e) in
    let here : take 4096 (drop (length front) all) ≡ page =
    ap (take 4096) (behind front (page ++ rest)) ∙ take-append-le 4096 page rest (omega (arith, size)) ∙ take_all 4096 page (omega (arith, size)) in
    one ∙ ap (λ l. Some (whole_page l)) here ∙ ap Some (whole_is page size)
  where
    behind : (xs ys : List ℕ) → drop (length xs) (xs ++ ys) ≡ ys
    behind [] ys = refl
    behind (x ∷ xs) ys = behind xs ys

-- ---- the first frame from a number on

-- the frame that a cell tells
abbrev pub frame_told : Option (List ℕ) → FrameWord → FrameOf
frame_told file word = record { type = word.kind; page = page_in_file file word.pfn }

none_here : (file : Option (List ℕ)) (cells : ValueMap) (q : ℕ) → maps.get cells q ≡ None → maps.get (frames_in_file file cells) q ≡ None
none_here file cells q e = get-mapped (frame_in_file file) cells q ∙ ap (option_map (frame_in_file file)) e

told_here : (file : Option (List ℕ)) (cells : ValueMap) (e : ℕ × FrameWord) (c : ℕ) → maps.get cells e.0 ≡ Some c → cell_type c ≡ e.1.kind → cell_mark c ≡ e.1.pfn → maps.get (frames_in_file file cells) e.0 ≡ Some (frame_told file e.1)
told_here file cells e c got kind place =
    get-mapped (frame_in_file file) cells e.0 ∙ ap (option_map (frame_in_file file)) got ∙ (λ i. Some (record { type = kind i; page = page_in_file file (place i) }))

pub first_placed : (file : Option (List ℕ)) (cells : ValueMap) (from : ℕ) (e : ℕ × FrameWord) → IsFirstCell cells from e → frames_after file cells from ≡ (e.0, frame_told file e.1) ∷ frames_after file cells (e.0 + 1)
first_placed file cells from e first =
    let (c, cell, got, kind, place) = first.there in
    next_entry (frames_in_file file cells) from {Y = ℕ × FrameWord} (λ e. e.0) (λ e. frame_told file e.1) (Some e) tt (told_here file cells e c got kind place) (first.least.0, λ k ge lt. none_here file cells k (first.least.1 k ge lt))

pub none_from_placed : (file : Option (List ℕ)) (cells : ValueMap) (from : ℕ) → ((k : ℕ) → from ≤ k → maps.get cells k ≡ None) → frames_after file cells from ≡ []
none_from_placed file cells from none =
    next_entry (frames_in_file file cells) from {Y = ℕ × FrameWord} (λ e. e.0) (λ e. frame_told file e.1) None (λ k ge. none_here file cells k (none k ge)) tt tt

pub placed_counted : (file : Option (List ℕ)) (cells : ValueMap) (n : ℕ) → n ≡ maps.len cells → n ≡ length (frames_after file cells 0)
placed_counted file cells n is = entries_counted (frames_in_file file cells) n (is ∙ sym (len_placed file cells))

pub all_placed : (file : Option (List ℕ)) (cells : ValueMap) → frames_after file cells 0 ≡ maps.entries (frames_in_file file cells)
all_placed file cells = from_zero (maps.entries (frames_in_file file cells))

-- ---- its page

-- how long the page at a place is
pub page_len : (file : Option (List ℕ)) (place n : ℕ) → (place ≡ 0 → n ≡ 0) → (0 < place → n ≡ 1) → length (unwrap_or (page_in_file file place) []) ≡ 4096 * n
unfolding page_in_file
page_len file zero n none one = ap (λ m. 4096 * m) (sym (none refl))
page_len file (suc at) n none one = length_whole (page_bytes_at file at) ∙ ap (λ m. 4096 * m) (sym (one (omega arith)))

pub no_page : (file : Option (List ℕ)) (place : ℕ) → place ≡ 0 → unwrap_or (page_in_file file place) [] ≡ []
unfolding page_in_file
no_page file zero e = refl
no_page file (suc at) e = absurd (omega (arith, e))

-- the page of a file that has all of it
pub page_there : (all : List ℕ) (place : ℕ) → 0 < place → (place - 1) + 4096 ≤ length all → unwrap_or (page_in_file (Some all) place) [] ≡ take 4096 (drop (place - 1) all)
unfolding page_in_file
page_there all zero some fits = absurd (omega (arith, some))
page_there all (suc at) some fits =
    let here : suc at - 1 ≡ at = omega arith in
    whole_is (take 4096 (drop at all)) (omega (arith, length-take 4096 (drop at all), length-drop at all, fits, here)) ∙ ap (λ n. take 4096 (drop n all)) (sym here)

-- as a writer takes it
pub first_frame : (file : Option (List ℕ)) (cells : ValueMap) (from n : ℕ) (e : ℕ × FrameWord) → IsFirstCell cells from e → (e.1.pfn ≡ 0 → n ≡ 0) → (0 < e.1.pfn → n ≡ 1) → n ≤ 1
    → IsFirstFrame (frames_after file cells from) (record { pfn = e.0; kind = e.1.kind }) n (frames_after file cells (e.0 + 1))
first_frame file cells from n e first none one few = record {
  frame = frame_told file e.1;
  type = refl;
  size = page_len file e.1.pfn n none one;
  few = few;
  is = first_placed file cells from e first;
}
