-- An entry is compared with the frame that a place in the file tells.
use Rattle.mig_restore.proofs.Common.{◌≡◌, ◌≢◌, ◌<◌, ◌≤◌, ◌-◌, ℕ, List, length, take, drop, Bool, true, false, nat_eq, Option, Some, None, Result, Ok, Err, refl, sym, ap, subst, ◌∙◌, arith, Judged, AgreesWithJudging, PageType, some_frame, is_same_frame}
use Rattle.std.specs.Option.{option_map}
use Rattle.std.specs.Prelude.{◌&&◌, IfOk, zero, suc}
use Rattle.std.specs.FinMap as maps
use Rattle.std.proofs.lemmas.Bool.{ne_eqb}
use Rattle.mig_bytes.specs.declared.stop.Stop.TheVariants.{ReadFault}
use Rattle.mig_placing.proofs.Common.{IsThere, left_at, FrameOf, ValueMap, is_same_page}
use Rattle.mig_pagestore.proofs.Mapping.{get-mapped}
use Rattle.mig_pagestore.proofs.Places.{whole_is}
use Rattle.mig_pagestore.specs.FrameView.{whole_page}
use Rattle.mig_pagetypes.specs.declared.frame_word.FrameWord.{FrameWord}
use Rattle.mig_placed.specs.InFile.{frame_in_file, frames_in_file, page_in_file}
use Rattle.mig_placed.specs.Runs.{IsFirstCell}
use Rattle.mig_placing.specs.Compared.{frame_there}

-- ---- the frame of a number

pub none_told : (file : Option (List ℕ)) (cells : ValueMap) (pfn : ℕ) → maps.get cells pfn ≡ None → maps.get (frames_in_file file cells) pfn ≡ None
none_told file cells pfn none = get-mapped (frame_in_file file) cells pfn ∙ ap (option_map (frame_in_file file)) none

pub frame_told : (file : Option (List ℕ)) (cells : ValueMap) (pfn first : ℕ) (word : FrameWord) → IsFirstCell cells pfn (first, word) → first ≡ pfn → maps.get (frames_in_file file cells) pfn ≡ Some (frame_there file word)
frame_told file cells pfn first word is here =
    let (c, cell, got, kind, place) = is.there in
    let at : maps.get cells pfn ≡ Some c = subst (λ k. maps.get cells k ≡ Some c) here got in
    get-mapped (frame_in_file file) cells pfn ∙ ap (option_map (frame_in_file file)) at ∙ (λ i. Some (record { type = kind i; page = page_in_file file (place i) }))

pub none_first : (file : Option (List ℕ)) (cells : ValueMap) (pfn first : ℕ) (word : FrameWord) → IsFirstCell cells pfn (first, word) → first ≢ pfn → maps.get (frames_in_file file cells) pfn ≡ None
none_first file cells pfn first word is other =
    let ge : pfn ≤ first = is.least.0 in
    none_told file cells pfn (is.least.1 pfn (let e : pfn ≤ pfn = omega arith in e) (let lt : pfn < first = omega (arith, ge, other) in lt))

-- ---- its page

pub page_read : (all page there : List ℕ) (place : ℕ) (same : Bool) → 0 < place → length there ≡ 4096 → IsThere all (place - 1) there → same ≡ is_same_page (Some there) (Some page) → same ≡ is_same_page (page_in_file (Some all) place) (Some page)
unfolding page_in_file
page_read all page there zero same some size is told = absurd (omega (arith, some))
page_read all page there (suc at) same some size is told =
    let here : suc at - 1 ≡ at = omega arith in
    let read : take 4096 (drop at all) ≡ there = ap (λ n. take 4096 (drop n all)) (sym here) ∙ ap (λ n. take n (drop (suc at - 1) all)) (sym size) ∙ is.1 in
    told ∙ ap (λ l. is_same_page (Some l) (Some page)) (sym (ap whole_page read ∙ whole_is there size))

pub none_sent : (file : Option (List ℕ)) (place : ℕ) (b : Bool) → b ≡ nat_eq place 0 → b ≡ is_same_page (page_in_file file place) None
unfolding page_in_file
none_sent file zero b is = is
none_sent file (suc at) b is = is ∙ ne_eqb (suc at) 0 (λ e. omega (arith, e))

pub none_there : (file : Option (List ℕ)) (place : ℕ) (page : List ℕ) → place ≡ 0 → false ≡ is_same_page (page_in_file file place) (Some page)
unfolding page_in_file
none_there file zero page is = refl
none_there file (suc at) page is = absurd (omega (arith, is))

-- ---- what is said of a cell

module _ (file : Option (List ℕ)) (cell : FrameWord) (kind : PageType) (alike : Bool) (told : (page sent : Option (List ℕ)) → is_same_frame (Some (record { type = cell.kind; page = page })) (some_frame kind sent) ≡ (alike && is_same_page page sent)) where
  pub other_type : (sent : Option (List ℕ)) → alike ≡ false → false ≡ is_same_frame (Some (frame_there file cell)) (some_frame kind sent)
  other_type sent differs = sym (told (page_in_file file cell.pfn) sent ∙ ap (λ b. b && is_same_page (page_in_file file cell.pfn) sent) differs)

  pub page_alike : (sent : Option (List ℕ)) (same : Bool) → alike ≡ true → same ≡ is_same_page (page_in_file file cell.pfn) sent → same ≡ is_same_frame (Some (frame_there file cell)) (some_frame kind sent)
  page_alike sent same agrees is = is ∙ sym (told (page_in_file file cell.pfn) sent ∙ ap (λ b. b && is_same_page (page_in_file file cell.pfn) sent) agrees)

-- where no frame is there
pub none_alike : (kind : PageType) (sent : Option (List ℕ)) (o : Option FrameOf) (same : Bool) → o ≡ None → same ≡ is_same_frame None (some_frame kind sent) → same ≡ is_same_frame o (some_frame kind sent)
none_alike kind sent o same none is = is ∙ ap (λ p. is_same_frame p (some_frame kind sent)) (sym none)

-- ---- answers

-- what is said of a value is turned
pub turned : {X E : Type 0} (r : Result X E) (P Q : X → Type 0) → ((x : X) → P x → Q x) → IfOk r P → IfOk r Q
turned (Ok x) P Q turn h = turn x h
turned (Err e) P Q turn h = tt

-- a failed read says nothing
pub unread_says_nothing : {C X Y : Type 0} (R : X → Y → Type 0) (a b : Option (List ℕ)) (f : List ℕ → Judged C Y) → AgreesWithJudging R a b f (Err ReadFault)
unread_says_nothing R None b f = tt
unread_says_nothing R (Some i) b f = tt

-- what is noted at the front of a file
pub begun_told : (file : Option (List ℕ)) (at : ℕ) (N : List ℕ → Option (List ℕ) → Type 0) → ((all : List ℕ) → file ≡ Some all → N all (left_at file at)) → (i : List ℕ) → left_at file at ≡ Some i → (all : List ℕ) × N all (left_at file at)
begun_told None at N begun i is = absurd (cc)
begun_told (Some all) at N begun i is = (all, begun all refl)
