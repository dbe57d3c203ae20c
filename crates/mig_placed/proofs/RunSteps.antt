-- Runs of pages, one frame longer.
use Rattle.mig_placed.proofs.Common.{◌≡◌, ℕ, ◌+◌, ◌-◌, ◌*◌, ◌<◌, List, [], ◌∷◌, ◌++◌, length, take, drop, Option, Some, refl, sym, ap, ◌∙◌, arith, append-nil, drop-drop, take-add, ValueMap, FrameWord, Frame, page_in, pages_of, frames_after, drop_next, flat_next, pages_next, IsFirstCell, IsRunFrom}
use Rattle.mig_placed.specs.declared.runs.Run.{Run}
use Rattle.mig_placed.proofs.Seen.{frame_told, first_placed, no_page, page_len, page_there}

module _ (cells : ValueMap) (from : ℕ) (run : Run) (is : IsRunFrom cells from run) (e : ℕ × FrameWord) (first : IsFirstCell cells run.behind e) where
  abbrev frame : Option (List ℕ) → Frame
  frame file = (e.0, frame_told file e.1)

  here : (file : Option (List ℕ)) → drop run.frames (frames_after file cells from) ≡ frame file ∷ frames_after file cells (e.0 + 1)
  here file = sym (is.behind file) ∙ first_placed file cells run.behind e first

  behind : (file : Option (List ℕ)) → frames_after file cells (e.0 + 1) ≡ drop (run.frames + 1) (frames_after file cells from)
  behind file = sym (drop_next run.frames (frames_after file cells from) _ (frame file) (here file))

  more : (file : Option (List ℕ)) → pages_of (take (run.frames + 1) (frames_after file cells from)) ≡ pages_of (take run.frames (frames_after file cells from)) ++ page_in (frame file)
  more file = flat_next page_in run.frames (frames_after file cells from) _ (frame file) (here file)

  size : (n : ℕ) (file : Option (List ℕ)) → (e.1.pfn ≡ 0 → n ≡ 0) → (0 < e.1.pfn → n ≡ 1) → length (pages_of (take (run.frames + 1) (frames_after file cells from))) ≡ 4096 * (run.pages + n)
  size n file none one = pages_next run.frames (frames_after file cells from) _ (frame file) run.pages n (here file) (is.size file) (page_len file e.1.pfn n none one)

  -- a frame without a page
  pub run_over : e.1.pfn ≡ 0 → IsRunFrom cells from (record { at = run.at; pages = run.pages; frames = run.frames + 1; behind = e.0 + 1 })
  run_over none = record {
    behind = behind;
    size = λ file. size 0 file (λ _. refl) (λ some. absurd (omega (arith, none, some))) ∙ ap (λ n. 4096 * n) (let same : run.pages + 0 ≡ run.pages = omega arith in same);
    bytes = λ all fits.
        is.bytes all fits ∙ sym (append-nil (pages_of (take run.frames (frames_after (Some all) cells from))))
        ∙ ap (λ l. pages_of (take run.frames (frames_after (Some all) cells from)) ++ l) (sym (no_page (Some all) e.1.pfn none)) ∙ sym (more (Some all));
  }

  -- the first page
  pub run_begun : run.pages ≡ 0 → 0 < e.1.pfn → IsRunFrom cells from (record { at = e.1.pfn - 1; pages = 1; frames = run.frames + 1; behind = e.0 + 1 })
  run_begun none some = record {
    behind = behind;
    size = λ file. size 1 file (λ no. absurd (omega (arith, no, some))) (λ _. refl) ∙ ap (λ n. 4096 * n) (let one : run.pages + 1 ≡ 1 = omega (arith, none) in one);
    bytes = λ all fits.
        let nothing : pages_of (take run.frames (frames_after (Some all) cells from)) ≡ [] = empty (pages_of (take run.frames (frames_after (Some all) cells from))) (omega (arith, is.size (Some all), none)) in
        sym (page_there all e.1.pfn some (omega (arith, fits))) ∙ ap (λ l. l ++ page_in (frame (Some all))) (sym nothing) ∙ sym (more (Some all));
  }
    where
      empty : (xs : List ℕ) → length xs ≡ 0 → xs ≡ []
      empty [] e = refl
      empty (x ∷ xs) e = absurd (omega (arith, e))

  -- a page that stands behind the others
  pub run_longer : 0 < e.1.pfn → e.1.pfn - 1 ≡ run.at + 4096 * run.pages → IsRunFrom cells from (record { at = run.at; pages = run.pages + 1; frames = run.frames + 1; behind = e.0 + 1 })
  run_longer some at = record {
    behind = behind;
    size = λ file. size 1 file (λ no. absurd (omega (arith, no, some))) (λ _. refl);
    bytes = λ all fits.
        let n = 4096 * run.pages in
        ap (λ m. take m (drop run.at all)) (let e : 4096 * (run.pages + 1) ≡ n + 4096 = omega arith in e) ∙ take-add n 4096 (drop run.at all)
        ∙ ap (λ l. take n (drop run.at all) ++ take 4096 l) (drop-drop n run.at all ∙ ap (λ m. drop m all) (sym at))
        ∙ ap (λ l. l ++ take 4096 (drop (e.1.pfn - 1) all)) (is.bytes all (omega (arith, fits)))
        ∙ ap (λ l. pages_of (take run.frames (frames_after (Some all) cells from)) ++ l) (sym (page_there all e.1.pfn some (omega (arith, fits, at)))) ∙ sym (more (Some all));
  }
