-- The pages of frames one behind another are those of the entries from a number on.
use Rattle.mig_guest.proofs.Common.{◌≡◌, ℕ, suc, ◌+◌, ◌<◌, ◌≤◌, List, [], ◌∷◌, Option, Some, None, refl, sym, ap, ◌∙◌, arith, entries_from, flat_map, ◌++◌, length, take, drop, option_and_then, unwrap_or}
use Rattle.std.specs.FinMap as maps
use Rattle.mig_pagestore.specs.Frames.{FrameOf, FrameMap, IsRun}
use Rattle.mig_guest.proofs.NextEntries.{first_from}

-- a frame whose page is known
paged : (o : Option FrameOf) (page : List ℕ) → option_and_then (λ (f : FrameOf). f.page) o ≡ Some page → (f : FrameOf) × (o ≡ Some f) × (f.page ≡ Some page)
paged None page e = let no : None ≡ Some page = e in absurd (cc)
paged (Some f) page e = (f, refl, e)

module _ (m : FrameMap) where
  abbrev es : List (ℕ × FrameOf)
  es = maps.entries m

  abbrev page_of : ℕ × FrameOf → List ℕ
  page_of e = unwrap_or e.1.page []

  at_itself : (pfn : ℕ) (f : FrameOf) → maps.get m pfn ≡ Some f → entries_from pfn es ≡ (pfn, f) ∷ entries_from (pfn + 1) es
  at_itself pfn f got = first_from m pfn pfn f got (omega arith) (λ k le lt. absurd (omega (arith, le, lt))) (entries_from pfn es) refl

  -- between a number and the first frame from it on there is none
  same_from : (from pfn : ℕ) (f : FrameOf) → maps.get m pfn ≡ Some f → from ≤ pfn → ((k : ℕ) → from ≤ k → k < pfn → maps.get m k ≡ None) → entries_from from es ≡ entries_from pfn es
  same_from from pfn f got le none = first_from m from pfn f got le none (entries_from from es) refl ∙ sym (at_itself pfn f got)

  pub run_bytes : (pages : List (List ℕ)) (pfn : ℕ) → IsRun m pfn pages → flat_map page_of (take (length pages) (entries_from pfn es)) ≡ flat_map (λ page. page) pages
  run_bytes [] pfn run = refl
  run_bytes (page ∷ pages) pfn (here, rest) =
      let frame = paged (maps.get m pfn) page here in
      ap (λ l. flat_map page_of (take (suc (length pages)) l)) (at_itself pfn frame.0 frame.1)
      ∙ (λ i. unwrap_or (frame.2 i) [] ++ run_bytes pages (pfn + 1) rest i)

  pub run_behind : (pages : List (List ℕ)) (pfn : ℕ) → IsRun m pfn pages → entries_from (pfn + length pages) es ≡ drop (length pages) (entries_from pfn es)
  run_behind [] pfn run = ap (λ k. entries_from k es) (let e : pfn + 0 ≡ pfn = omega arith in e)
  run_behind (page ∷ pages) pfn (here, rest) =
      let frame = paged (maps.get m pfn) page here in
      ap (λ k. entries_from k es) (let e : pfn + suc (length pages) ≡ pfn + 1 + length pages = omega arith in e)
      ∙ run_behind pages (pfn + 1) rest ∙ sym (ap (drop (suc (length pages))) (at_itself pfn frame.0 frame.1))

  module _ (from pfn : ℕ) (f : FrameOf) (got : maps.get m pfn ≡ Some f) (le : from ≤ pfn) (none : (k : ℕ) → from ≤ k → k < pfn → maps.get m k ≡ None) (pages : List (List ℕ)) (n : ℕ) (long : length pages ≡ n) (run : IsRun m pfn pages) where
    pub bytes_from : flat_map (λ page. page) pages ≡ flat_map page_of (take n (entries_from from es))
    bytes_from = sym (run_bytes pages pfn run) ∙ (λ i. flat_map page_of (take (long i) (sym (same_from from pfn f got le none) i)))

    pub behind_from : entries_from (pfn + n) es ≡ drop n (entries_from from es)
    behind_from = ap (λ k. entries_from (pfn + k) es) (sym long) ∙ run_behind pages pfn run ∙ (λ i. drop (long i) (sym (same_from from pfn f got le none) i))
