-- Pages that lie one behind another are those of frames one behind another.
use Rattle.mig_pagestore.proofs.Common.{◌≡◌, ℕ, zero, suc, ◌+◌, ◌-◌, ◌<◌, ◌≤◌, List, [], ◌∷◌, length, take, drop, get_or, Some, refl, sym, ap, ◌∙◌, subst, arith, ValueMap, place_of_page, frame_page, frames_seen, drop-cons, length-drop, length-take, slice_get-get_or, IsRun, LieInRun}
use Rattle.mig_pagestore.proofs.Places.{page_found}
use Rattle.mig_pagestore.proofs.Seen.{page_at}

pub run_length : (pages : List (List ℕ)) (n k : ℕ) → k + n ≤ length pages → length (take n (drop k pages)) ≡ n
run_length pages n k le = omega (arith, le, length-take n (drop k pages), length-drop k pages)

module _ (pages : List (List ℕ)) (cells : ValueMap) where
  -- they lie so from the next one on
  lie_next : (n pfn place : ℕ) → LieInRun cells pages pfn place (suc n) → LieInRun cells pages (pfn + 1) (place + 1) n
  lie_next n pfn place lie i lt =
      let at = lie (i + 1) (omega (arith, lt)) in
      let number : pfn + (i + 1) ≡ pfn + 1 + i = omega arith in let behind : place + (i + 1) ≡ place + 1 + i = omega arith in
      (ap (place_of_page cells) (sym number) ∙ at.0 ∙ behind, ap (λ k. length (get_or pages (k - 1) [])) (sym behind) ∙ at.1)

  lies_first : (n pfn place : ℕ) → 0 < place → place ≤ length pages → LieInRun cells pages pfn place (suc n) → frame_page (frames_seen pages cells) pfn ≡ Some (get_or pages (place - 1) [])
  lies_first n pfn place some le lie =
      let at = lie 0 (omega arith) in
      let number : pfn + 0 ≡ pfn = omega arith in let here : place + 0 ≡ place = omega arith in
      sym (page_at pages cells pfn place (sym (ap (place_of_page cells) (sym number) ∙ at.0 ∙ here)) some)
      ∙ sym (page_found pages place (get_or pages (place - 1) []) (get_or pages (place - 1) []) some (slice_get-get_or pages (place - 1) [] (omega (arith, some, le))) refl (ap (λ k. length (get_or pages (k - 1) [])) (sym here) ∙ at.1))

  pub run_seen : (n pfn place : ℕ) → 0 < place → place + n ≤ length pages + 1 → LieInRun cells pages pfn place n → IsRun (frames_seen pages cells) pfn (take n (drop (place - 1) pages))
  run_seen zero pfn place some le lie = tt
  run_seen (suc n) pfn place some le lie =
      let next : suc (place - 1) ≡ place + 1 - 1 = omega (arith, some) in
      let cut : drop (place - 1) pages ≡ get_or pages (place - 1) [] ∷ drop (place + 1 - 1) pages = drop-cons pages (place - 1) [] (omega (arith, some, le)) ∙ ap (λ k. get_or pages (place - 1) [] ∷ drop k pages) next in
      subst (λ l. IsRun (frames_seen pages cells) pfn (take (suc n) l)) (sym cut)
      (lies_first n pfn place some (omega (arith, le)) lie, run_seen n (pfn + 1) (place + 1) (omega arith) (omega (arith, le)) (lie_next n pfn place lie))

  -- so many places are there
  pub run_fits : (n pfn place : ℕ) → 0 < n → ((q : ℕ) → place_of_page cells q ≤ length pages) → LieInRun cells pages pfn place n → place + n ≤ length pages + 1
  run_fits n pfn place some within lie = omega (arith, some, (lie (n - 1) (omega (arith, some))).0, within (pfn + (n - 1)))
