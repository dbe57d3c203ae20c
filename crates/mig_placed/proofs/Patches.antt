-- Pages that stand behind a file in place of some that stand in it.
use Rattle.mig_placed.proofs.Common.{◌≡◌, ◌≤◌, ℕ, zero, suc, ◌+◌, List, ◌++◌, length, take, drop, Option, Some, None, refl, sym, ap, ◌∙◌, arith, option_map, length-drop, take-append-le, get-mapped, ValueMap, cell_type, whole_page, frame_in_file, frames_in_file, drop-append-add, drop-append-le, cell_mark}
use Rattle.std.specs.FinMap as maps
use Rattle.std.specs.FinMap.{nat_cmp-IsAntisymmetric, same_map}
use Rattle.std.specs.Cmp.{nat_cmp_total}
use Rattle.mig_placed.specs.InFile.{page_in_file}
use Rattle.mig_placed.specs.Joined.{EndsWithin, EndAllWithin}

module _ (all more : List ℕ) where
  page_same : (place : ℕ) → EndsWithin (length all) place → page_in_file (Some (all ++ more)) place ≡ page_in_file (Some all) place
  unfolding page_in_file
  page_same zero within = refl
  page_same (suc at) within =
      let fits : at + 4096 ≤ length all = omega (arith, within (omega arith)) in
      ap (λ l. Some (whole_page l)) (ap (take 4096) (drop-append-le at all more (omega (arith, fits))) ∙ take-append-le 4096 (drop at all) more (omega (arith, fits, length-drop at all)))

  pub page_behind : (at : ℕ) → page_in_file (Some (all ++ more)) ((length all + at) + 1) ≡ page_in_file (Some more) (at + 1)
  unfolding page_in_file
  page_behind at =
      ap (page_in_file (Some (all ++ more))) (let e : (length all + at) + 1 ≡ suc (length all + at) = omega arith in e)
      ∙ ap (λ l. Some (whole_page (take 4096 l))) (drop-append-add all more at) ∙ ap (page_in_file (Some more)) (let e : suc at ≡ at + 1 = omega arith in e)

  module _ (cells : ValueMap) (within : EndAllWithin (length all) cells) where
    at_cell : (q : ℕ) (o : Option ℕ) → maps.get cells q ≡ o → option_map (frame_in_file (Some (all ++ more))) o ≡ option_map (frame_in_file (Some all)) o
    at_cell q None is = refl
    at_cell q (Some c) is = λ i. Some (record { type = cell_type c; page = page_same (cell_mark c) (within q c is) i })

    pub same_frames : frames_in_file (Some (all ++ more)) cells ≡ frames_in_file (Some all) cells
    same_frames = same_map nat_cmp_total nat_cmp-IsAntisymmetric _ _
        (λ q. get-mapped (frame_in_file (Some (all ++ more))) cells q ∙ at_cell q (maps.get cells q) refl ∙ sym (get-mapped (frame_in_file (Some all)) cells q))
