-- The cells that are written.
use Rattle.mig_placed.proofs.Common.{◌≡◌, ◌≢◌, ℕ, suc, ◌+◌, ◌<◌, ◌^◌, Some, None, Bool, true, false, refl, sym, ap, subst, ◌∙◌, arith, inl, inr, cases_eq, nat_cmp, get-empty, inserted, inserted_other, removed, removed_other, type_of_cell, mark_of_cell, ValueMap, PageType, Xtab, type_has_data, is_place, IsCell, AreCells, place_for, place_limit, cell_for}
use Rattle.std.specs.FinMap as maps
use Rattle.mig_pagestore.specs.FrameView.{cell_mark}

pub place_small : (b : Bool) (at : ℕ) → at < place_limit → place_for b at < 2 ^ 52
place_small true at lt = omega (arith, lt)
place_small false at lt = omega arith

step_in : (b : Bool) (at : ℕ) → is_place (place_for b at) ≡ b
step_in true at = ap is_place (let e : at + 1 ≡ suc at = omega arith in e)
step_in false at = refl

pub cell_is : (type : PageType) (at : ℕ) → type ≢ Xtab → at < place_limit → IsCell (cell_for type at)
cell_is type at there small =
    let place = place_for (type_has_data type) at in let lt = place_small (type_has_data type) at small in
    let is = type_of_cell type place lt in
    record {
      there = λ e. there (sym is ∙ e);
      in_step = ap is_place (mark_of_cell type place lt) ∙ step_in (type_has_data type) at ∙ ap type_has_data (sym is);
    }

pub place_below : (c : ℕ) → cell_mark c < 2 ^ 52
unfolding cell_mark
place_below c = omega arith

-- ---- cells one beside another

pub no_cells : (m : ValueMap) → m ≡ maps.empty → AreCells m
no_cells m none = λ q c e. let no : None ≡ Some c = sym (ap (λ (m : ValueMap). maps.get m q) none ∙ get-empty nat_cmp q) ∙ e in absurd (cc)

pub cells_removed : (m new : ValueMap) (k : ℕ) → AreCells m → new ≡ maps.remove m k → AreCells new
cells_removed m new k cells is = λ q c e.
    let at : maps.get (maps.remove m k) q ≡ Some c = sym (ap (λ (n : ValueMap). maps.get n q) is) ∙ e in
    elim (cases_eq q k) [
      | inl same ↦ let no : None ≡ Some c = sym (removed m k q same) ∙ at in absurd (cc)
      | inr ne ↦ cells q c (sym (removed_other m k q ne) ∙ at)
    ]

pub cells_inserted : (m new : ValueMap) (k v : ℕ) → AreCells m → IsCell v → new ≡ maps.insert m k v → AreCells new
cells_inserted m new k v cells cell is = λ q c e.
    let at : maps.get (maps.insert m k v) q ≡ Some c = sym (ap (λ (n : ValueMap). maps.get n q) is) ∙ e in
    elim (cases_eq q k) [
      | inl same ↦ let has : Some v ≡ Some c = sym (inserted m k q v same) ∙ at in let one : v ≡ c = cc in subst IsCell one cell
      | inr ne ↦ cells q c (sym (inserted_other m k q v ne) ∙ at)
    ]
