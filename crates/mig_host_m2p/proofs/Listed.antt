-- Cells in a list, before and after one is written.
use Rattle.mig_host_m2p.proofs.Common.{◌≡◌, ◌≢◌, ℕ, ◌<◌, ◌≤◌, true, false, List, length, set, ap, ◌∙◌, inl, inr, cases_lt, Cell, cell_at, free_cell, get_or-set_same, get_or-set_other}
use Rattle.std.proofs.Math.ListN.{get_or-eq_default}
use Rattle.mig_host_m2p.proofs.Grown.{not_both}

pub behind : (cells : List Cell) (i : ℕ) → length cells ≤ i → cell_at cells i ≡ free_cell
behind cells i le = get_or-eq_default cells free_cell le

pub behind_free : (cells : List Cell) (i : ℕ) → length cells ≤ i → (cell_at cells i).used ≡ false
behind_free cells i le = ap (λ (c : Cell). c.used) (behind cells i le)

pub in_range : (cells : List Cell) (i : ℕ) → (cell_at cells i).used ≡ true → i < length cells
in_range cells i used = elim (cases_lt i (length cells)) [
  | inl lt ↦ lt
  | inr le ↦ absurd (not_both (cell_at cells i).used (behind_free cells i le) used)
]

module _ (cells : List Cell) (i : ℕ) (c : Cell) where
  pub written : (q : ℕ) → i < length cells → q ≡ i → cell_at (set cells i c) q ≡ c
  written q lt e = ap (cell_at (set cells i c)) e ∙ get_or-set_same cells i c free_cell lt

  pub unwritten : (q : ℕ) → q ≢ i → cell_at (set cells i c) q ≡ cell_at cells q
  unwritten q ne = get_or-set_other cells i q c free_cell ne
