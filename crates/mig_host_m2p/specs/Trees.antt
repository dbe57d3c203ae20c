-- Trees of cells, and the stack of those that are free.
use Rattle.std.specs.Prelude.{◌≡◌, ℕ, ◌+◌, ◌<◌, ◌≤◌, ◌^◌, true, false, List, length, slice_index}
use Rattle.std.specs.FinMap as maps
use Rattle.mig_pagestore_index.specs.Indexed.{ValueMap}
use Rattle.mig_host_m2p.specs.declared.cell.Cell.{Cell}
use Rattle.mig_host_m2p.specs.declared.tree.Tree.{Tree}
use Rattle.mig_host_m2p.specs.Cells.{cell_at, next_cell, Agree, IsNext, HasAbove, collected}
use Rattle.mig_pagetypes.specs.Limits.{machine_limit}

-- The cells in use form a tree with root 0, in which the bits of a machine frame lead to its cell.
pub record IsGrown (at : ℕ → Cell) : Type 0 where
  pub root : (at 0).depth ≡ 0
  pub outside : (at 0).used ≡ true → machine_limit ≤ (at 0).machine
  pub inside : (i : ℕ) → 0 < i → (at i).used ≡ true → (at i).machine < machine_limit
  pub low : (i : ℕ) → (at i).used ≡ true → (at i).depth ≤ 40
  pub down : (i machine : ℕ) → (at i).used ≡ true → 0 < next_cell (at i) machine → IsNext (at i) machine (at (next_cell (at i) machine))
  pub up : (j : ℕ) → 0 < j → (at j).used ≡ true → HasAbove at j
  pub apart : (i j : ℕ) → (at i).used ≡ true → (at j).used ≡ true → (at i).depth ≡ (at j).depth → Agree (at i).depth (at i).machine (at j).machine → i ≡ j
  pub sole : (i j : ℕ) → (at i).used ≡ true → (at j).used ≡ true → (at i).machine ≡ (at j).machine → i ≡ j

-- the first numbers of a list are different cells of the first `most`, which aren't in use
pub record AreFree (at : ℕ → Cell) (free : List ℕ) (spare most : ℕ) : Type 0 where
  pub some : (a : ℕ) → a < spare → 0 < slice_index free a
  pub there : (a : ℕ) → a < spare → slice_index free a < most
  pub unused : (a : ℕ) → a < spare → (at (slice_index free a)).used ≡ false
  pub different : (a b : ℕ) → a < spare → b < spare → slice_index free a ≡ slice_index free b → a ≡ b

-- what a tree of these cells has
abbrev pub kept_in : List Cell → ValueMap
kept_in cells = collected (cell_at cells) (length cells)

pub record IsStanding (cells : List Cell) (free : List ℕ) (spare : ℕ) : Type 0 where
  pub grown : IsGrown (cell_at cells)
  pub begun : 0 < length cells → (cell_at cells 0).used ≡ true
  pub free_ones : AreFree (cell_at cells) free spare (length cells)
  pub wide : length cells ≤ length free
  pub few : length cells ≤ 2 ^ 32
  pub room : spare + maps.len (kept_in cells) ≤ length cells

abbrev pub IsStandingTree : Tree → Type 0
IsStandingTree x = IsStanding x.cells.items x.free.items x.spare

-- what a tree has
abbrev pub kept : Tree → ValueMap
kept x = kept_in x.cells.items

abbrev pub cell_of : Tree → ℕ → Cell
cell_of x = cell_at x.cells.items
