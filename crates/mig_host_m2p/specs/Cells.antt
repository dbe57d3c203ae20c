-- Cells, and the ways that the bits of machine frames lead from one to the next.
use Rattle.std.specs.Prelude.{◌≡◌, ℕ, zero, suc, ◌+◌, ◌<◌, false, true, List, slice_index_or, if◌then◌else◌, ◌==◌}
use Rattle.std.specs.Int.{bit_at}
use Rattle.std.specs.FinMap as maps
use Rattle.mig_pagestore_index.specs.Indexed.{ValueMap}
use Rattle.mig_host_m2p.specs.declared.cell.Cell.{Cell}

-- a cell that isn't in use
abbrev pub free_cell : Cell
free_cell = record { machine = 0; pfn = 0; zero = 0; one = 0; depth = 0; used = false }

-- the cells by number; those behind the last are free
abbrev pub cell_at : List Cell → ℕ → Cell
cell_at cells i = slice_index_or cells i free_cell

-- the cell below on the side of a bit
unfoldable pub below_on : Cell → ℕ → ℕ
below_on c zero = c.zero
below_on c (suc _) = c.one

-- the next cell on the way to a machine frame; 0 is none
abbrev pub next_cell : Cell → ℕ → ℕ
next_cell c machine = below_on c (bit_at machine c.depth)

-- a cell below; 0 is none
abbrev pub either_below : Cell → ℕ
either_below c = if c.zero == 0 then c.one else c.zero

-- the cell with another cell below on the side of a bit
unfoldable pub led_on : Cell → ℕ → ℕ → Cell
led_on c zero to = record c { zero = to }
led_on c (suc _) to = record c { one = to }

-- the cell, from which the way to a machine frame goes on to another one
abbrev pub led : Cell → ℕ → ℕ → Cell
led c machine to = led_on c (bit_at machine c.depth) to

-- two numbers have the same lowest d bits
abbrev pub Agree : ℕ → ℕ → ℕ → Type 0
Agree d a b = (i : ℕ) → i < d → bit_at a i ≡ bit_at b i

-- what a cell is that the way to a machine frame leads to from cell c
pub record IsNext (c : Cell) (machine : ℕ) (e : Cell) : Type 0 where
  pub used : e.used ≡ true
  pub depth : e.depth ≡ c.depth + 1
  pub agrees : Agree c.depth e.machine c.machine
  pub side : bit_at e.machine c.depth ≡ bit_at machine c.depth

-- the cell from which the way to cell j leads to it
pub record HasAbove (at : ℕ → Cell) (j : ℕ) : Type 0 where
  pub cell : ℕ
  pub used : (at cell).used ≡ true
  pub leads : next_cell (at cell) (at j).machine ≡ j

-- the map, with what a cell has
abbrev pub with_cell : Cell → ValueMap → ValueMap
with_cell c m = if c.used then maps.insert m c.machine c.pfn else m

-- what the cells 1 to n have; cell 0 is the root, which has no machine frame
unfoldable pub collected : (ℕ → Cell) → ℕ → ValueMap
collected at zero = maps.empty
collected at (suc n) = with_cell (at (suc n)) (collected at n)
