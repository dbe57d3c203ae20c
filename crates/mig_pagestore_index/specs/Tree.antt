-- What an index finds.
use Rattle.std.specs.Prelude.{◌≡◌, ℕ, ◌+◌, ◌*◌, ◌^◌, ◌<◌, ◌≤◌, List, length}
use Rattle.mig_pagestore_index.specs.Leaves.{under, IsLevel, IsFan, Becomes}
use Rattle.mig_pagestore_index.specs.Directories.{lead, near_keys, IsDirectory}
use Rattle.mig_pagestore_index.specs.declared.tree.Tree.{Tree}

-- the leaf of the numbers k * 512 to k * 512 + 511; 0 is none
abbrev pub leaf : Tree → ℕ → ℕ
leaf x = lead x.directory.near.items x.directory.root

-- the value of number k; 0 where there is none
abbrev pub found : Tree → ℕ → ℕ
found x = under (leaf x) x.leaves.cells.items

-- leaves of 512 values, to which F leads
pub record IsTree (F : ℕ → ℕ) (cells : List ℕ) (used : ℕ) : Type 0 where
  pub level : IsLevel cells used
  pub fan : IsFan F used
  pub low : (k : ℕ) → 0 < F k → k < 2 ^ 43

abbrev pub IsTreeOf : Tree → Type 0
IsTreeOf x = IsDirectory x.directory.root × IsTree (leaf x) x.leaves.cells.items x.leaves.used

-- leaves that are there and not in use
abbrev pub HasSpare : List ℕ → ℕ → ℕ → Type 0
HasSpare cells used more = (used + more) * 512 ≤ length cells

-- the same but for the value of one number
abbrev pub Sets : Tree → Tree → ℕ → ℕ → Type 0
Sets x y = Becomes (found x) (found y)

-- what `spare` more numbers need is there
pub record HasRoom (x : Tree) (spare : ℕ) : Type 0 where
  pub near : 0 < spare → near_keys ≤ length x.directory.near.items
  pub ways : 2 * spare ≤ length x.directory.ready.items
  pub leaves : HasSpare x.leaves.cells.items x.leaves.used spare

-- at most one more leaf is in use, and two fewer nodes are ready
pub record IsOneLess (x y : Tree) : Type 0 where
  pub near : length y.directory.near.items ≡ length x.directory.near.items
  pub ways : length x.directory.ready.items ≤ length y.directory.ready.items + 2
  pub used : y.leaves.used ≤ x.leaves.used + 1
  pub there : length y.leaves.cells.items ≡ length x.leaves.cells.items

-- as many leaves and nodes are in use, and as many are there
pub record IsAsFull (x y : Tree) : Type 0 where
  pub ways : y.directory ≡ x.directory
  pub used : y.leaves.used ≡ x.leaves.used
  pub there : length y.leaves.cells.items ≡ length x.leaves.cells.items

-- as many leaves are in use, and no fewer are there
pub record IsKept (x y : Tree) : Type 0 where
  pub near : length x.directory.near.items ≤ length y.directory.near.items
  pub ways : length x.directory.ready.items ≤ length y.directory.ready.items
  pub used : y.leaves.used ≡ x.leaves.used
  pub there : length x.leaves.cells.items ≤ length y.leaves.cells.items
