-- Directories, which tell of each key, which stands for 512 numbers, its leaf: a table of the lowest keys, and a search tree
-- of the others.
use Rattle.std.specs.Prelude.{ℕ, ◌<◌, ◌≤◌, if◌then◌else◌, ◌==◌, nat_lt, List, slice_index}
use Rattle.mig_pagestore_index.specs.declared.directory.Node.{Node}
use Rattle.mig_pagestore_index.specs.declared.directory.Node.TheVariants.{Empty, Tip, Fork'}

-- the leaf of a key; 0 is none
abbrev pub leaf_at : Node → ℕ → ℕ
leaf_at Empty q = 0
leaf_at (Tip key leaf) q = if q == key then leaf else 0
leaf_at (Fork' split low high a left b right) q = if nat_lt q split then leaf_at left q else leaf_at right q

-- all keys are from low to high
abbrev pub AreWithin : ℕ → ℕ → (ℕ → ℕ) → Type 0
AreWithin low high f = (q : ℕ) → 0 < f q → (low ≤ q) × (q ≤ high)

-- the keys on the left are from low on and below split, those on the right from split on and up to high
pub record IsFork (split low high : ℕ) (left right : ℕ → ℕ) : Type 0 where
  pub ordered : (low < split) × (split ≤ high)
  pub below : (q : ℕ) → 0 < left q → (low ≤ q) × (q < split)
  pub above : (q : ℕ) → 0 < right q → (split ≤ q) × (q ≤ high)

-- each fork parts its keys, and each tip has a leaf
abbrev pub IsSearched : Node → Type 0
IsSearched Empty = Unit {0}
IsSearched (Tip key leaf) = 0 < leaf
IsSearched (Fork' split low high a left b right) = IsSearched left × IsSearched right × IsFork split low high (leaf_at left) (leaf_at right)

-- the keys below this stand in the table
abbrev pub near_keys : ℕ
near_keys = 4096

-- the leaf of a key in a table and a tree; 0 is none
abbrev pub lead : List ℕ → Node → ℕ → ℕ
lead near root q = if nat_lt q near_keys then slice_index near q else leaf_at root q

pub record IsDirectory (root : Node) : Type 0 where
  pub searched : IsSearched root
  pub far : (q : ℕ) → 0 < leaf_at root q → near_keys ≤ q
