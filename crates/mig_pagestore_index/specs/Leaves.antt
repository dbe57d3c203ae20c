-- The leaves of an index, of 512 places each, and what leads to them.
use Rattle.std.specs.Prelude.{◌≡◌, ◌≢◌, ℕ, zero, suc, ◌+◌, ◌*◌, ◌/◌, ◌%◌, ◌<◌, ◌≤◌, List, length, slice_index}

-- what is at place j of a leaf; leaves are numbered from 1, and 0 is none
unfoldable pub step : List ℕ → ℕ → ℕ → ℕ
step cells zero j = 0
step cells (suc n) j = slice_index cells (n * 512 + j)

-- what stands under number k, where F tells the leaf for the numbers k / 512
abbrev pub under : (ℕ → ℕ) → List ℕ → ℕ → ℕ
under F cells k = step cells (F (k / 512)) (k % 512)

-- the first leaves are in use, and the others are there and empty
pub record IsLevel (cells : List ℕ) (used : ℕ) : Type 0 where
  pub in_range : used * 512 ≤ length cells
  pub empty : (i : ℕ) → used * 512 ≤ i → slice_index cells i ≡ 0
  pub few : length cells < 1099511627776

-- F leads to leaves in use, and to each leaf from one key alone
pub record IsFan (F : ℕ → ℕ) (used : ℕ) : Type 0 where
  pub known : (k : ℕ) → F k ≤ used
  pub apart : (j k : ℕ) → F j ≡ F k → 0 < F k → j ≡ k

-- G is F but at j, where it is v
pub record Becomes (F G : ℕ → ℕ) (j v : ℕ) : Type 0 where
  pub here : G j ≡ v
  pub there : (q : ℕ) → q ≢ j → G q ≡ F q
