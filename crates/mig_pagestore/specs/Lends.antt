-- What the cells end as, once a `&mut` to a page of theirs has ended.
use Rattle.std.specs.Prelude.{ℕ, List, slice_set}
use Rattle.std.specs.Borrow.{Fml, MutBor, Lends}
use Rattle.mig_pagestore.specs.Ownership.{Page}
use Rattle.mig_pagestore.specs.declared.cells.Cells.{Cells}
use Rattle.mig_pagestore.specs.contracts.cells.Cells.{the_row}

abbrev pub with_slab_page : Cells → ℕ → List ℕ → Cells
with_slab_page c i w = record c { pages = slice_set c.pages i w }

abbrev pub lends_cell : MutBor Cells → ℕ → MutBor (List ℕ) → Fml
lends_cell c i r = Lends the_row Page c r (with_slab_page c.now i)
