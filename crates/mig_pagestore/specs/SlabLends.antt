-- What a slab ends as, once a `&mut` into it has ended.
use Rattle.std.specs.Prelude.{ℕ, List, slice_set}
use Rattle.std.specs.Borrow.{Fml, MutBor, Array, u8, Lends}
use Rattle.mig_pagestore.specs.Slab.{Pages}
use Rattle.mig_pagestore.specs.contracts.slab.Slab.{the_row}

-- the page at the index is the last one written through r
abbrev pub lends_slab_page : MutBor Pages → ℕ → MutBor (List ℕ) → Fml
lends_slab_page s i r = Lends the_row (Array u8 4096) s r (λ w. record s.now { pages = slice_set s.now.pages i w })
