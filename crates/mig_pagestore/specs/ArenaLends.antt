-- What an arena ends as, once a `&mut` into it has ended.
use Rattle.std.specs.Prelude.{ℕ, List, slice_set}
use Rattle.std.specs.Borrow.{Fml, MutBor, Array, u8, Lends}
use Rattle.mig_pagestore.specs.Packed.{Placed}
use Rattle.mig_pagestore.specs.contracts.arena.Arena.{the_row}

-- the page at the place is the last one written through r
abbrev pub lends_page : MutBor Placed → ℕ → MutBor (List ℕ) → Fml
lends_page s i r = Lends the_row (Array u8 4096) s r (λ w. record s.now { pages = slice_set s.now.pages i w })
