-- What the parts of a slab own and lend.
use Rattle.std.specs.Prelude.{ℕ, ◌+◌, ◌-◌, ◌*◌, List, length}
use Rattle.mig_pagestore.specs.Common.{Array, u8, Ptr, block_ptr, null_ptr}
use base.Fraction.{full_share}
use base.Fml.{Lft, Fml, ffalse, fsep, froom}
use mir.Syntax.{Ty, ty_array}
use denote.RattleType.{RattleType}
use denote.Index.{row}
use denote.Memory.{lone, mem, shared_of, each_shared}
use denote.Sharing.{said}

abbrev pub Page : RattleType
Page = Array u8 4096

-- a block for n pages
abbrev pub block : ℕ → Ty
block n = ty_array (lone Page.mir) n

-- the pages one behind another, and behind them room for the others, n in all
abbrev pub cells_own : ℕ → Ptr → List (List ℕ) → Fml
cells_own n (block_ptr b o) ps = fsep (row Page full_share ps b o) (froom (block (n - length ps)) b (length ps * 4096 + o))
cells_own n null_ptr ps = ffalse

abbrev pub cells_lent : Ptr → List (List ℕ) → Lft → Fml
cells_lent (block_ptr b o) ps = each_shared ps (shared_of Page) (mem Page).size b o
cells_lent null_ptr ps = said ffalse

-- the allocator's token for the block of n pages
abbrev pub deed_owns : (Ty → Ptr → Fml) → Ptr → ℕ → Fml
deed_owns token p n = token (block n) p
