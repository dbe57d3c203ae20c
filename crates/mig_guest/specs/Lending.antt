-- What a guest ends as, where a `&mut` to one of its pages or parts is returned.
use Rattle.std.specs.Prelude.{ℕ, List, ◌++◌, length, take, drop, Option, Some, None}
use Rattle.std.specs.FinMap as maps
use Rattle.mig_guest.specs.Common.{Lends, LendsIf, MutBor, Fml, RattleType, Array, u8, Vec}
use Rattle.std.specs.declared.alloc.Global.{Global}
use Rattle.std.specs.Vec.{with_items}
use Rattle.std.specs.contracts.vec.Vec as vec
use Rattle.std.specs.contracts.alloc.Global as global
use Rattle.std.specs.contracts.impls.GlobalAllocator.TheImpl.{ghosts}
use Rattle.mig_pagestore.specs.FrameLending.{with_page}
use Rattle.mig_guest.specs.declared.part_key.PartKey.{PartKey}
use Rattle.mig_guest.specs.Parts.{PartMap}
use Rattle.mig_guest.specs.Guests.{GuestOf}
use Rattle.mig_guest.specs.contracts.parts.Parts as parts
use Rattle.mig_guest.specs.contracts.guest.Guest as guest

-- ---- pages

-- at `Some` the guest ends with the last bytes behind r as the page of pfn; at `None` it stays
abbrev pub LendsGuestPage : MutBor GuestOf → ℕ → Option (MutBor (List ℕ)) → Fml
LendsGuestPage g pfn r = LendsIf guest.the_row (Array u8 4096) g r (λ w. record g.now { frames = with_page g.now.frames pfn w }) g.now

-- ---- parts

-- how a part's bytes are kept
abbrev pub part_row : RattleType
part_row = vec.the_row u8 global.the_row ghosts

abbrev pub Bytes : Type 0
Bytes = Vec ℕ Global

-- at `Some` the parts end with what r was left at as the part of this key; at `None` they stay
abbrev pub LendsPart : MutBor PartMap → PartKey → Option (MutBor Bytes) → Fml
LendsPart m key r = LendsIf parts.the_row part_row m r (λ v. maps.insert m.now key v.items) m.now

-- the same of a guest
abbrev pub LendsGuestPart : MutBor GuestOf → PartKey → Option (MutBor Bytes) → Fml
LendsGuestPart g key r = LendsIf guest.the_row part_row g r (λ v. record g.now { parts = maps.insert g.now.parts key v.items }) g.now

-- the vector ends with what was written through r
abbrev pub LendsBytes : MutBor Bytes → MutBor (List ℕ) → Fml
LendsBytes v r = Lends part_row (Array u8 0) v r (with_items v.now)

-- what a part of these bytes is, once w was written through a slice of it: w, since a slice keeps its length
abbrev pub written : List ℕ → List ℕ → List ℕ
written part w = take (length part) (w ++ drop (length w) part)

-- the parts, where a part that is there was written
abbrev pub rewritten : Option (List ℕ) → PartMap → PartKey → List ℕ → PartMap
rewritten None m key w = m
rewritten (Some part) m key w = maps.insert m key (written part w)

abbrev pub with_part : PartMap → PartKey → List ℕ → PartMap
with_part m key w = rewritten (maps.get m key) m key w

-- at `Some` the guest ends with the last bytes behind r as the part of this key; at `None` it stays
abbrev pub LendsGuestBytes : MutBor GuestOf → PartKey → Option (MutBor (List ℕ)) → Fml
LendsGuestBytes g key r = LendsIf guest.the_row (Array u8 0) g r (λ w. record g.now { parts = with_part g.now.parts key w }) g.now
