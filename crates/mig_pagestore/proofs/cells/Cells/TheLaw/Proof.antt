-- A `&` to the cells reaches each page. Assumes `Logic`.
use Prim.Native.Nat.{ℕ}
use mathlib.Core.List.{List}
use Rattle.mig_pagestore.proofs.SlabCommon.{Ura, Lft, ffalse, row, mem, shared_of, each_shared, each_shr_laws}
use Rattle.mig_pagestore.proofs.Common.{full_share}
use types.Logic.{Logic}
use denote.RawPtr.{Ptr, RawPtr, block_ptr, null_ptr}
use denote.Param.Shared.{copy_shared}
use denote.Shares.{shares_each}
use denote.Sharing.{ShrLaws, said}
use denote.SharingLaws.{said_shr_laws}
use denote.Struct.Field.{u8-field, array_field}
use denote.Struct.Laws.{Copyable, u8-copy, array_copy, field_copy}
use denote.Struct.Lending.{Lends, Lends-first, Lends-false, of_Lends}
use Rattle.core.specs.contracts.marker.PhantomData as marker
use Rattle.mig_pagestore.specs.Ownership.{Page, cells_own, cells_lent}
use Rattle.mig_pagestore.specs.contracts.cells.Cells as C
use Rattle.mig_pagestore.proofs.cells.Cells.TheLaw.Statement.{statement}

abbrev page : Copyable (array_field u8-field 4096)
page = array_copy u8-field u8-copy 4096

laws : (p : Ptr) (ps : List (List ℕ)) → ShrLaws (cells_lent p ps)
laws (block_ptr b o) ps = each_shr_laws ps (shared_of Page) page.shr_laws (mem Page).size b o
laws null_ptr ps = said_shr_laws ffalse tt

lends : {M : Type 1} {𝓤 : Ura M} (𝓛 : Logic 𝓤) (l : Lft) (n : ℕ) (p : Ptr) (ps : List (List ℕ)) → Lends 𝓛 (cells_own n p ps) (cells_lent p ps) l
lends {M} {𝓤} 𝓛 l n (block_ptr b o) ps =
    Lends-first 𝓛 (row Page full_share ps b o) _ (each_shared ps (shared_of Page) (mem Page).size b o) l (λ κ ts. shares_each 𝓛 Page (shared_of Page) l ((page.copied M 𝓤 𝓛).shares full_share l) ps κ ts b o)
lends 𝓛 l n null_ptr ps = Lends-false 𝓛 (said ffalse) l

pub shares : statement
shares = of_Lends C.struct (C.the_codes (marker.the_row RawPtr).coded) C.the_heap C.the_lent (λ d p. laws d.at d.pages) (copy_shared (marker.the_field RawPtr) (field_copy (marker.the_type RawPtr) tt), tt)
    (λ M 𝓤 𝓛 d p. lends 𝓛 (C.the_row).lives d.places d.at d.pages)
