-- A guest that is copied of pages and parts of bytes is of bytes.
use Rattle.mig_host.proofs.Common.{◌≡◌, ℕ, List, Option, Some, None, IfSome, Kind, sym, subst, ◌∙◌, none-some, get-empty, nat_cmp, part_cmp, nat_cmp_total, nat_cmp-IsAntisymmetric, PageType, FrameOf, FrameMap, PartKey, part_total, part_exact, Xtab, framed, GuestOf, insert_holds, remove_holds, IsOfBytes}
use Rattle.mig_bytes.specs.Bytes.{AreBytes}
use Rattle.std.specs.FinMap as maps

-- the page of a frame, where it has one, is of bytes
abbrev PageIsOfBytes : ℕ → FrameOf → Type 0
PageIsOfBytes pfn x = (page : List ℕ) → x.page ≡ Some page → AreBytes page

some_of_bytes : (o : Option (List ℕ)) → IfSome o (λ page. AreBytes page) → (page : List ℕ) → o ≡ Some page → AreBytes page
some_of_bytes None all page is = cc
some_of_bytes (Some p) all page is = let same : p ≡ page = cc in subst AreBytes same all

abbrev PagesOfBytes : FrameMap → Type 0
PagesOfBytes m = (pfn : ℕ) (x : FrameOf) → maps.get m pfn ≡ Some x → PageIsOfBytes pfn x

framed_bytes : (m : FrameMap) (pfn : ℕ) (t : PageType) (page : Option (List ℕ)) → PagesOfBytes m → IfSome page (λ page. AreBytes page) → PagesOfBytes (framed m pfn t page)
framed_bytes m pfn Xtab page all one = remove_holds nat_cmp_total nat_cmp-IsAntisymmetric PageIsOfBytes m pfn all
framed_bytes m pfn t page all one = insert_holds nat_cmp_total nat_cmp-IsAntisymmetric PageIsOfBytes m pfn (record { type = t; page = page }) all (some_of_bytes page one)

-- a guest without pages and parts
pub none_of_bytes : (kind : Kind) (top : ℕ) → IsOfBytes (record { kind = kind; top = top; frames = maps.empty; parts = maps.empty })
none_of_bytes kind top = record {
  pages = λ pfn x page got has. absurd (none-some x (sym (get-empty nat_cmp pfn) ∙ got));
  parts = λ key bytes got. absurd (none-some bytes (sym (get-empty part_cmp key) ∙ got));
}

pub frame_set_bytes : (g new : GuestOf) (pfn : ℕ) (t : PageType) (page : Option (List ℕ)) → IsOfBytes g → IfSome page (λ page. AreBytes page) → new ≡ record g { frames = framed g.frames pfn t page } → IsOfBytes new
frame_set_bytes g new pfn t page all one is =
    subst (λ (g : GuestOf). IsOfBytes g) (sym is)
    (record { pages = λ k x p got has. framed_bytes g.frames pfn t page (λ k x got p has. all.pages k x p got has) one k x got p has; parts = all.parts })

pub part_set_bytes : (g new : GuestOf) (key : PartKey) (bytes : List ℕ) → IsOfBytes g → AreBytes bytes → new ≡ record g { parts = maps.insert g.parts key bytes } → IsOfBytes new
part_set_bytes g new key bytes all one is =
    subst (λ (g : GuestOf). IsOfBytes g) (sym is)
    (record { pages = all.pages; parts = insert_holds part_total part_exact (λ _ part. AreBytes part) g.parts key bytes all.parts one })
