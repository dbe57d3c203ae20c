-- The blank form of a guest of bytes is of bytes, and what the blank form writes as numbers is of bytes whatever it was.
use Rattle.mig_pvtables.proofs.Common.{◌≡◌, ℕ, zero, suc, ◌%◌, ◌<◌, Bool, true, false, cond, List, Option, Some, None, ap, subst, ◌∙◌, arith, ◌==◌, nat_cmp_total, nat_cmp-IsAntisymmetric, Pv, Hvm, level_of, FrameOf, GuestOf, blanked_table, part_total, part_exact, blanked_page, blanked_frame, blanked_part, blank_of, blank, IsOfBytes, place_of, blanked_context, blanked_shared, byte_at, little_bytes, AreBytes, Kind, All-nil, All-cons, All-append, All-replicate, bytes_low_first}
use Rattle.mig_guest.specs.Longs.{longs}
use Rattle.mig_pvtables.specs.Blank.{zero_page}
use Rattle.mig_pvtables.proofs.EachValue.{from_each}
use Rattle.mig_pvtables.proofs.SameShape.{mapped_holds}

abbrev IsByte : ℕ → Type 0
IsByte b = b < 256

small_rest : (n : ℕ) → n % 256 < 256
small_rest n = omega arith

small_byte : (i x : ℕ) → byte_at i x < 256
small_byte zero x = small_rest x
small_byte (suc i) x = small_rest _

-- the bytes of a number
number_bytes : (i n x : ℕ) → AreBytes (bytes_low_first i n x)
number_bytes i zero x = All-nil IsByte
number_bytes i (suc n) x = All-cons IsByte (byte_at i x) (bytes_low_first (suc i) n x) (small_byte i x) (number_bytes (suc i) n x)

pub longs_bytes : (n : ℕ) (f : ℕ → ℕ) → AreBytes (longs n f)
unfolding longs
longs_bytes zero f = All-nil IsByte
longs_bytes (suc n) f = All-append IsByte (longs n f) (little_bytes 8 (f n)) (longs_bytes n f) (number_bytes 0 8 (f n))

pub zero_bytes : AreBytes zero_page
unfolding zero_page
zero_bytes = All-replicate IsByte 4096 0 (omega arith)

page_bytes : (place level : Option ℕ) (page : Option (List ℕ)) → ((p : List ℕ) → page ≡ Some p → AreBytes p) → (q : List ℕ) → blanked_page place level page ≡ Some q → AreBytes q
page_bytes (Some k) level page all = mapped_holds AreBytes (λ _. zero_page) (λ _. zero_bytes) page
page_bytes None (Some level) page all = mapped_holds AreBytes (blanked_table level) (λ _. longs_bytes 512 _) page
page_bytes None None page all = all

part_bytes : (context shared : Bool) (part : List ℕ) → AreBytes part → AreBytes (cond context (blanked_context part) (cond shared (blanked_shared part) part))
part_bytes true shared part all = longs_bytes 646 _
part_bytes false true part all = longs_bytes 512 _
part_bytes false false part all = all

pub kind_bytes : (kind : Kind) (g : GuestOf) → IsOfBytes g → IsOfBytes (blank_of kind g)
kind_bytes Hvm g all = all
kind_bytes Pv g all = record {
  pages = λ pfn y page got has.
      let (x, found, same) = from_each nat_cmp_total nat_cmp-IsAntisymmetric (blanked_frame g.parts) g.frames pfn y got in
      page_bytes (place_of g.parts pfn) (level_of x.type) x.page (λ p is. all.pages pfn x p found is) page (ap (λ (f : FrameOf). f.page) same ∙ has);
  parts = λ key bytes got.
      let (part, found, same) = from_each part_total part_exact blanked_part g.parts key bytes got in
      subst AreBytes same (part_bytes (key.code == 4) (key.code == 7) part (all.parts key part found));
}

pub blank_bytes : (g : GuestOf) → IsOfBytes g → IsOfBytes (blank g)
blank_bytes g all = kind_bytes g.kind g all

-- ---- tables and contexts that are their own blank form

pub table_of_bytes : (place : Option ℕ) (level : ℕ) (page : List ℕ) → blanked_page place (Some level) (Some page) ≡ Some page → AreBytes page
table_of_bytes (Some k) level page is = let same : zero_page ≡ page = cc in subst AreBytes same zero_bytes
table_of_bytes None level page is = let same : blanked_table level page ≡ page = cc in subst AreBytes same (longs_bytes 512 _)

pub context_of_bytes : (context : List ℕ) → blanked_context context ≡ context → AreBytes context
context_of_bytes context is = subst AreBytes is (longs_bytes 646 _)
