-- What stands in a host of bytes is seen as a guest of bytes.
use Rattle.mig_host_view.proofs.Common.{◌≡◌, ℕ, ◌<◌, Bool, true, false, cond, ◌==◌, List, take, Option, Some, None, ap, subst, ◌∙◌, arith, nat_cmp_total, nat_cmp-IsAntisymmetric, Pv, Hvm, level_of, PartKey, FrameOf, GuestOf, part_total, part_exact, Result, Ok, Err, replicate, AreBytes, scan, cut_at, ContextFault, Kind, HostOf, pfn_in, renamed_table, Usage, is_used_somewhere, from_each, renamed_page, renamed_frame, renamed_part, renamed, cut_by, part_seen, normalised_of, normalised, renamed_context, guest_in, view, IsOfBytes, All-append, All-take, All-replicate, longs_bytes, kind_bytes, mapped_holds}

abbrev IsByte : ℕ → Type 0
IsByte b = b < 256

cut_bytes : (body : List ℕ) (o : ℕ) → AreBytes body → AreBytes (cut_at body o)
cut_bytes body o all = All-append IsByte (take o body) (replicate 8 0) (All-take IsByte o body all) (All-replicate IsByte 8 0 (omega arith))

pub seen_bytes : (key : PartKey) (part : List ℕ) → AreBytes part → AreBytes (part_seen key part)
seen_bytes key part all = by_case (key.code == 9) (scan part)
  where
    by_case : (b : Bool) (r : Result ℕ ContextFault) → AreBytes (cond b (cut_by r part) part)
    by_case true (Ok end) = cut_bytes part end all
    by_case true (Err fault) = all
    by_case false r = all

module _ (used : Usage) (f : ℕ → Option ℕ) where
  page_bytes : (level : Option ℕ) (page : Option (List ℕ)) → ((p : List ℕ) → page ≡ Some p → AreBytes p) → (q : List ℕ) → renamed_page f level page ≡ Some q → AreBytes q
  page_bytes (Some level) page all = mapped_holds AreBytes (renamed_table f level) (λ _. longs_bytes 512 _) page
  page_bytes None page all = all

  part_bytes : (context : Bool) (id : ℕ) (part : List ℕ) → AreBytes part → AreBytes (cond context (renamed_context used f id part) part)
  part_bytes true id part all = longs_bytes 646 _
  part_bytes false id part all = all

  renamed_bytes : (g : GuestOf) → IsOfBytes g → IsOfBytes (renamed used f g)
  renamed_bytes g all = record {
    pages = λ pfn y page got has.
        let (x, found, same) = from_each nat_cmp_total nat_cmp-IsAntisymmetric (λ (p : ℕ) (x : FrameOf). renamed_frame f x) g.frames pfn y got in
        page_bytes (level_of x.type) x.page (λ p is. all.pages pfn x p found is) page (ap (λ (z : FrameOf). z.page) same ∙ has);
    parts = λ key bytes got.
        let (part, found, same) = from_each part_total part_exact (renamed_part used f) g.parts key bytes got in
        subst AreBytes same (part_bytes (key.code == 4) key.key1 part (all.parts key part found));
  }

by_kind : (pfn_of : ℕ → Option ℕ) (kind : Kind) (g : GuestOf) → IsOfBytes g → IsOfBytes (normalised_of kind pfn_of g)
by_kind pfn_of Pv g all = kind_bytes Pv (renamed is_used_somewhere pfn_of g) (renamed_bytes is_used_somewhere pfn_of g all)
by_kind pfn_of Hvm g all = record {
  pages = all.pages;
  parts = λ key bytes got.
      let (part, found, same) = from_each part_total part_exact part_seen g.parts key bytes got in
      subst AreBytes same (seen_bytes key part (all.parts key part found));
}

pub normalised_bytes : (pfn_of : ℕ → Option ℕ) (g : GuestOf) → IsOfBytes g → IsOfBytes (normalised pfn_of g)
normalised_bytes pfn_of g all = by_kind pfn_of g.kind g all

pub view_bytes : (h : HostOf) → IsOfBytes (guest_in h) → IsOfBytes (view h)
view_bytes h all = normalised_bytes (pfn_in h.frames) (guest_in h) all
