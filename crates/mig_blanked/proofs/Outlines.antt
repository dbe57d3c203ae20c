-- The outline of a PV guest in its blank form stands for the blank form of the guest.
use Rattle.mig_pvtables.proofs.Common.{◌≡◌, ℕ, List, Option, Some, None, is_some, IsSome, refl, sym, ap, ◌∙◌, option_and_then, option_map, nat_cmp_total, nat_cmp-IsAntisymmetric, Pv, level_of, PageType, FrameOf, FrameMap, GuestOf, blanked_page, blanked_frame, blank_of, blank, place_of, each_value}
use Rattle.mig_outline.specs.Outline.{outline, outline_frame, outline_page, outline_type}
use Rattle.mig_pagestore_index.specs.Indexed.{ValueMap}
use Rattle.mig_pagetypes.specs.declared.page_type.PageType.TheVariants.{L1Pinned, L1Tab, L2Pinned, L2Tab, L3Pinned, L3Tab, L4Pinned, L4Tab, Notab, Broken, Xalloc, Xtab}
use Rattle.mig_pvtables.proofs.EachValue.{get_each, same_each}
use Rattle.mig_blanked.specs.Behind.{MarkListed, frame_behind, frames_behind, guest_behind, kept_page, page_behind}
use Rattle.std.specs.FinMap as maps

-- an outline leaves each table its level
same_level : (t : PageType) → level_of (outline_type t) ≡ level_of t
same_level Notab = refl
same_level L1Tab = refl
same_level L2Tab = refl
same_level L3Tab = refl
same_level L4Tab = refl
same_level L1Pinned = refl
same_level L2Pinned = refl
same_level L3Pinned = refl
same_level L4Pinned = refl
same_level Broken = refl
same_level Xalloc = refl
same_level Xtab = refl

-- the page of a frame is that of the blank form, where the outline keeps its page in the blank form
same_page : (place level : Option ℕ) (page : Option (List ℕ)) → page_behind (is_some place) level (blanked_page place level (outline_page level page)) page ≡ blanked_page place level page
same_page (Some k) level page = refl
same_page None (Some level) page = refl
same_page None None page = refl

module _ (g : GuestOf) where
  -- what the outline keeps of a frame
  kept_of : (pfn : ℕ) (x : FrameOf) → maps.get g.frames pfn ≡ Some x → kept_page (blank_of Pv (outline g)).frames pfn ≡ blanked_page (place_of g.parts pfn) (level_of x.type) (outline_page (level_of x.type) x.page)
  kept_of pfn x found =
      ap (option_and_then (λ (f : FrameOf). f.page))
      (get_each nat_cmp_total nat_cmp-IsAntisymmetric (blanked_frame g.parts) (each_value (λ _ f. outline_frame f) g.frames) pfn
      ∙ ap (option_map (blanked_frame g.parts pfn)) (get_each nat_cmp_total nat_cmp-IsAntisymmetric (λ _ f. outline_frame f) g.frames pfn ∙ ap (option_map outline_frame) found))
      ∙ ap (λ l. blanked_page (place_of g.parts pfn) l (outline_page (level_of x.type) x.page)) (same_level x.type)

  there : (pfn : ℕ) (x : FrameOf) → maps.get g.frames pfn ≡ Some x → IsSome (maps.get (outline g).frames pfn)
  there pfn x found = ap is_some (get_each nat_cmp_total nat_cmp-IsAntisymmetric (λ _ f. outline_frame f) g.frames pfn ∙ ap (option_map outline_frame) found)

  module _ (marks : ValueMap) (marked : MarkListed (outline g).frames (outline g).parts marks) where
    same_frame : (pfn : ℕ) (x : FrameOf) → maps.get g.frames pfn ≡ Some x → frame_behind marks (blank_of Pv (outline g)).frames pfn x ≡ blanked_frame g.parts pfn x
    same_frame pfn x found =
        ap (λ (o : Option (List ℕ)). record { type = x.type; page = o })
        ((λ i. page_behind (marked pfn (there pfn x found) i) (level_of x.type) (kept_of pfn x found i) x.page) ∙ same_page (place_of g.parts pfn) (level_of x.type) x.page)

    same_frames : frames_behind marks (blank_of Pv (outline g)).frames g.frames ≡ (blank_of Pv g).frames
    same_frames = same_each nat_cmp_total nat_cmp-IsAntisymmetric (frame_behind marks (blank_of Pv (outline g)).frames) (blanked_frame g.parts) g.frames same_frame

    same_guest : guest_behind (blank_of Pv (outline g)) marks g.frames ≡ blank_of Pv g
    same_guest = ap (λ (m : FrameMap). record (blank_of Pv g) { frames = m }) same_frames

pub stands_for : (g : GuestOf) (marks : ValueMap) → g.kind ≡ Pv → MarkListed (outline g).frames (outline g).parts marks → guest_behind (blank (outline g)) marks g.frames ≡ blank g
stands_for g marks pv marked =
    ap (λ k. guest_behind (blank_of k (outline g)) marks g.frames) pv ∙ same_guest g marks marked ∙ ap (λ k. blank_of k g) (sym pv)
