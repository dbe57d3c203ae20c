-- The outline of a PV guest as it stands in a machine stands for the blank form of the guest, as that stands there.
use Rattle.mig_pvtables.proofs.Common.{◌≡◌, ℕ, ◌+◌, List, Option, Some, None, Bool, true, false, cond, is_some, IsSome, refl, sym, ap, ◌∙◌, option_and_then, option_map, unwrap_or, nat_lt, nat_cmp_total, nat_cmp-IsAntisymmetric, part_total, part_exact, Pv, Kind, level_of, PageType, PartMap, FrameOf, FrameMap, GuestOf, blanked_page, blanked_frame, blanked_part, blank_of, blank, place_of, each_value, zero_page, blanked_table, table_changed, p2m_key}
use Rattle.mig_host.specs.Hosted.{mfn_in, rank_in}
use Rattle.mig_host_view.specs.Localised.{localised, localised_frame, localised_of, localised_page, renamed_page, renamed_part}
use Rattle.mig_outline.specs.Outline.{outline, outline_frame, outline_page, outline_type}
use Rattle.mig_pagestore_index.specs.Indexed.{ValueMap}
use Rattle.mig_pagetypes.specs.declared.page_type.PageType.TheVariants.{L1Pinned, L1Tab, L2Pinned, L2Tab, L3Pinned, L3Tab, L4Pinned, L4Tab, Notab, Broken, Xalloc, Xtab}
use Rattle.mig_pvtables.proofs.EachValue.{count_each, each_each, get_each, same_each, stays_each}
use Rattle.mig_pvtables.specs.P2mFrames.{place_in}
use Rattle.mig_pvtables.specs.P2mPages.{p2m_page}
use Rattle.mig_pvtables.specs.VcpuContexts.{is_used}
use Rattle.mig_blanked.specs.Behind.{MarkListed, kept_page}
use Rattle.mig_localised.specs.Over.{IsInMachine, frame_over, frames_over, guest_over, page_over, seated, seated_frame, zeroed_frame}
use Rattle.std.specs.FinMap as maps

-- an outline leaves each table its level
same_level : (t : PageType) → level_of (outline_type t) ≡ level_of t
same_level Notab = refl
same_level L1Tab = refl
same_level L2Tab = refl
same_level L3Tab = refl
same_level L4Tab = refl
same_level L1Pinned = refl
same_level L2Pinned = refl
same_level L3Pinned = refl
same_level L4Pinned = refl
same_level Broken = refl
same_level Xalloc = refl
same_level Xtab = refl

-- frames that are changed where they are have the same machine frames
same_machine : (f : ℕ → FrameOf → FrameOf) (frames : FrameMap) (base pfn : ℕ) → mfn_in (each_value f frames) base pfn ≡ mfn_in frames base pfn
same_machine f frames base pfn =
    (λ i. option_map (λ _. base + count_each nat_cmp_total nat_cmp-IsAntisymmetric f (λ q. nat_lt q pfn) frames i) (get_each nat_cmp_total nat_cmp-IsAntisymmetric f frames pfn i))
    ∙ elim (maps.get frames pfn) as (λ (o : Option FrameOf). option_map (λ (_ : FrameOf). base + rank_in frames pfn) (option_map (f pfn) o) ≡ option_map (λ (_ : FrameOf). base + rank_in frames pfn) o) [ None ↦ refl | Some x ↦ refl ]

module _ (mfn_of : ℕ → Option ℕ) where
  -- of a frame that is no P2M frame
  plain_page : (level : Option ℕ) (page : Option (List ℕ)) → page_over (renamed_page mfn_of level (blanked_page None level (outline_page level page))) page ≡ renamed_page mfn_of level (blanked_page None level page)
  plain_page None None = refl
  plain_page None (Some page) = refl
  plain_page (Some level) None = refl
  plain_page (Some level) (Some page) = refl

  p2m_frame : (k : ℕ) (page : Option (List ℕ)) → page_over (Some (p2m_page mfn_of k)) page ≡ option_map (λ _. p2m_page mfn_of k) (option_map (λ _. zero_page) page)
  p2m_frame k None = refl
  p2m_frame k (Some page) = refl

  -- the outline's frame, as it is kept in the machine, stands for the frame in its blank form as it is there
  same_page : (place : Option ℕ) (t u : PageType) (page : Option (List ℕ)) → level_of u ≡ level_of t
      → (let y = cond (is_some place) zeroed_frame (record { type = u; page = blanked_page place (level_of u) (outline_page (level_of t) page) }) in page_over (localised_page place mfn_of (level_of y.type) y.page) page)
      ≡ localised_page place mfn_of (level_of t) (blanked_page place (level_of t) page)
  same_page (Some k) t u page same = p2m_frame k page
  same_page None t u page same = ap (λ l. page_over (renamed_page mfn_of l (blanked_page None l (outline_page (level_of t) page))) page) same ∙ plain_page (level_of t) page

module _ (g : GuestOf) (base : ℕ) (marks : ValueMap) (marked : MarkListed (outline g).frames (outline g).parts marks) where
  abbrev bare : GuestOf
  bare = seated marks (blank_of Pv (outline g))

  abbrev machines : ℕ → Option ℕ
  machines = mfn_in bare.frames base

  -- the machine frames are those of the guest
  same_machines : (pfn : ℕ) → machines pfn ≡ mfn_in (blank_of Pv g).frames base pfn
  same_machines pfn =
      same_machine (seated_frame marks) (blank_of Pv (outline g)).frames base pfn ∙ same_machine (blanked_frame g.parts) (outline g).frames base pfn
      ∙ same_machine (λ _ f. outline_frame f) g.frames base pfn ∙ sym (same_machine (blanked_frame g.parts) g.frames base pfn)

  -- the list of the P2M frames is as it was
  same_place : (pfn : ℕ) → place_of (each_value blanked_part g.parts) pfn ≡ place_of g.parts pfn
  same_place pfn = ap (λ o. place_in o pfn) (stays_each part_total part_exact blanked_part p2m_key (λ _. refl) g.parts)

  abbrev outlined : ℕ → FrameOf → FrameOf
  outlined pfn x = blanked_frame g.parts pfn (outline_frame x)

  module _ (pfn : ℕ) (x : FrameOf) (found : maps.get g.frames pfn ≡ Some x) where
    in_outline : maps.get (outline g).frames pfn ≡ Some (outline_frame x)
    in_outline = get_each nat_cmp_total nat_cmp-IsAntisymmetric (λ _ f. outline_frame f) g.frames pfn ∙ ap (option_map outline_frame) found

    in_bare : maps.get bare.frames pfn ≡ Some (seated_frame marks pfn (outlined pfn x))
    in_bare =
        get_each nat_cmp_total nat_cmp-IsAntisymmetric (seated_frame marks) (blank_of Pv (outline g)).frames pfn
        ∙ ap (option_map (seated_frame marks pfn))
        (get_each nat_cmp_total nat_cmp-IsAntisymmetric (blanked_frame g.parts) (outline g).frames pfn ∙ ap (option_map (blanked_frame g.parts pfn)) in_outline)

    kept_is : kept_page (localised_of Pv machines bare).frames pfn ≡ (localised_frame bare.parts machines pfn (seated_frame marks pfn (outlined pfn x))).page
    kept_is =
        ap (option_and_then (λ (f : FrameOf). f.page))
        (get_each nat_cmp_total nat_cmp-IsAntisymmetric (localised_frame bare.parts machines) bare.frames pfn ∙ ap (option_map (localised_frame bare.parts machines pfn)) in_bare)

    is_marked : is_some (maps.get marks pfn) ≡ is_some (place_of g.parts pfn)
    is_marked = marked pfn (ap is_some in_outline)

    same_frame : frame_over (localised_of Pv machines bare).frames pfn x ≡ localised_frame (blank_of Pv g).parts machines pfn (blanked_frame g.parts pfn x)
    same_frame =
        ap (λ (o : Option (List ℕ)). record { type = x.type; page = o })
        (ap (λ k. page_over k x.page) kept_is
        ∙ (λ i. let y = cond (is_marked i) zeroed_frame (outlined pfn x) in page_over (localised_page (same_place pfn i) machines (level_of y.type) y.page) x.page)
        ∙ same_page machines (place_of g.parts pfn) x.type (outline_type x.type) x.page (same_level x.type)
        ∙ ap (λ o. localised_page o machines (level_of x.type) (blanked_page (place_of g.parts pfn) (level_of x.type) x.page)) (sym (same_place pfn)))

  same_frames : frames_over (localised_of Pv machines bare).frames g.frames ≡ each_value (localised_frame (blank_of Pv g).parts machines) (blank_of Pv g).frames
  same_frames =
      same_each nat_cmp_total nat_cmp-IsAntisymmetric (frame_over (localised_of Pv machines bare).frames) (λ pfn x. localised_frame (blank_of Pv g).parts machines pfn (blanked_frame g.parts pfn x)) g.frames same_frame
      ∙ sym (each_each nat_cmp_total nat_cmp-IsAntisymmetric (localised_frame (blank_of Pv g).parts machines) (blanked_frame g.parts) g.frames)

  same_guest : guest_over (localised_of Pv machines bare) g.frames ≡ localised_of Pv (mfn_in (blank_of Pv g).frames base) (blank_of Pv g)
  same_guest =
      ap (λ (m : FrameMap). record (localised_of Pv machines (blank_of Pv g)) { frames = m }) same_frames
      ∙ (λ i. localised_of Pv (λ pfn. same_machines pfn i) (blank_of Pv g))

pub stands_for : (g there : GuestOf) (base : ℕ) → g.kind ≡ Pv → IsInMachine base (outline g) there → guest_over there g.frames ≡ localised (mfn_in (blank g).frames base) (blank g)
stands_for g there base pv h =
    ap (λ (x : GuestOf). guest_over x g.frames)
    (h.is ∙ ap (λ k. let s = seated h.marks (blank_of k (outline g)) in localised (mfn_in s.frames base) s) pv ∙ ap (λ k. let s = seated h.marks (blank_of Pv (outline g)) in localised_of k (mfn_in s.frames base) s) pv)
    ∙ same_guest g base h.marks h.listed
    ∙ ap (λ k. localised_of k (mfn_in (blank_of Pv g).frames base) (blank_of Pv g)) (sym pv) ∙ ap (λ k. localised (mfn_in (blank_of k g).frames base) (blank_of k g)) (sym pv)
