-- The outline of a guest, with places that read as its frames, stands for it.
use Rattle.mig_walk.proofs.Common.{◌≡◌, ℕ, List, Option, Some, None, refl, sym, ap, ◌∙◌, option_and_then, option_map, nat_cmp_total, nat_cmp-IsAntisymmetric, Kind, Pv, Hvm, level_of, PageType, FrameOf, FrameMap, GuestOf, type_at, get_each, said_in, says_in, said_of, itself_in, blank, blank_of}
use Rattle.mig_outline.specs.Outline.{outline, outline_frame, outline_page, outline_type}
use Rattle.mig_pagestore.proofs.Mapping.{get-mapped}
use Rattle.mig_pagestore.specs.FrameView.{cell_type}
use Rattle.mig_pagestore_index.specs.Indexed.{ValueMap}
use Rattle.mig_pagetypes.specs.declared.page_type.PageType.TheVariants.{L1Pinned, L1Tab, L2Pinned, L2Tab, L3Pinned, L3Tab, L4Pinned, L4Tab, Notab, Broken, Xalloc, Xtab}
use Rattle.mig_placed.specs.InFile.{frame_in_file, frames_in_file}
use Rattle.mig_pvtables.specs.Blank.{blanked_frame, blanked_page}
use Rattle.mig_pvtables.specs.P2mFrames.{place_of}
use Rattle.mig_pvtables.specs.VcpuContexts.{is_used}
use Rattle.mig_walk.specs.Outlined.{type_of_cell, page_outlined, StandForGuest}
use Rattle.std.specs.FinMap as maps

-- an outline leaves each table its level
same_level : (t : PageType) → level_of (outline_type t) ≡ level_of t
same_level Notab = refl
same_level L1Tab = refl
same_level L2Tab = refl
same_level L3Tab = refl
same_level L4Tab = refl
same_level L1Pinned = refl
same_level L2Pinned = refl
same_level L3Pinned = refl
same_level L4Pinned = refl
same_level Broken = refl
same_level Xalloc = refl
same_level Xtab = refl

-- a map of frames is that of the cells, each page changed, and another map has the changed pages of tables
module _ (file : Option (List ℕ)) (cells : ValueMap) (changed : ℕ → FrameOf → Option (List ℕ)) (kept frames : FrameMap)
    (read : (pfn : ℕ) → maps.get frames pfn ≡ option_map (λ (x : FrameOf). record { type = x.type; page = changed pfn x }) (option_map (frame_in_file file) (maps.get cells pfn)))
    (tables : (pfn c l : ℕ) → maps.get cells pfn ≡ Some c → level_of (cell_type c) ≡ Some l → page_outlined kept pfn ≡ changed pfn (frame_in_file file c)) where
  abbrev anew : ℕ → FrameOf → FrameOf
  anew pfn x = record { type = x.type; page = changed pfn x }

  names_by : (n : ℕ) (o : Option ℕ) → option_map (λ _. n) (option_map cell_type o) ≡ option_map (λ _. n) (option_map (anew n) (option_map (frame_in_file file) o))
  names_by n None = refl
  names_by n (Some c) = refl

  names_same : (n : ℕ) → option_map (λ _. n) (type_of_cell cells n) ≡ itself_in frames n
  names_same n = names_by n (maps.get cells n) ∙ ap (option_map (λ _. n)) (sym (read n))

  types_by : (pfn : ℕ) (o : Option ℕ) → option_map cell_type o ≡ option_map (λ (f : FrameOf). f.type) (option_map (anew pfn) (option_map (frame_in_file file) o))
  types_by pfn None = refl
  types_by pfn (Some c) = refl

  types_same : (pfn : ℕ) → type_of_cell cells pfn ≡ type_at frames pfn
  types_same pfn = types_by pfn (maps.get cells pfn) ∙ ap (option_map (λ (f : FrameOf). f.type)) (sym (read pfn))

  level_says : (pfn slot : ℕ) (level : Option ℕ) (page : Option (List ℕ)) → ((l : ℕ) → level ≡ Some l → page_outlined kept pfn ≡ page) → said_in level (page_outlined kept pfn) slot ≡ said_in level page slot
  level_says pfn slot None page same = refl
  level_says pfn slot (Some l) page same = ap (λ p. said_in (Some l) p slot) (same l refl)

  says_by : (pfn slot : ℕ) (o : Option ℕ) → maps.get cells pfn ≡ o
      → said_in (option_and_then level_of (option_map cell_type o)) (page_outlined kept pfn) slot ≡ said_of (option_map (anew pfn) (option_map (frame_in_file file) o)) slot
  says_by pfn slot None is = refl
  says_by pfn slot (Some c) is = level_says pfn slot (level_of (cell_type c)) (changed pfn (frame_in_file file c)) (λ l level. tables pfn c l is level)

  says_same : (pfn slot : ℕ) → said_in (option_and_then level_of (type_of_cell cells pfn)) (page_outlined kept pfn) slot ≡ says_in frames pfn slot
  says_same pfn slot = says_by pfn slot (maps.get cells pfn) refl ∙ ap (λ o. said_of o slot) (sym (read pfn))

-- where the maps are those of an outline and of a guest
alike : (file : Option (List ℕ)) (cells : ValueMap) (changed : ℕ → FrameOf → Option (List ℕ)) (o g : GuestOf) → o.kind ≡ g.kind → o.parts ≡ g.parts
    → ((pfn : ℕ) → maps.get g.frames pfn ≡ option_map (λ (x : FrameOf). record { type = x.type; page = changed pfn x }) (option_map (frame_in_file file) (maps.get cells pfn)))
    → ((pfn c l : ℕ) → maps.get cells pfn ≡ Some c → level_of (cell_type c) ≡ Some l → page_outlined o.frames pfn ≡ changed pfn (frame_in_file file c)) → StandForGuest o cells g
alike file cells changed o g kind parts read tables = λ i. record {
  kind = kind i;
  names = λ n. names_same file cells changed o.frames g.frames read tables n i;
  used = is_used;
  types = λ pfn. types_same file cells changed o.frames g.frames read tables pfn i;
  says = λ pfn slot. says_same file cells changed o.frames g.frames read tables pfn slot i;
  parts = parts i;
}

module _ (g : GuestOf) (file : Option (List ℕ)) (cells : ValueMap) (is : frames_in_file file cells ≡ g.frames) where
  sent_there : (pfn : ℕ) → maps.get g.frames pfn ≡ option_map (frame_in_file file) (maps.get cells pfn)
  sent_there pfn = ap (λ (m : FrameMap). maps.get m pfn) (sym is) ∙ get-mapped (frame_in_file file) cells pfn

  outlined_there : (pfn c : ℕ) → maps.get cells pfn ≡ Some c → maps.get (outline g).frames pfn ≡ Some (outline_frame (frame_in_file file c))
  outlined_there pfn c there =
      get_each nat_cmp_total nat_cmp-IsAntisymmetric (λ _ f. outline_frame f) g.frames pfn ∙ ap (option_map outline_frame) (sent_there pfn ∙ ap (option_map (frame_in_file file)) there)

  -- an HVM guest
  itself_by : (o : Option FrameOf) → o ≡ option_map (λ (x : FrameOf). record { type = x.type; page = x.page }) o
  itself_by None = refl
  itself_by (Some x) = refl

  kept_page_of : (level : Option ℕ) (l : ℕ) (page : Option (List ℕ)) → level ≡ Some l → outline_page level page ≡ page
  kept_page_of (Some l) k page table = refl
  kept_page_of None k page table = cc

  hvm_stands : StandForGuest (outline g) cells g
  hvm_stands = alike file cells (λ _ x. x.page) (outline g) g refl refl
      (λ pfn. sent_there pfn ∙ itself_by (option_map (frame_in_file file) (maps.get cells pfn)))
      (λ pfn c l there table. ap (option_and_then (λ (f : FrameOf). f.page)) (outlined_there pfn c there) ∙ kept_page_of (level_of (cell_type c)) l (frame_in_file file c).page table)

  -- a PV guest
  pv_page_of : (place level : Option ℕ) (l : ℕ) (page : Option (List ℕ)) → level ≡ Some l → blanked_page place level (outline_page level page) ≡ blanked_page place level page
  pv_page_of place level l page table = ap (blanked_page place level) (kept_page_of level l page table)

  pv_stands : StandForGuest (blank_of Pv (outline g)) cells (blank_of Pv g)
  pv_stands = alike file cells (λ pfn x. blanked_page (place_of g.parts pfn) (level_of x.type) x.page) (blank_of Pv (outline g)) (blank_of Pv g) refl refl
      (λ pfn. get_each nat_cmp_total nat_cmp-IsAntisymmetric (blanked_frame g.parts) g.frames pfn ∙ ap (option_map (blanked_frame g.parts pfn)) (sent_there pfn))
      (λ pfn c l there table. ap (option_and_then (λ (f : FrameOf). f.page))
      (get_each nat_cmp_total nat_cmp-IsAntisymmetric (blanked_frame g.parts) (outline g).frames pfn ∙ ap (option_map (blanked_frame g.parts pfn)) (outlined_there pfn c there))
      ∙ ap (λ k. blanked_page (place_of g.parts pfn) k (outline_page (level_of (cell_type c)) (frame_in_file file c).page)) (same_level (cell_type c))
      ∙ pv_page_of (place_of g.parts pfn) (level_of (cell_type c)) l (frame_in_file file c).page table)

  by_kind : (k : Kind) → StandForGuest (blank_of k (outline g)) cells (blank_of k g)
  by_kind Hvm = hvm_stands
  by_kind Pv = pv_stands

  pub stands_for_guest : StandForGuest (blank (outline g)) cells (blank g)
  stands_for_guest = by_kind g.kind
