-- A whole, blank guest that is localised, and normalised again, is the guest.
use Rattle.mig_host_view.proofs.Common.{◌≡◌, ℕ, ◌<◌, Bool, true, false, cond, ◌==◌, List, length, Option, Some, None, IsSome, is_some, refl, sym, ap, ◌∙◌, nat_cmp_total, nat_cmp-IsAntisymmetric, eqb-true, eq-eqb, Pv, Hvm, level_of, PartKey, FrameOf, FrameMap, GuestOf, PartMap, IsPart, width_of, p2m_key, part_total, part_exact, each_value, blank, blank_of, blanked_page, blanked_frame, place_of, field_value, frame_of_field, is_used, blanked_context, blanked_shared, IsWhole, recursion_from_All, AreBytes, scan, Kind, HvmContext, of_part, place_in, GoesBack, is_used_somewhere, IsCompletePv, context_of_bytes, stays_each, to_each, each_each, same_each, each_same, pv_complete, TableGoesBack, renamed_page, renamed_frame, renamed_part, localised_page, localised_frame, localised_of, localised, cut_by, part_seen, normalised_of, normalised, renamed_context, blanked_part, table_of_bytes, fit_there, table_back}
use Rattle.mig_host_view.proofs.RenamedContexts.{ContextGoesBack, IsBlankContext, context_back, fields_go, blank_value}
use Rattle.std.specs.FinMap as maps

-- ---- pages

module _ (f back : ℕ → Option ℕ) where
  -- a page that is localised and renamed back has the blank form of the page
  page_back : (place level : Option ℕ) (page : Option (List ℕ))
      → ((l : ℕ) (p : List ℕ) → level ≡ Some l → page ≡ Some p → AreBytes p × (length p ≡ 4096) × TableGoesBack f back l p)
      → blanked_page place level (renamed_page back level (localised_page place f level page)) ≡ blanked_page place level page
  page_back (Some k) None None table = refl
  page_back (Some k) None (Some p) table = refl
  page_back (Some k) (Some l) None table = refl
  page_back (Some k) (Some l) (Some p) table = refl
  page_back None None page table = refl
  page_back None (Some l) None table = refl
  page_back None (Some l) (Some p) table = let (all, size, goes) = table l p refl refl in ap (λ (q : List ℕ). blanked_page None (Some l) (Some q)) (table_back f back l p all size goes)

-- ---- a blank guest: its tables and contexts are of bytes

module _ (g : GuestOf) (blanked : blank_of Pv g ≡ g) where
  blank_frame : (pfn : ℕ) (x : FrameOf) → maps.get g.frames pfn ≡ Some x → blanked_frame g.parts pfn x ≡ x
  blank_frame pfn x is =
      let same : Some (blanked_frame g.parts pfn x) ≡ Some x = sym (to_each nat_cmp_total nat_cmp-IsAntisymmetric (blanked_frame g.parts) g.frames pfn x is) ∙ ap (λ (y : GuestOf). maps.get y.frames pfn) blanked ∙ is in cc

  table_bytes : (pfn : ℕ) (x : FrameOf) → maps.get g.frames pfn ≡ Some x → (l : ℕ) (p : List ℕ) → level_of x.type ≡ Some l → x.page ≡ Some p → AreBytes p
  table_bytes pfn x is l p lev has =
      let place = place_of g.parts pfn in
      table_of_bytes place l p ((λ i. blanked_page place (sym lev i) (sym has i)) ∙ ap (λ (y : FrameOf). y.page) (blank_frame pfn x is) ∙ has)

  blank_part : (key : PartKey) (part : List ℕ) → maps.get g.parts key ≡ Some part → blanked_part key part ≡ part
  blank_part key part is =
      let same : Some (blanked_part key part) ≡ Some part = sym (to_each part_total part_exact blanked_part g.parts key part is) ∙ ap (λ (x : GuestOf). maps.get x.parts key) blanked ∙ is in cc

  same_context : (key : PartKey) (context : List ℕ) → maps.get g.parts key ≡ Some context → key.code ≡ 4 → blanked_context context ≡ context
  same_context key context is code = sym (ap (λ b. cond b (blanked_context context) (cond (key.code == 7) (blanked_shared context) context)) (eq-eqb key.code 4 code)) ∙ blank_part key context is

  pub context_bytes : (key : PartKey) (context : List ℕ) → maps.get g.parts key ≡ Some context → key.code ≡ 4 → AreBytes context
  context_bytes key context is code = context_of_bytes context (same_context key context is code)

  pub blank_context : (key : PartKey) (context : List ℕ) → maps.get g.parts key ≡ Some context → key.code ≡ 4 → IsBlankContext context
  blank_context key context is code = blank_value context (same_context key context is code)

-- ---- what the tables and contexts of a complete guest name is there

module _ (g : GuestOf) (whole : IsWhole g) (complete : IsCompletePv g) (blanked : blank_of Pv g ≡ g) (f back : ℕ → Option ℕ) (goes : (n : ℕ) → IsSome (maps.get g.frames n) → GoesBack f back n) where
  pub table_goes : (pfn : ℕ) (x : FrameOf) → maps.get g.frames pfn ≡ Some x → (l : ℕ) (p : List ℕ) → level_of x.type ≡ Some l → x.page ≡ Some p → AreBytes p × (length p ≡ 4096) × TableGoesBack f back l p
  table_goes pfn x is l p lev has = (
    table_bytes g blanked pfn x is l p lev has,
    (whole.formed.frames pfn x is).is.whole p has,
    λ slot n lt says. goes n (complete.targets pfn x is l p lev has slot lt n says),
  )

  pub context_goes : (key : PartKey) (context : List ℕ) → maps.get g.parts key ≡ Some context → key.code ≡ 4 → ContextGoesBack f back key.key1 context
  context_goes key context is code =
      fields_go f back key.key1 context (λ field most used.
      let (x, there) = fit_there g.frames field (frame_of_field field (field_value context field)) (complete.fields key context is code field most used) in goes (frame_of_field field (field_value context field)) (ap is_some there))

-- ---- a PV guest

module _ (g : GuestOf) (whole : IsWhole g) (complete : IsCompletePv g) (blanked : blank_of Pv g ≡ g) (f back : ℕ → Option ℕ) (goes : (n : ℕ) → IsSome (maps.get g.frames n) → GoesBack f back n) where
  -- by whether the part is a context
  part_case : (b : Bool) (key : PartKey) (part : List ℕ) → (b ≡ true → blanked_context (renamed_context is_used_somewhere back key.key1 (renamed_context is_used f key.key1 part)) ≡ blanked_context part)
      → cond b (blanked_context (cond b (renamed_context is_used_somewhere back key.key1 (cond b (renamed_context is_used f key.key1 part) part)) (cond b (renamed_context is_used f key.key1 part) part)))
      (cond (key.code == 7) (blanked_shared (cond b (renamed_context is_used_somewhere back key.key1 (cond b (renamed_context is_used f key.key1 part) part)) (cond b (renamed_context is_used f key.key1 part) part)))
      (cond b (renamed_context is_used_somewhere back key.key1 (cond b (renamed_context is_used f key.key1 part) part)) (cond b (renamed_context is_used f key.key1 part) part)))
      ≡ cond b (blanked_context part) (cond (key.code == 7) (blanked_shared part) part)
  part_case true key part same = same refl
  part_case false key part same = refl

  part_back : (key : PartKey) (part : List ℕ) → maps.get g.parts key ≡ Some part → blanked_part key (renamed_part is_used_somewhere back key (renamed_part is_used f key part)) ≡ blanked_part key part
  part_back key part is = part_case (key.code == 4) key part (λ e.
      let code = eqb-true key.code 4 e in
      context_back f back key.key1 part (recursion_from_All (λ b. b < 256) part (context_bytes g blanked key part is code)) (context_goes g whole complete blanked f back goes key part is code) (blank_context g blanked key part is code))

  abbrev parts_there : PartMap
  parts_there = each_value (renamed_part is_used_somewhere back) (each_value (renamed_part is_used f) g.parts)

  parts_back : each_value blanked_part parts_there ≡ each_value blanked_part g.parts
  parts_back =
      ap (each_value blanked_part) (each_each part_total part_exact (renamed_part is_used_somewhere back) (renamed_part is_used f) g.parts)
      ∙ each_each part_total part_exact blanked_part (λ k x. renamed_part is_used_somewhere back k (renamed_part is_used f k x)) g.parts
      ∙ same_each part_total part_exact (λ k x. blanked_part k (renamed_part is_used_somewhere back k (renamed_part is_used f k x))) blanked_part g.parts part_back

  -- the list of P2M frames is as it was
  same_list : maps.get parts_there p2m_key ≡ maps.get g.parts p2m_key
  same_list = stays_each part_total part_exact (renamed_part is_used_somewhere back) p2m_key (λ _. refl) (each_value (renamed_part is_used f) g.parts) ∙ stays_each part_total part_exact (renamed_part is_used f) p2m_key (λ _. refl) g.parts

  frame_back : (pfn : ℕ) (x : FrameOf) → maps.get g.frames pfn ≡ Some x → blanked_frame parts_there pfn (renamed_frame back (localised_frame g.parts f pfn x)) ≡ blanked_frame g.parts pfn x
  frame_back pfn x is =
      ap (λ (o : Option (List ℕ)). record { type = x.type; page = blanked_page (place_in o pfn) (level_of x.type) (renamed_page back (level_of x.type) (localised_page (place_of g.parts pfn) f (level_of x.type) x.page)) }) same_list
      ∙ ap (λ (p : Option (List ℕ)). record { type = x.type; page = p }) (page_back f back (place_of g.parts pfn) (level_of x.type) x.page (table_goes g whole complete blanked f back goes pfn x is))

  frames_back : each_value (blanked_frame parts_there) (each_value (λ pfn x. renamed_frame back x) (each_value (localised_frame g.parts f) g.frames)) ≡ each_value (blanked_frame g.parts) g.frames
  frames_back =
      ap (each_value (blanked_frame parts_there)) (each_each nat_cmp_total nat_cmp-IsAntisymmetric (λ pfn x. renamed_frame back x) (localised_frame g.parts f) g.frames)
      ∙ each_each nat_cmp_total nat_cmp-IsAntisymmetric (blanked_frame parts_there) (λ pfn x. renamed_frame back (localised_frame g.parts f pfn x)) g.frames
      ∙ same_each nat_cmp_total nat_cmp-IsAntisymmetric (λ pfn x. blanked_frame parts_there pfn (renamed_frame back (localised_frame g.parts f pfn x))) (blanked_frame g.parts) g.frames frame_back

  pv_back : normalised_of Pv back (localised_of Pv f g) ≡ g
  pv_back =
      ap (λ (m : FrameMap). record g { frames = m; parts = each_value blanked_part parts_there }) frames_back
      ∙ ap (λ (m : PartMap). record g { frames = each_value (blanked_frame g.parts) g.frames; parts = m }) parts_back
      ∙ blanked

-- ---- an HVM guest, of which the context is cut already

pub part_stays : (kind : Kind) (width : ℕ) (key : PartKey) (part : List ℕ) → IsPart kind width key part → part_seen key part ≡ part
part_stays kind width key part is = by_code (key.code == 9) refl
  where
    by_code : (b : Bool) → (key.code == 9) ≡ b → cond b (cut_by (scan part) part) part ≡ part
    by_code true same = let (end, scanned, cut) = (of_part HvmContext kind width (key, part) is (eqb-true key.code 9 same)).content in ap (λ r. cut_by r part) scanned ∙ cut
    by_code false same = refl

pub parts_stay : (g : GuestOf) → IsWhole g → each_value part_seen g.parts ≡ g.parts
parts_stay g whole = each_same part_total part_exact part_seen g.parts (λ key part is. part_stays g.kind (width_of g) key part (whole.formed.parts key part is))

-- ---- either kind

module _ (g : GuestOf) (whole : IsWhole g) (blanked : blank g ≡ g) (f back : ℕ → Option ℕ) (goes : (n : ℕ) → IsSome (maps.get g.frames n) → GoesBack f back n) where
  kind_case : (k : Kind) → g.kind ≡ k → normalised_of k back (localised_of k f g) ≡ g
  kind_case Pv is = pv_back g whole (pv_complete g is whole.faultless) (sym (ap (λ k. blank_of k g) is) ∙ blanked) f back goes
  kind_case Hvm is = ap (λ (m : PartMap). record g { parts = m }) (parts_stay g whole)

  same_kind : (k : Kind) → (localised_of k f g).kind ≡ g.kind
  same_kind Pv = refl
  same_kind Hvm = refl

  pub guest_back : normalised back (localised f g) ≡ g
  guest_back = ap (λ k. normalised_of k back (localised f g)) (same_kind g.kind) ∙ kind_case g.kind refl
