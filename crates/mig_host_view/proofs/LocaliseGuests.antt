-- A guest whose tables, P2M frames and contexts hold machine frames is the guest as it stands in a machine.
use Rattle.mig_host_view.proofs.Common.{◌≡◌, ℕ, ◌+◌, ◌-◌, ◌*◌, ◌/◌, ◌<◌, ◌≤◌, ◌^◌, List, length, Option, Some, None, refl, sym, ap, subst, ◌∙◌, arith, option_map, nat_cmp_total, nat_cmp-IsAntisymmetric, eqb-true, Pv, top_limit, level_of, PartKey, IsFormed, width_of, FrameOf, GuestOf, PartMap, p2m_key, each_value, count_in, place_of, is_used, IsTop, P2mFrames, VcpuBasic, of_part, Kind, p2m_page, renamed_table, each_each, same_each, overwritten, renamed_page, renamed_frame, renamed_part, localised_page, localised_frame, localised_of, localised, written_at, written_where_listed}
pub use Rattle.mig_pvtables.proofs.BlankParts.{part_put}
use Rattle.std.specs.FinMap as maps

-- ---- frames

module _ (f : ℕ → Option ℕ) where
  filled_anyway : (k : ℕ) (level : Option ℕ) (page : Option (List ℕ)) → option_map (λ _. p2m_page f k) (renamed_page f level page) ≡ option_map (λ _. p2m_page f k) page
  filled_anyway k None page = refl
  filled_anyway k (Some level) page = overwritten (renamed_table f level) (p2m_page f k) page

  frame_there : (place : Option ℕ) (x : FrameOf) → written_at (p2m_page f) place (renamed_frame f x) ≡ record { type = x.type; page = localised_page place f (level_of x.type) x.page }
  frame_there None x = refl
  frame_there (Some k) x = ap (λ (o : Option (List ℕ)). record { type = x.type; page = o }) (filled_anyway k (level_of x.type) x.page)

  frames_there : (g : GuestOf) → each_value (written_where_listed g.parts (p2m_page f)) (each_value (λ _ x. renamed_frame f x) g.frames) ≡ each_value (localised_frame g.parts f) g.frames
  frames_there g =
      each_each nat_cmp_total nat_cmp-IsAntisymmetric (written_where_listed g.parts (p2m_page f)) (λ _ x. renamed_frame f x) g.frames
      ∙ same_each nat_cmp_total nat_cmp-IsAntisymmetric (λ pfn x. written_where_listed g.parts (p2m_page f) pfn (renamed_frame f x)) (localised_frame g.parts f) g.frames (λ pfn x is. frame_there (place_of g.parts pfn) x)

-- ---- a guest

module _ (f : ℕ → Option ℕ) (g : GuestOf) (formed : IsFormed g) (pv : g.kind ≡ Pv) {a : GuestOf} (one : a ≡ record g { frames = each_value (λ _ x. renamed_frame f x) g.frames }) where
  few_in : (o : Option (List ℕ)) → maps.get g.parts p2m_key ≡ o → count_in o ≤ 2 ^ 43
  few_in None is = omega arith
  few_in (Some bytes) is =
      let top : g.top < top_limit = subst (λ (k : Kind). IsTop k g.top) pv formed.top in
      let size : length bytes ≡ 8 * ((width_of g - 1) / 512 + 1) = eqb-true (length bytes) (8 * ((width_of g - 1) / 512 + 1)) (of_part P2mFrames g.kind (width_of g) (p2m_key, bytes) (formed.parts p2m_key bytes is) refl).len in
      omega (arith, top, size)

  pub few_listed : count_in (maps.get a.parts p2m_key) ≤ 2 ^ 43
  few_listed = subst (λ (s : GuestOf). count_in (maps.get s.parts p2m_key) ≤ 2 ^ 43) (sym one) (few_in (maps.get g.parts p2m_key) refl)

  module _ {b : GuestOf} (two : b ≡ record a { frames = each_value (written_where_listed a.parts (p2m_page f)) a.frames }) where
    same_parts : b.parts ≡ g.parts
    same_parts = ap (λ (s : GuestOf). s.parts) two ∙ ap (λ (s : GuestOf). s.parts) one

    pub contexts_long : (key : PartKey) (context : List ℕ) → maps.get b.parts key ≡ Some context → key.code ≡ 4 → length context ≡ 5168
    contexts_long key context is code =
        let found : maps.get g.parts key ≡ Some context = ap (λ (m : PartMap). maps.get m key) (sym same_parts) ∙ is in
        eqb-true (length context) 5168 (of_part VcpuBasic g.kind (width_of g) (key, context) (formed.parts key context found) code).len

    pub all_localised : {c : GuestOf} → c ≡ record b { parts = each_value (renamed_part is_used f) b.parts } → c ≡ localised f g
    all_localised three =
        three ∙ ap (λ (s : GuestOf). record s { parts = each_value (renamed_part is_used f) s.parts }) two
        ∙ ap (λ (s : GuestOf). record s { frames = each_value (written_where_listed s.parts (p2m_page f)) s.frames; parts = each_value (renamed_part is_used f) s.parts }) one
        ∙ ap (λ m. record g { frames = m; parts = each_value (renamed_part is_used f) g.parts }) (frames_there f g)
        ∙ ap (λ (k : Kind). localised_of k f g) (sym pv)
