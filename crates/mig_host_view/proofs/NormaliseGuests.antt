-- A guest whose tables and contexts hold PFNs, in blank form, is the form in a stream of the guest that stood in a machine.
use Rattle.mig_host_view.proofs.Common.{◌≡◌, ℕ, List, length, Option, Some, None, IfSome, refl, sym, ap, subst, ◌∙◌, nat_cmp_total, nat_cmp-IsAntisymmetric, Pv, PartKey, shared_key, p2m_key, FrameOf, FrameMap, GuestOf, PartMap, part_total, part_exact, length_longs, each_value, blanked_frame, only, blanked_context, blanked_shared, level_of, blanked_page, Kind, place_in, is_used_somewhere, some_each, each_each, stays_each, renamed_table, renamed_page, renamed_frame, renamed_part, normalised_of, normalised, blanked_table, table_changed, with_zero_page, with_table_changed, where_listed, blanked_code}
use Rattle.mig_guest.specs.Order.{part_cmp}
use Rattle.mig_pvtables.proofs.BlankGuests.{HasSolePage, HasLongPage, page_still, frames_blanked, parts_blanked}
use Rattle.mig_host_view.proofs.LocalisedGuests.{from_context}
use Rattle.std.specs.FinMap as maps

-- each context has 5168 bytes
abbrev HasLongContexts : PartMap → Type 0
HasLongContexts parts = (key : PartKey) (context : List ℕ) → maps.get parts key ≡ Some context → key.code ≡ 4 → length context ≡ 5168

module _ (f : ℕ → Option ℕ) (parts : PartMap) where
  abbrev turned : PartMap
  turned = each_value (renamed_part is_used_somewhere f) parts

  -- parts that are no contexts stay
  same_list : maps.get turned p2m_key ≡ maps.get parts p2m_key
  same_list = stays_each part_total part_exact (renamed_part is_used_somewhere f) p2m_key (λ _. refl) parts

  page_turned : HasLongPage parts → HasLongPage turned
  page_turned long = subst (λ o. IfSome o (λ page. length page ≡ 4096)) (sym (stays_each part_total part_exact (renamed_part is_used_somewhere f) shared_key (λ _. refl) parts)) long

  sole_turned : HasSolePage parts → HasSolePage turned
  sole_turned sole key there code = sole key (sym (some_each part_total part_exact (renamed_part is_used_somewhere f) parts key) ∙ there) code

  contexts_turned : HasLongContexts turned
  contexts_turned key context is code = let (first, found, same) = from_context is_used_somewhere f parts key context is code in ap length (sym same) ∙ length_longs 646 _

module _ (f : ℕ → Option ℕ) (g : GuestOf) where
  abbrev names_back : FrameMap
  names_back = each_value (λ pfn x. renamed_frame f x) g.frames

  -- a table that is blanked once PFNs stand in it
  abbrev table_back : ℕ → List ℕ → List ℕ
  table_back level page = blanked_table level (renamed_table f level page)

  both_changes : (level : Option ℕ) (page : Option (List ℕ)) → table_changed table_back level page ≡ table_changed blanked_table level (renamed_page f level page)
  both_changes None page = refl
  both_changes (Some level) None = refl
  both_changes (Some level) (Some page) = refl

  -- P2M frames are zeroed after the tables are blank, or all at once
  frames_turned : each_value (where_listed g.parts with_zero_page) (each_value (λ _ x. with_table_changed table_back x) g.frames) ≡ each_value (blanked_frame (turned f g.parts)) names_back
  frames_turned =
      ap (each_value (where_listed g.parts with_zero_page))
      ((λ i. each_value (λ _ (x : FrameOf). record { type = x.type; page = both_changes (level_of x.type) x.page i }) g.frames) ∙ sym (each_each nat_cmp_total nat_cmp-IsAntisymmetric (λ _ x. with_table_changed blanked_table x) (λ pfn x. renamed_frame f x) g.frames))
      ∙ frames_blanked (record g { frames = names_back })
      ∙ ap (λ (o : Option (List ℕ)). each_value (λ pfn (x : FrameOf). record { type = x.type; page = blanked_page (place_in o pfn) (level_of x.type) x.page }) names_back) (sym (same_list f g.parts))

  module _ {a b c : GuestOf} (one : a ≡ record g { frames = each_value (λ _ x. with_table_changed table_back x) g.frames }) (two : b ≡ record a { frames = each_value (where_listed a.parts with_zero_page) a.frames })
      (three : c ≡ record b { parts = each_value (renamed_part is_used_somewhere f) b.parts }) where
    same_parts : b.parts ≡ g.parts
    same_parts = ap (λ (s : GuestOf). s.parts) two ∙ ap (λ (s : GuestOf). s.parts) one

    turned_parts : c.parts ≡ turned f g.parts
    turned_parts = ap (λ (s : GuestOf). s.parts) three ∙ ap (each_value (renamed_part is_used_somewhere f)) same_parts

    pub contexts_long : HasLongContexts c.parts
    contexts_long = subst HasLongContexts (sym turned_parts) (contexts_turned f g.parts)

    module _ {d : GuestOf} (four : d ≡ record c { parts = each_value (blanked_code 4 (λ _. blanked_context)) c.parts }) where
      blank_parts : d.parts ≡ each_value (blanked_code 4 (λ _. blanked_context)) (turned f g.parts)
      blank_parts = ap (λ (s : GuestOf). s.parts) four ∙ ap (each_value (blanked_code 4 (λ _. blanked_context))) turned_parts

      pub page_long : HasLongPage g.parts → HasLongPage d.parts
      page_long long = subst HasLongPage (sym blank_parts) (page_still (turned f g.parts) (page_turned f g.parts long))

      pub all_normalised : HasSolePage g.parts → g.kind ≡ Pv → {e : GuestOf} → e ≡ record d { parts = each_value (only part_cmp shared_key blanked_shared) d.parts } → e ≡ normalised f g
      all_normalised sole pv five =
          five ∙ ap (λ (s : GuestOf). record s { parts = each_value (only part_cmp shared_key blanked_shared) s.parts }) four
          ∙ ap (λ (s : GuestOf). record s { parts = blank_all s.parts }) three
          ∙ ap (λ (s : GuestOf). record s { parts = blank_all (turned f s.parts) }) two
          ∙ ap (λ (s : GuestOf). record s { frames = each_value (where_listed s.parts with_zero_page) s.frames; parts = blank_all (turned f s.parts) }) one
          ∙ (λ i. record g { frames = frames_turned i; parts = parts_blanked (turned f g.parts) (sole_turned f g.parts sole) i })
          ∙ ap (λ (k : Kind). normalised_of k f g) (sym pv)
        where
          blank_all : PartMap → PartMap
          blank_all parts = each_value (only part_cmp shared_key blanked_shared) (each_value (blanked_code 4 (λ _. blanked_context)) parts)
