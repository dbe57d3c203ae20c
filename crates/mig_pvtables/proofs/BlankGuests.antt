-- A guest whose tables, P2M frames, contexts and shared page are in their blank form is in its own.
use Rattle.mig_pvtables.proofs.Common.{◌≡◌, ℕ, true, false, cond, List, length, Option, Some, None, is_some, IsSome, IfSome, refl, sym, ap, subst, ◌∙◌, ◌==◌, option_map, nat_cmp_total, nat_cmp-IsAntisymmetric, eqb-true, ne_eqb, Pv, level_of, PartKey, IsFormed, width_of, FrameOf, GuestOf, part_cmp, shared_key, PartMap, blanked_table, part_total, part_exact, each_value, blanked_page, blanked_frame, blanked_part, blank_of, blank, only, with_zero_page, with_table_changed, where_listed, blanked_code, place_of, blanked_context, blanked_shared, SharedInfo, of_part, zero_page, sole}
use Rattle.mig_pvtables.proofs.EachValue.{each_each, same_each, stays_each}
use Rattle.mig_pvtables.proofs.Only.{then_only}
use Rattle.mig_pvtables.proofs.Searches.{overwritten}
use Rattle.std.specs.FinMap as maps

-- ---- frames

zeroed_anyway : (level : Option ℕ) (page : Option (List ℕ)) → option_map (λ _. zero_page) (blanked_page None level page) ≡ option_map (λ _. zero_page) page
zeroed_anyway None page = refl
zeroed_anyway (Some level) page = overwritten (blanked_table level) zero_page page

frame_blanked : (place : Option ℕ) (f : FrameOf) → cond (is_some place) (with_zero_page (with_table_changed blanked_table f)) (with_table_changed blanked_table f) ≡ record { type = f.type; page = blanked_page place (level_of f.type) f.page }
frame_blanked None f = refl
frame_blanked (Some k) f = ap (λ (o : Option (List ℕ)). record { type = f.type; page = o }) (zeroed_anyway (level_of f.type) f.page)

pub frames_blanked : (g : GuestOf) → each_value (where_listed g.parts with_zero_page) (each_value (λ _ f. with_table_changed blanked_table f) g.frames) ≡ each_value (blanked_frame g.parts) g.frames
frames_blanked g =
    each_each nat_cmp_total nat_cmp-IsAntisymmetric (where_listed g.parts with_zero_page) (λ _ f. with_table_changed blanked_table f) g.frames
    ∙ same_each nat_cmp_total nat_cmp-IsAntisymmetric (λ pfn f. where_listed g.parts with_zero_page pfn (with_table_changed blanked_table f)) (blanked_frame g.parts) g.frames (λ pfn f is. frame_blanked (place_of g.parts pfn) f)

-- ---- parts

-- no other part is a shared page
abbrev pub HasSolePage : PartMap → Type 0
HasSolePage parts = (key : PartKey) → IsSome (maps.get parts key) → key.code ≡ 7 → key ≡ shared_key

-- the shared page, where there is one, has 4096 bytes
abbrev pub HasLongPage : PartMap → Type 0
HasLongPage parts = IfSome (maps.get parts shared_key) (λ page. length page ≡ 4096)

module _ (parts : PartMap) where
  -- it is still as long once the contexts are blank
  pub page_still : HasLongPage parts → HasLongPage (each_value (blanked_code 4 (λ _. blanked_context)) parts)
  page_still long = subst (λ o. IfSome o (λ page. length page ≡ 4096)) (sym (stays_each part_total part_exact (blanked_code 4 (λ _. blanked_context)) shared_key (λ _. refl) parts)) long

  pub parts_blanked : HasSolePage parts → each_value (only part_cmp shared_key blanked_shared) (each_value (blanked_code 4 (λ _. blanked_context)) parts) ≡ each_value blanked_part parts
  parts_blanked sole_page = then_only part_total part_exact parts shared_key blanked_shared (blanked_code 4 (λ _. blanked_context)) blanked_part (λ x. refl)
      (λ q x is ne. ap (λ b. cond (q.code == 4) (blanked_context x) (cond b (blanked_shared x) x)) (sym (ne_eqb q.code 7 (λ seven. ne (sole_page q (ap is_some is) seven)))))

module _ (g : GuestOf) (formed : IsFormed g) where
  formed_page : HasLongPage g.parts
  formed_page = elim (maps.get g.parts shared_key) as (λ o. maps.get g.parts shared_key ≡ o → IfSome o (λ page. length page ≡ 4096)) [
    | None ↦ λ is. tt
    | Some page ↦ λ is. eqb-true (length page) 4096 (of_part SharedInfo g.kind (width_of g) (shared_key, page) (formed.parts shared_key page is) refl).len
  ] refl

  formed_sole : HasSolePage g.parts
  formed_sole key there code = elim (maps.get g.parts key) as (λ o. maps.get g.parts key ≡ o → IsSome o → key ≡ shared_key) [
    | None ↦ λ is has. let no : false ≡ true = has in cc
    | Some bytes ↦ λ is has. let one = of_part SharedInfo g.kind (width_of g) (key, bytes) (formed.parts key bytes is) code in sole SharedInfo (width_of g) (key, bytes) one one.keys
  ] refl there

  -- one step after another
  pub all_blanked : {a b c d : GuestOf} → g.kind ≡ Pv → a ≡ record g { frames = each_value (λ _ f. with_table_changed blanked_table f) g.frames } → b ≡ record a { frames = each_value (where_listed a.parts with_zero_page) a.frames }
      → c ≡ record b { parts = each_value (blanked_code 4 (λ _. blanked_context)) b.parts } → d ≡ record c { parts = each_value (only part_cmp shared_key blanked_shared) c.parts } → d ≡ blank g
  all_blanked kind one two three four =
      four ∙ ap (λ (s : GuestOf). record s { parts = each_value (only part_cmp shared_key blanked_shared) s.parts }) three
      ∙ ap (λ (s : GuestOf). record s { parts = each_value (only part_cmp shared_key blanked_shared) (each_value (blanked_code 4 (λ _. blanked_context)) s.parts) }) two
      ∙ ap (λ (s : GuestOf). record s { frames = each_value (where_listed s.parts with_zero_page) s.frames; parts = each_value (only part_cmp shared_key blanked_shared) (each_value (blanked_code 4 (λ _. blanked_context)) s.parts) }) one
      ∙ (λ i. record g { frames = frames_blanked g i; parts = parts_blanked g.parts formed_sole i }) ∙ ap (λ k. blank_of k g) (sym kind)

  -- what is there of the shared page on the way
  pub page_on_way : {a b c : GuestOf} → a ≡ record g { frames = each_value (λ _ f. with_table_changed blanked_table f) g.frames } → b ≡ record a { frames = each_value (where_listed a.parts with_zero_page) a.frames }
      → c ≡ record b { parts = each_value (blanked_code 4 (λ _. blanked_context)) b.parts } → HasLongPage c.parts
  page_on_way {c = c} one two three =
      let parts : c.parts ≡ each_value (blanked_code 4 (λ _. blanked_context)) g.parts =
      ap (λ (s : GuestOf). s.parts) three ∙ ap (λ (s : GuestOf). each_value (blanked_code 4 (λ _. blanked_context)) s.parts) two ∙ ap (λ (s : GuestOf). each_value (blanked_code 4 (λ _. blanked_context)) s.parts) one in
      subst HasLongPage (sym parts) (page_still g.parts formed_page)
