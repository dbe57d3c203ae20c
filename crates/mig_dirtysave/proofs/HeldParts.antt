-- The parts that a guest holds of a host, brought to those of the guest that the host is seen as.
use Rattle.mig_dirtysave.proofs.Common.{◌≡◌, ℕ, List, length, Bool, true, false, cond, Option, Some, None, refl, sym, ap, subst, ◌∙◌, ◌==◌, IsSome, IfSome, is_some, option_map, and_parts, eqb-true, Kind, Pv, PartKey, GuestOf, HostOf, IsValid, pfn_in, part_cmp, row_of, PartMap, length_longs, part_exact, part_total, one_code, each_value, blanked_part, only, is_used_somewhere, get_each, stays_each, normalised_of, guest_in, view, with_view, SharedInfo, shared_key, blanked_code, blanked_context, blanked_shared, some_each, renamed_part, HoldsOf, with_names}
use Rattle.mig_pvtables.proofs.BlankGuests.{HasSolePage, HasLongPage, page_still, parts_blanked}
use Rattle.mig_host_view.proofs.LocalisedGuests.{from_context}
use Rattle.std.specs.FinMap as maps

-- ---- a host's shared page

module _ (h : HostOf) (valid : IsValid h) (key : PartKey) (bytes : List ℕ) (there : maps.get h.parts key ≡ Some bytes) (shared : key.code ≡ 7) where
  page_len : length bytes ≡ 4096
  page_len =
      let part = valid.parts key bytes there in
      eqb-true (length bytes) 4096 (subst (λ c. (row_of c).allows h.width (length bytes) ≡ true) (one_code part.code SharedInfo (sym part.number ∙ shared)) part.len)

  page_key : key ≡ shared_key
  page_key =
      let part = valid.parts key bytes there in
      let (a, b) = and_parts (key.key1 == 0) (key.key2 == 0) (subst (λ c. (row_of c).keys key.key1 key.key2 ≡ true) (one_code part.code SharedInfo (sym part.number ∙ shared)) part.keys) in
      let key1 : key.key1 ≡ 0 = eqb-true key.key1 0 a in
      let key2 : key.key2 ≡ 0 = eqb-true key.key2 0 b in
      λ i. record { code = shared i; key1 = key1 i; key2 = key2 i }

-- ---- what the guest holds

module _ (h : HostOf) (valid : IsValid h) (g : GuestOf) (holds : HoldsOf h g) where
  abbrev f : ℕ → Option ℕ
  f = pfn_in h.frames

  abbrev turned : PartMap
  turned = each_value (renamed_part is_used_somewhere f) g.parts

  has_page : HasLongPage g.parts
  has_page = elim (maps.get g.parts shared_key) as (λ o. maps.get g.parts shared_key ≡ o → IfSome o (λ page. length page ≡ 4096)) [
    | None ↦ λ is. tt
    | Some page ↦ λ is. page_len h valid shared_key page (holds.same shared_key page is) refl
  ] refl

  sole_page : HasSolePage turned
  sole_page key there code = elim (maps.get g.parts key) as (λ o. maps.get g.parts key ≡ o → IsSome o → key ≡ shared_key) [
    | None ↦ λ is some. let no : false ≡ true = some in cc
    | Some bytes ↦ λ is some. page_key h valid key bytes (holds.same key bytes is) code
  ] refl (sym (some_each part_total part_exact (renamed_part is_used_somewhere f) g.parts key) ∙ there)

  page_turned : HasLongPage turned
  page_turned = subst (λ o. IfSome o (λ page. length page ≡ 4096)) (sym (stays_each part_total part_exact (renamed_part is_used_somewhere f) shared_key (λ _. refl) g.parts)) has_page

  viewed : h.kind ≡ Pv → (view h).parts ≡ each_value blanked_part (each_value (renamed_part is_used_somewhere f) h.parts)
  viewed pv = ap (λ (k : Kind). (normalised_of k f (guest_in h)).parts) pv

  -- what is kept of the view's parts is the guest's, renamed and blank
  kept_parts : h.kind ≡ Pv → each_value blanked_part turned ≡ maps.retain_keys (view h).parts (λ key. is_some (maps.get g.parts key))
  kept_parts pv = maps.same_map part_total part_exact _ _ (λ q.
      both g.parts q ∙ by_case q (maps.get g.parts q) refl
      ∙ ap (λ o. cond (is_some (maps.get g.parts q)) o None) (sym (both h.parts q) ∙ ap (λ m. maps.get m q) (sym (viewed pv)))
      ∙ sym (maps.get-retain_keys (view h).parts (λ key. is_some (maps.get g.parts key)) q (λ x e. ap (λ key. is_some (maps.get g.parts key)) (sym (part_exact q x e)))))
    where
      both : (parts : PartMap) (q : PartKey) → maps.get (each_value blanked_part (each_value (renamed_part is_used_somewhere f) parts)) q ≡ option_map (blanked_part q) (option_map (renamed_part is_used_somewhere f q) (maps.get parts q))
      both parts q =
          get_each part_total part_exact blanked_part (each_value (renamed_part is_used_somewhere f) parts) q
          ∙ ap (option_map (blanked_part q)) (get_each part_total part_exact (renamed_part is_used_somewhere f) parts q)

      by_case : (q : PartKey) (o : Option (List ℕ)) → maps.get g.parts q ≡ o
          → option_map (blanked_part q) (option_map (renamed_part is_used_somewhere f q) o) ≡ cond (is_some o) (option_map (blanked_part q) (option_map (renamed_part is_used_somewhere f q) (maps.get h.parts q))) None
      by_case q None is = refl
      by_case q (Some x) is = ap (λ o. option_map (blanked_part q) (option_map (renamed_part is_used_somewhere f q) o)) (sym (holds.same q x is))

  -- ---- step by step

  module _ {a : GuestOf} (one : a ≡ with_names h g) where
    pub contexts_there : (key : PartKey) (context : List ℕ) → maps.get a.parts key ≡ Some context → key.code ≡ 4 → length context ≡ 5168
    contexts_there key context is code =
        let (first, found, same) = from_context is_used_somewhere f g.parts key context (ap (λ (s : GuestOf). maps.get s.parts key) (sym one) ∙ is) code in ap length (sym same) ∙ length_longs 646 _

    module _ {b : GuestOf} (two : b ≡ record a { parts = each_value (blanked_code 4 (λ _. blanked_context)) a.parts }) where
      pub page_there : HasLongPage b.parts
      page_there =
          subst HasLongPage (sym (ap (λ (s : GuestOf). s.parts) two ∙ ap (λ (s : GuestOf). each_value (blanked_code 4 (λ _. blanked_context)) s.parts) one)) (page_still turned page_turned)

      pub all_seen : h.kind ≡ Pv → {c : GuestOf} → c ≡ record b { parts = each_value (only part_cmp shared_key blanked_shared) b.parts } → c ≡ with_view h g
      all_seen pv three =
          three ∙ ap (λ (s : GuestOf). record s { parts = each_value (only part_cmp shared_key blanked_shared) s.parts }) two
          ∙ ap (λ (s : GuestOf). record s { parts = each_value (only part_cmp shared_key blanked_shared) (each_value (blanked_code 4 (λ _. blanked_context)) s.parts) }) one
          ∙ ap (λ m. record g { parts = m }) (parts_blanked turned sole_page ∙ kept_parts pv)

-- ---- parts of some codes

module _ (h : HostOf) (g : GuestOf) (codes : ℕ → Bool) (kept : g.parts ≡ maps.retain_keys h.parts (λ key. codes key.code)) where
  kept_at : (q : PartKey) → maps.get g.parts q ≡ cond (codes q.code) (maps.get h.parts q) None
  kept_at q = ap (λ m. maps.get m q) kept ∙ maps.get-retain_keys h.parts (λ (key : PartKey). codes key.code) q (λ x e. ap (λ (key : PartKey). codes key.code) (sym (part_exact q x e)))

  pub kept_are_held : codes 4 ≡ true → HoldsOf h g
  kept_are_held contexts = record {
    same = λ key bytes is. by_case key bytes (codes key.code) (sym (kept_at key) ∙ is);
    contexts = λ key code. kept_at key ∙ ap (λ b. cond b (maps.get h.parts key) None) (ap codes code ∙ contexts);
  }
    where
      by_case : (key : PartKey) (bytes : List ℕ) (b : Bool) → cond b (maps.get h.parts key) None ≡ Some bytes → maps.get h.parts key ≡ Some bytes
      by_case key bytes true is = is
      by_case key bytes false is = cc

  pub kept_are_seen : h.kind ≡ Pv → (with_view h g).parts ≡ maps.retain_keys (view h).parts (λ key. codes key.code)
  kept_are_seen pv = maps.same_map part_total part_exact _ _ (λ q.
      maps.get-retain_keys (view h).parts (λ key. is_some (maps.get g.parts key)) q (λ x e. ap (λ key. is_some (maps.get g.parts key)) (sym (part_exact q x e)))
      ∙ ap (λ o. cond (is_some o) (maps.get (view h).parts q) None) (kept_at q)
      ∙ by_case (codes q.code) (maps.get h.parts q) (maps.get (view h).parts q) (seen_there q)
      ∙ sym (maps.get-retain_keys (view h).parts (λ (key : PartKey). codes key.code) q (λ x e. ap (λ (key : PartKey). codes key.code) (sym (part_exact q x e)))))
    where
      -- the view has the parts that the host has
      seen_there : (q : PartKey) → is_some (maps.get (view h).parts q) ≡ is_some (maps.get h.parts q)
      seen_there q =
          ap (λ (k : Kind). is_some (maps.get (normalised_of k (pfn_in h.frames) (guest_in h)).parts q)) pv
          ∙ some_each part_total part_exact blanked_part (each_value (renamed_part is_used_somewhere (pfn_in h.frames)) h.parts) q
          ∙ some_each part_total part_exact (renamed_part is_used_somewhere (pfn_in h.frames)) h.parts q

      by_case : (b : Bool) (o seen : Option (List ℕ)) → is_some seen ≡ is_some o → cond (is_some (cond b o None)) seen None ≡ cond b seen None
      by_case false o seen same = refl
      by_case true (Some x) seen same = refl
      by_case true None None same = refl
      by_case true None (Some x) same = let no : true ≡ false = same in cc
