-- What the blank form of a PV guest has at each frame number and key.
use Rattle.mig_pvtables.proofs.Common.{◌≡◌, ℕ, ◌/◌, cond, List, length, Option, Some, None, is_some, refl, sym, ap, subst, ◌∙◌, arith, ◌==◌, option_map, nat_cmp_total, nat_cmp-IsAntisymmetric, eqb-true, eq-eqb, lt-ltb, Pv, level_of, PartKey, Entry, FrameOf, FrameMap, GuestOf, PartMap, p2m_key, long_at, EachEntry, blanked_table, part_total, part_exact, blanked_page, blanked_frame, blanked_part, blank_of, listed_in, listed, place_of, type_at, blanked_context, blanked_shared, Notab, AreP2mFrames}
use Rattle.mig_pvtables.specs.P2mFrames.{place_in}
use Rattle.mig_pvtables.proofs.BlankSays.{same_entry}
use Rattle.mig_pvtables.proofs.EachValue.{from_each, to_each, some_each, stays_each}
use Rattle.mig_pvtables.proofs.SameShape.{types_kept, entries_changed}
use Rattle.mig_pvtables.proofs.Slots.{found_in_range}
use Rattle.std.specs.FinMap as maps

-- what has a place in the list is listed there
pub place_listed : (o : Option (List ℕ)) (pfn k : ℕ) → place_in o pfn ≡ Some k → listed_in o k ≡ Some pfn
unfolding place_in
place_listed None pfn k is = cc
place_listed (Some bytes) pfn k is =
    let (lt, passes) = found_in_range (λ k. long_at bytes k == pfn) 0 (length bytes / 8) k is in
    ap (λ b. cond b (Some (long_at bytes k)) None) (lt-ltb k (length bytes / 8) (omega (arith, lt))) ∙ ap (λ n. Some n) (eqb-true (long_at bytes k) pfn passes)

-- a P2M frame is no table
pub table_unlisted : (frames : FrameMap) (parts : PartMap) → AreP2mFrames frames parts → (pfn : ℕ) (x : FrameOf) → maps.get frames pfn ≡ Some x → (level : ℕ) → level_of x.type ≡ Some level → place_of parts pfn ≡ None
table_unlisted frames parts p2m pfn x found level lev = elim (place_of parts pfn) as (λ o. place_of parts pfn ≡ o → o ≡ None) [
  | None ↦ λ at. refl
  | Some k ↦ λ at.
      let notab : Some x.type ≡ Some Notab = sym (ap (option_map (λ (f : FrameOf). f.type)) found) ∙ p2m.types k pfn (place_listed (maps.get parts p2m_key) pfn k at) in
      let type : x.type ≡ Notab = cc in let no : None ≡ Some level = ap level_of (sym type) ∙ lev in cc
] refl

-- ---- a frame, where none that is a table is listed

module _ (place : Option ℕ) (x : FrameOf) (apart : (level : ℕ) → level_of x.type ≡ Some level → place ≡ None) where
  abbrev blanked : FrameOf
  blanked = record { type = x.type; page = blanked_page place (level_of x.type) x.page }

  -- the page of a table
  table_page : (level : ℕ) (page : Option (List ℕ)) → level_of x.type ≡ Some level → x.page ≡ page → blanked.page ≡ option_map (blanked_table level) page
  table_page level page lev is = (λ i. blanked_page (apart level lev i) (lev i) (is i))

  -- what its entries say
  pub entries_there : (P : Entry → Type 0) → EachEntry P x → EachEntry P blanked
  entries_there P = entries_changed P P blanked_table x blanked.page (λ level lev. table_page level x.page lev refl) (λ level p lev has slot lt. subst P (sym (same_entry level slot p lt)))

  pub entries_back : (P : Entry → Type 0) → EachEntry P blanked → EachEntry P x
  entries_back P each level p lev has slot lt = subst P (same_entry level slot p lt) (each level (blanked_table level p) lev (table_page level (Some p) lev has) slot lt)

-- ---- a guest

module _ (g : GuestOf) where
  -- frames keep their types, keys their parts, and the list is as it was
  pub type_there : (n : ℕ) → type_at (blank_of Pv g).frames n ≡ type_at g.frames n
  type_there n = types_kept (blanked_frame g.parts) (λ n x. refl) g.frames n

  pub frame_there : (n : ℕ) → is_some (maps.get (blank_of Pv g).frames n) ≡ is_some (maps.get g.frames n)
  frame_there n = some_each nat_cmp_total nat_cmp-IsAntisymmetric (blanked_frame g.parts) g.frames n

  pub part_there : (key : PartKey) → is_some (maps.get (blank_of Pv g).parts key) ≡ is_some (maps.get g.parts key)
  part_there key = some_each part_total part_exact blanked_part g.parts key

  pub listed_there : (k : ℕ) → listed (blank_of Pv g).parts k ≡ listed g.parts k
  listed_there k = ap (λ o. listed_in o k) (stays_each part_total part_exact blanked_part p2m_key (λ _. refl) g.parts)

  is_context : (key : PartKey) (context : List ℕ) → key.code ≡ 4 → blanked_part key context ≡ blanked_context context
  is_context key context code = ap (λ b. cond b (blanked_context context) (cond (key.code == 7) (blanked_shared context) context)) (eq-eqb key.code 4 code)

  -- the contexts
  pub context_there : (key : PartKey) (context : List ℕ) → maps.get g.parts key ≡ Some context → key.code ≡ 4 → maps.get (blank_of Pv g).parts key ≡ Some (blanked_context context)
  context_there key context found code = to_each part_total part_exact blanked_part g.parts key context found ∙ ap (λ c. Some c) (is_context key context code)

  pub context_back : (key : PartKey) (blanked : List ℕ) → maps.get (blank_of Pv g).parts key ≡ Some blanked → key.code ≡ 4 → (context : List ℕ) × (maps.get g.parts key ≡ Some context) × (blanked_context context ≡ blanked)
  context_back key blanked there code =
      let (context, found, same) = from_each part_total part_exact blanked_part g.parts key blanked there in
      (context, found, sym (is_context key context code) ∙ same)
