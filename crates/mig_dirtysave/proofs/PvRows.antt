-- What is found in a PV host at the pause and doesn't speak of types stands in the host, over any machine.
use Rattle.mig_dirtysave.proofs.Common.{◌⊎◌, inl, inr, get_or, Unsound, HostOf, IsValid, pfn_in, is_unknown, find_gdt, unsoundness, IsUnsound, Standing, is_of_no_type, row_1, row_2, row_5, row_6, row_7, UnsoundHas, standing_seen, first_around, most_gdt_entries, ltb-false, first_found, all_none, none_mapped, cond_none, slot_found, in_host, first_row, IsWrong, NamesFirstRow, unsoundness_named, row_stands}
use Rattle.mig_pvtables.proofs.Common.{◌≡◌, ℕ, ◌+◌, ◌*◌, ◌≤◌, List, [], ◌∷◌, Bool, true, cond, Option, Some, None, refl, sym, ap, subst, ◌∙◌, ◌==◌, ◌&&◌, option_or, nat_lt, eq-eqb, part_total, part_exact, PageType, gdt_ents, PartKey, NotPresent, Superpage, Frame, Pv, first_cause, is_superpage}
use Rattle.mig_host_laws.specs.Unsoundness.IsWrong.{no_context, no_p2m, no_shared, no_vcpu, other_type, listed_twice, large, nameless, many_descriptors, field_ill, bad_context}
use Rattle.mig_host_laws.proofs.Rows.{first_row_named, large_is, unknown_is}
use Rattle.mig_dirtysave.proofs.SeenRows.{no_row_7}
use Rattle.mig_dirtysave.proofs.TableRows.{super_there, lost_there}
use Rattle.std.specs.FinMap as maps
use Rattle.mig_headers.specs.declared.unsound.Unsound.TheVariants as causes

-- ---- what is found stands in the host

-- what is wrong with its tables
table_stands : (h : HostOf) (u : Unsound) → IsUnsound h.frames u → (k : ℕ) × UnsoundHas h k u
table_stands h (causes.Superpage pfn slot) is =
    let (lt, holds, _) = slot_found (λ slot. is_superpage ((in_host h).says pfn slot)) slot (sym (super_there h pfn) ∙ is) in
    (512 * pfn + slot, large pfn slot lt (large_is ((in_host h).says pfn slot) holds))
table_stands h (causes.NoFrame pfn slot) is =
    let (lt, holds, _) = slot_found (λ slot. is_unknown (pfn_in h.frames) ((in_host h).says pfn slot)) slot (sym (lost_there h pfn) ∙ is) in
    let (n, says, none) = unknown_is (pfn_in h.frames) ((in_host h).says pfn slot) holds in
    (512 * pfn + slot, nameless pfn slot n lt says none)
table_stands h _ is = absurd is

-- the same without tables
abbrev tableless : Standing → Standing
tableless s = record s { says = λ pfn slot. NotPresent }

module _ (s : Standing) where
  back : (k : ℕ) (c : Unsound) → IsWrong (tableless s) k c → IsWrong s k c
  back _ _ (no_context kind none) = no_context kind none
  back _ _ (no_p2m kind none) = no_p2m kind none
  back _ _ (no_shared kind none) = no_shared kind none
  back _ _ (no_vcpu kind none) = no_vcpu kind none
  back _ _ (other_type k pfn list other) = other_type k pfn list other
  back _ _ (listed_twice j k pfn slot less before list lt some) = listed_twice j k pfn slot less before list lt some
  back _ _ (large pfn slot lt says) = let no : NotPresent ≡ Superpage = says in cc
  back _ _ (nameless pfn slot n lt says none) = let no : NotPresent ≡ Frame n = says in cc
  back _ _ (many_descriptors key c is code many) = many_descriptors key c is code many
  back _ _ (field_ill key c field is code most uses other) = field_ill key c field is code most uses other
  back _ _ (bad_context bytes fault is fails) = bad_context bytes fault is fails

  -- the first row where nothing is found in tables
  around_nothing : row_7 s ≡ None → first_around None s ≡ first_row 0 (tableless s)
  around_nothing none = by (row_1 s) (row_2 s) (row_5 s) (row_6 s) ∙ ap (λ o. first_cause (row_1 s ∷ row_2 s ∷ None ∷ None ∷ row_5 s ∷ row_6 s ∷ o ∷ [])) (sym none)
    where
      by : (a b d e : Option Unsound) → first_cause (a ∷ b ∷ None ∷ d ∷ e ∷ []) ≡ first_cause (a ∷ b ∷ None ∷ None ∷ d ∷ e ∷ None ∷ [])
      by (Some u) b d e = refl
      by None (Some u) d e = refl
      by None None (Some u) e = refl
      by None None None (Some u) = refl
      by None None None None = refl

  row_found : row_7 s ≡ None → (u : Unsound) → first_around None s ≡ Some u → (k : ℕ) × IsWrong s k u
  row_found none u is =
      let named = subst (NamesFirstRow (tableless s)) (sym (around_nothing none) ∙ is) (first_row_named (tableless s) 0 (λ pfn slot out. refl)) in
      let (k, has, least) = named.holds in (k, back k u has)

  -- what is found is found without tables too, or is what was found in them
  found_where : (tables : Option Unsound) (u : Unsound) → first_around tables s ≡ Some u → (first_around None s ≡ Some u) ⊎ (tables ≡ Some u)
  found_where tables u is = by (row_1 s) (row_2 s) tables (first_cause (row_5 s ∷ row_6 s ∷ [])) is
    where
      by : (a b t d : Option Unsound) → option_or a (option_or b (option_or t d)) ≡ Some u → (option_or a (option_or b (option_or None d)) ≡ Some u) ⊎ (t ≡ Some u)
      by (Some v) b t d at = inl at
      by None (Some v) t d at = inl at
      by None None (Some v) d at = inr at
      by None None None d at = inl at

-- over any machine, what is found stands in the host where it doesn't speak of types
pub found_stands : (h : HostOf) → IsValid h → h.kind ≡ Pv → (types : List (Option PageType)) (tables : Option Unsound) → ((u : Unsound) → tables ≡ Some u → IsUnsound h.frames u)
    → (u : Unsound) → first_around tables (standing_seen h types) ≡ Some u → is_of_no_type u ≡ true → (k : ℕ) × UnsoundHas h k u
found_stands h valid pv types tables named u is of = elim (found_where (standing_seen h types) tables u is) [
  | inl rows ↦ let (k, has) = row_found (standing_seen h types) (no_row_7 h valid pv types) u rows in (k, (row_stands h (λ pfn. get_or types pfn None) k u of).0 has)
  | inr at ↦ table_stands h u (named u at)
]

-- ---- nothing was found

module _ (tables : Option Unsound) (s : Standing) (none : first_around tables s ≡ None) where
  -- no vCPU has too many descriptors
  pub few_descriptors : (key : PartKey) (context : List ℕ) → maps.get s.parts key ≡ Some context → key.code ≡ 4 → gdt_ents context ≤ most_gdt_entries
  few_descriptors key context there code =
      let many : Bool = nat_lt most_gdt_entries (gdt_ents context) in
      let none_large : find_gdt s.parts ≡ None =
      (none_mapped (λ (at : ℕ × ℕ). causes.GdtEnts at.0 at.1) (find_gdt s.parts)).0 ((all_none (row_1 s ∷ row_2 s ∷ tables ∷ row_5 s ∷ row_6 s ∷ [])).0 none).1.1.1.0 in
      let fails = (first_found part_total part_exact (λ (e : PartKey × List ℕ). cond ((e.0.code == 4) && nat_lt most_gdt_entries (gdt_ents e.1)) (Some (e.0.key1, gdt_ents e.1)) None) s.parts).0 none_large key context there in
      ltb-false most_gdt_entries (gdt_ents context)
      (cond_none many (key.key1, gdt_ents context) (sym (ap (λ b. cond (b && many) (Some (key.key1, gdt_ents context)) None) (eq-eqb key.code 4 code)) ∙ fails))

-- ---- an HVM host

pub unsoundness_stands : (h : HostOf) (u : Unsound) → unsoundness h ≡ Some u → (k : ℕ) × UnsoundHas h k u
unsoundness_stands h u is =
    let named = subst (NamesFirstRow (in_host h)) is (unsoundness_named h) in
    let (k, has, least) = named.holds in (k, has)
