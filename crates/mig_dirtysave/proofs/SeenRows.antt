-- The rows of a PV host as a saver finds them: those that speak of contexts need no other parts, and the last stands in none.
use Rattle.mig_dirtysave.proofs.Common.{◌≡◌, ℕ, List, [], ◌∷◌, length, Bool, true, false, cond, Option, Some, None, refl, sym, ap, subst, ◌∙◌, ◌==◌, ◌&&◌, is_some, option_and_then, Result, Ok, Err, option_map, option_or, nat_cmp_total, nat_cmp-IsAntisymmetric, eqb-true, Kind, Pv, Unsound, PageType, PartKey, HvmContext, gdt_ents, HostOf, HostFrame, IsValid, row_of, p2m_key, Part, PartMap, one_code, first_some, first_cause, type_at, get_each, in_fields, in_contexts, contexts_start, find_gdt, fault_in, unsoundness, guest_in, without_machine, scan, row_1, row_2, row_5, row_6, row_7, Standing, types_seen, standing_seen, HasTypes, first_in_tables, first_around, most_gdt_entries, P2mFrame, BadContext, VcpuBasic, context_key, find_in_contexts, find_misplaced, large_in, row_3, row_4, host_wide, saver_finds, or_none}
use Rattle.std.specs.Prelude.{nat_lt, IfOk}
use Rattle.mig_guest.proofs.Counts.{same_parts}
use Rattle.std.specs.FinMap as maps

-- ---- parts that are alike at the contexts

abbrev pub SameContexts : PartMap → PartMap → Type 0
SameContexts m n = (key : PartKey) → key.code ≡ 4 → maps.get m key ≡ maps.get n key

module _ (m n : PartMap) (same : SameContexts m n) where
  in_same : {C : Type 0} (f : Part → Option C) → in_contexts f m ≡ in_contexts f n
  in_same f = sym (contexts_start f m) ∙ ap (first_some f) (same_parts 4 m n same) ∙ contexts_start f n

  pub same_fields : (bad : ℕ → List ℕ → ℕ → Bool) → find_in_contexts bad m ≡ find_in_contexts bad n
  same_fields bad = in_same (in_fields bad)

  pub same_gdt : find_gdt m ≡ find_gdt n
  same_gdt = gdt_is m ∙ in_same large_in ∙ sym (gdt_is n)
    where
      one : (b c : Bool) (x : ℕ × ℕ) → ◌≡◌ {A = Option (ℕ × ℕ)} (cond (b && c) (Some x) None) (cond b (cond c (Some x) None) None)
      one true c x = refl
      one false c x = refl

      gdt_is : (parts : PartMap) → find_gdt parts ≡ in_contexts large_in parts
      gdt_is parts = λ i. first_some (λ e. one (e.0.code == 4) (nat_lt most_gdt_entries (gdt_ents e.1)) (e.0.key1, gdt_ents e.1) i) (maps.entries parts)

-- ---- a PV host

module _ (h : HostOf) (valid : IsValid h) where
  pub contexts_long : (key : PartKey) (context : List ℕ) → maps.get h.parts key ≡ Some context → key.code ≡ 4 → length context ≡ 5168
  contexts_long key context is code =
      let part = valid.parts key context is in
      eqb-true (length context) 5168 (subst (λ c. (row_of c).allows h.width (length context) ≡ true) (one_code part.code VcpuBasic (sym part.number ∙ code)) part.len)

  module _ (pv : h.kind ≡ Pv) where
    no_context : (bytes : List ℕ) → maps.get h.parts context_key ≡ Some bytes → ⊥
    no_context bytes is =
        let part = valid.parts context_key bytes is in
        let of : (row_of part.code).of_kind Pv ≡ true = subst (λ (k : Kind). (row_of part.code).of_kind k ≡ true) pv part.of_kind in
        let no : false ≡ true = subst (λ c. (row_of c).of_kind Pv ≡ true) (one_code part.code HvmContext (sym part.number)) of in cc

    pub no_row_7 : (types : List (Option PageType)) → row_7 (standing_seen h types) ≡ None
    no_row_7 types = by_case (maps.get h.parts context_key) refl
      where
        by_case : (o : Option (List ℕ)) → maps.get h.parts context_key ≡ o → row_7 (standing_seen h types) ≡ None
        by_case None is = ap (λ o. option_map (λ fault. BadContext fault) (option_and_then (λ (bytes : List ℕ). fault_in (scan bytes)) o)) is
        by_case (Some bytes) is = absurd (no_context bytes is)

-- ---- the rows in their order

regroup : (a b c d rest : Option Unsound) → option_or a (option_or b (option_or (first_cause (c ∷ d ∷ [])) rest)) ≡ option_or a (option_or b (option_or c (option_or d rest)))
regroup a b c d rest = ap (λ t. option_or a (option_or b t)) (by_case c d)
  where
    by_case : (c d : Option Unsound) → option_or (first_cause (c ∷ d ∷ [])) rest ≡ option_or c (option_or d rest)
    by_case (Some u) d = refl
    by_case None (Some u) = refl
    by_case None None = refl

-- the types of a host's frames are those of the guest that stands there
types_there : (h : HostOf) (pfn : ℕ) → option_map (λ (f : HostFrame). f.type) (maps.get h.frames pfn) ≡ type_at (guest_in h).frames pfn
types_there h pfn = by_case (maps.get h.frames pfn) ∙ ap (option_map (λ f. f.type)) (sym (get_each nat_cmp_total nat_cmp-IsAntisymmetric (λ _ (f : HostFrame). without_machine f) h.frames pfn))
  where
    by_case : (o : Option HostFrame) → option_map (λ (f : HostFrame). f.type) o ≡ option_map (λ f. f.type) (option_map without_machine o)
    by_case None = refl
    by_case (Some f) = refl

-- where the types are the host's, the first row around what was found in the tables is what is in the way of seeing it
pub first_is_unsoundness : (h : HostOf) → IsValid h → h.kind ≡ Pv → (types : List (Option PageType)) (tables : Option Unsound) → HasTypes h types
    → tables ≡ first_in_tables h → first_around tables (standing_seen h types) ≡ unsoundness h
first_is_unsoundness h valid pv types tables has is =
    let s : Standing = standing_seen h types in
    ap (λ t. first_around t s) is
    ∙ regroup (row_1 s) (row_2 s) (row_3 h.width s) (row_4 h.width s) (first_cause (row_5 s ∷ row_6 s ∷ []))
    ∙ ap (λ o. first_cause (row_1 s ∷ row_2 s ∷ row_3 h.width s ∷ row_4 h.width s ∷ row_5 s ∷ row_6 s ∷ o ∷ [])) (sym (no_row_7 h valid pv types))
    ∙ saver_finds h (types_seen types) h.width (λ pfn. has pfn ∙ types_there h pfn) (host_wide h valid)

-- ---- answers, one after another

pub ok_then : {X E : Type 0} {P Q : X → Type 0} (result : Result X E) → ((x : X) → P x → Q x) → IfOk result P → IfOk result Q
ok_then (Ok x) go is = go x is
ok_then (Err e) go is = tt

-- causes that are looked for one after another: behind the tables, and in the fields, which come last
pub behind_tables : (a b t d : Option Unsound) → None ≡ first_cause (a ∷ b ∷ []) → is_some t ≡ false → d ≡ first_cause (a ∷ b ∷ t ∷ d ∷ [])
behind_tables (Some u) b t d is none = let no : ◌≡◌ {A = Option Unsound} None (Some u) = is in cc
behind_tables None (Some u) t d is none = let no : ◌≡◌ {A = Option Unsound} None (Some u) = is in cc
behind_tables None None (Some u) d is none = let no : true ≡ false = none in cc
behind_tables None None None d is none = sym (or_none d)

pub before_fields : (a b t d e : Option Unsound) (u : Unsound) → Some u ≡ first_cause (a ∷ b ∷ t ∷ d ∷ []) → Some u ≡ first_cause (a ∷ b ∷ t ∷ d ∷ e ∷ [])
before_fields (Some v) b t d e u is = is
before_fields None (Some v) t d e u is = is
before_fields None None (Some v) d e u is = is
before_fields None None None (Some v) e u is = is
before_fields None None None None e u is = let no : ◌≡◌ {A = Option Unsound} (Some u) None = is in cc

pub in_fields_alone : (a b t d e : Option Unsound) → None ≡ first_cause (a ∷ b ∷ t ∷ d ∷ []) → e ≡ first_cause (a ∷ b ∷ t ∷ d ∷ e ∷ [])
in_fields_alone (Some u) b t d e is = let no : ◌≡◌ {A = Option Unsound} None (Some u) = is in cc
in_fields_alone None (Some u) t d e is = let no : ◌≡◌ {A = Option Unsound} None (Some u) = is in cc
in_fields_alone None None (Some u) d e is = let no : ◌≡◌ {A = Option Unsound} None (Some u) = is in cc
in_fields_alone None None None (Some u) e is = let no : ◌≡◌ {A = Option Unsound} None (Some u) = is in cc
in_fields_alone None None None None e is = sym (or_none e)

-- ---- the list

-- what of row 2 is found with the list of the host
pub row_of_list : (s : Standing) {key : PartKey} {list : List ℕ} {found : Option ℕ} → Some list ≡ maps.get s.parts key → key ≡ p2m_key → found ≡ find_misplaced s.types (Some list) → option_map (λ k. P2mFrame k) found ≡ row_2 s
row_of_list s is same all = ap (option_map (λ k. P2mFrame k)) (all ∙ ap (find_misplaced s.types) (is ∙ ap (maps.get s.parts) same))
