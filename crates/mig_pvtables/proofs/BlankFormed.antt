-- The blank form of a well formed guest is well formed.
use Rattle.mig_pvtables.proofs.Common.{◌≡◌, ℕ, zero, suc, ◌+◌, ◌*◌, ◌%◌, ◌^◌, ◌<◌, ◌≤◌, Bool, true, false, cond, List, ◌++◌, length, replicate, Option, Some, None, refl, sym, ap, subst, ◌∙◌, arith, ◌==◌, length-replicate, option_map, nat_cmp_total, nat_cmp-IsAntisymmetric, eqb-true, eq-eqb, Pv, Hvm, Kind, level_of, PartKey, PartCode, VcpuBasic, SharedInfo, Blank, NotPresent, IsFormed, IsGuestFrame, IsPart, IsContent, IsFrame, width_of, gdt_ents, row_of, code_number, of_part, changed_part, most_gdt_entries, most_policy_entries, FrameOf, GuestOf, EachEntry, IsWithin, entry, is_blank_slot, long_at, length_longs, long_of_longs, blanked_table, part_total, part_exact, blanked_page, blanked_frame, blanked_part, blank_of, blank, place_of, blanked_context, blanked_shared, little_bytes}
use Rattle.mig_pvtables.specs.Blank.{zero_page}
use Rattle.mig_guest.specs.Longs.{longs}
use Rattle.mig_guest.specs.Tables.{entry_of}
use Rattle.mig_pvtables.proofs.BlankSays.{blanked_ents, same_entry}
use Rattle.mig_pvtables.proofs.EachValue.{count_each, from_each}
use Rattle.mig_pvtables.proofs.SameShape.{entries_changed, repaged_is_frame}
use Rattle.std.proofs.lemmas.List.{replicate-append-replicate}

-- ---- a page of zeros, as a table

zeros_are : (n : ℕ) → longs n (λ _. 0) ≡ replicate (8 * n) 0
unfolding longs
zeros_are zero = refl
zeros_are (suc n) =
    ap (λ l. l ++ little_bytes 8 0) (zeros_are n) ∙ replicate-append-replicate (8 * n) 8 0
    ∙ ap (λ k. replicate k 0) (let e : 8 * n + 8 ≡ 8 * suc n = omega arith in e)

zero_long : (slot : ℕ) → slot < 512 → long_at zero_page slot ≡ 0
unfolding zero_page
zero_long slot lt = ap (λ (p : List ℕ). long_at p slot) (sym (zeros_are 512)) ∙ long_of_longs 512 (λ _. 0) slot lt (omega arith)

zero_says : (top level slot : ℕ) → IsWithin top (entry_of level slot 0)
unfolding entry_of
zero_says top level slot = elim (is_blank_slot level slot) as (λ b. IsWithin top (cond b Blank NotPresent)) [ true ↦ tt | false ↦ tt ]

zero_within : (top level slot : ℕ) → slot < 512 → IsWithin top (entry level zero_page slot)
zero_within top level slot lt = subst (λ n. IsWithin top (entry_of level slot n)) (sym (zero_long slot lt)) (zero_says top level slot)

-- ---- frames

pub zero_size : length zero_page ≡ 4096
unfolding zero_page
zero_size = length-replicate {A = ℕ} 4096 0

blanked_is_frame : (place level : Option ℕ) (x : FrameOf) → IsFrame x → IsFrame (record { type = x.type; page = blanked_page place level x.page })
blanked_is_frame (Some k) level x is = repaged_is_frame x (λ _. zero_page) (λ _. zero_size) is
blanked_is_frame None (Some level) x is = repaged_is_frame x (blanked_table level) (λ _. length_longs 512 _) is
blanked_is_frame None None x is = is

-- what its tables say stays within
still_within : (top : ℕ) (place : Option ℕ) (x : FrameOf) → EachEntry (IsWithin top) x → EachEntry (IsWithin top) (record { type = x.type; page = blanked_page place (level_of x.type) x.page })
still_within top (Some k) x each =
    entries_changed (IsWithin top) (IsWithin top) (λ _ _. zero_page) x (option_map (λ _. zero_page) x.page) (λ level lev. refl) (λ level p lev has slot lt is. zero_within top level slot lt) each
still_within top None x each =
    entries_changed (IsWithin top) (IsWithin top) blanked_table x (blanked_page None (level_of x.type) x.page) (λ level lev. ap (λ l. blanked_page None l x.page) lev)
    (λ level p lev has slot lt is. subst (IsWithin top) (sym (same_entry level slot p lt)) is) each

module _ (g : GuestOf) where
  blanked_is_guest_frame : (pfn : ℕ) (x : FrameOf) → IsGuestFrame g.kind g.top pfn x → IsGuestFrame g.kind g.top pfn (blanked_frame g.parts pfn x)
  blanked_is_guest_frame pfn x is = record {
    small = is.small;
    inside = is.inside;
    is = blanked_is_frame (place_of g.parts pfn) (level_of x.type) x is.is;
    type = is.type;
    entries = still_within g.top (place_of g.parts pfn) x is.entries;
  }

-- ---- parts

module _ (kind : Kind) (width : ℕ) (key : PartKey) (part : List ℕ) (is : IsPart kind width key part) where
  resized : (code : PartCode) (changed : List ℕ) → key.code ≡ code_number code → (row_of code).allows width (length changed) ≡ true → IsContent code changed → IsPart kind width key changed
  resized code changed number len content = changed_part width code changed number len is content

  few_ents : (n : ℕ) → gdt_ents part ≤ most_gdt_entries → n ≡ gdt_ents part % 2 ^ 64 → n ≤ most_gdt_entries
  few_ents n few e = omega (arith, few, e)

  -- by whether it is a context, and whether it is the shared page
  blanked_case : (a b : Bool) → (key.code == 4) ≡ a → (key.code == 7) ≡ b → IsPart kind width key (cond a (blanked_context part) (cond b (blanked_shared part) part))
  blanked_case true b four seven =
      let code = eqb-true key.code 4 four in let one = of_part VcpuBasic kind width (key, part) is code in
      resized VcpuBasic (blanked_context part) code (eq-eqb (length (blanked_context part)) 5168 (length_longs 646 _)) (few_ents (gdt_ents (blanked_context part)) one.content (blanked_ents part))
  blanked_case false true four seven =
      resized SharedInfo (blanked_shared part) (eqb-true key.code 7 seven) (eq-eqb (length (blanked_shared part)) 4096 (length_longs 512 _)) tt
  blanked_case false false four seven = is

  blanked_is_part : IsPart kind width key (blanked_part key part)
  blanked_is_part = blanked_case (key.code == 4) (key.code == 7) refl refl

-- ---- the guest

module _ (g : GuestOf) (formed : IsFormed g) where
  pub blank_formed : IsFormed (blank_of Pv g)
  blank_formed = record {
    top = formed.top;
    frames = λ pfn y is.
        let (x, found, same) = from_each nat_cmp_total nat_cmp-IsAntisymmetric (blanked_frame g.parts) g.frames pfn y is in
        subst (IsGuestFrame g.kind g.top pfn) same (blanked_is_guest_frame g pfn x (formed.frames pfn x found));
    parts = λ key part is.
        let (x, found, same) = from_each part_total part_exact blanked_part g.parts key part is in
        subst (IsPart g.kind (width_of g) key) same (blanked_is_part g.kind (width_of g) key x (formed.parts key x found));
    policies = λ code policy. subst (λ n. n ≤ most_policy_entries) (sym (count_each part_total part_exact blanked_part (λ (k : PartKey). k.code == code) g.parts)) (formed.policies code policy);
  }

  by_kind : (kind : Kind) → IsFormed (blank_of kind g)
  by_kind Hvm = formed
  by_kind Pv = blank_formed

  pub blank_is_formed : IsFormed (blank g)
  blank_is_formed = by_kind g.kind
