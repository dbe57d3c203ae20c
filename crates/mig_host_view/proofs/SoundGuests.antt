-- A whole, blank guest that is localised can be seen.
use Rattle.mig_host_view.proofs.Common.{◌≡◌, ℕ, ◌<◌, ◌≤◌, Bool, true, false, List, Option, Some, None, is_some, IsSome, refl, sym, ap, subst, ◌∙◌, arith, option_and_then, nat_cmp_total, nat_cmp-IsAntisymmetric, Pv, Hvm, PageType, level_of, PartKey, Entry, Blank, NotPresent, Superpage, Frame, FrameOf, FrameMap, GuestOf, PartMap, IsPart, width_of, p2m_key, context_key, place_of, gdt_ents, entry, EachEntry, IsWithin, is_type_of, part_total, part_exact, blank, blank_of, type_at, fits_field, field_at, field_place, field_value, frame_of_field, is_used, listed, listed_in, IsWhole, recursion_from_All, AreBytes, Kind, PartCode, P2mFrames, VcpuBasic, HvmContext, row_of, code_number, one_code, of_part, NamesKnown, name_for, renamed_table, entry_named, GoesBack, is_used_somewhere, IsCompletePv, field_there, from_each, entries_changed, kept_p2m, pv_complete, TableGoesBack, renamed_part, localised_page, localised_frame, localised_of, localised, value_renamed, renamed_context, needed_keys, AreThere, machine_type, CanBeSeen, most_gdt_entries, no_entries, NamesFit, table_unlisted, hvm_complete, EntryGoesBack, fits_back, said_anew}
use Rattle.mig_host_view.specs.RenamedContexts.{renamed_value}
use Rattle.mig_host_view.proofs.GuestsBack.{table_goes, context_goes, context_bytes, blank_context}
use Rattle.mig_host_view.proofs.LocalisedGuests.{localised_type, renamed_there, renamed_listed, from_context}
use Rattle.mig_host_view.proofs.RenamedContexts.{there_at, same_ents}
use Rattle.mig_host_view.proofs.RenamedFields.{FieldGoesBack, IsBlankField, frame_there, unused_stays, first, unused, used}
use Rattle.std.specs.FinMap as maps

-- ---- entries

module _ (f back : ℕ → Option ℕ) where
  named_anew_is : (x : Entry) (top : ℕ) → EntryGoesBack f back x → IsWithin top x → NamesKnown back (entry_named (name_for f x) x)
  named_anew_is Blank top goes within = tt
  named_anew_is NotPresent top goes within = tt
  named_anew_is Superpage top goes within = absurd within
  named_anew_is (Frame n) top goes within = let g = goes n refl in subst (λ o. NamesKnown back (entry_named o (Frame n))) (sym g.there) (ap is_some g.again)

  -- each entry of a renamed table that names a frame goes back
  table_named : (level : ℕ) (page : List ℕ) (top : ℕ) → AreBytes page → TableGoesBack f back level page → (slot : ℕ) → slot < 512 → IsWithin top (entry level page slot) → NamesKnown back (entry level (renamed_table f level page) slot)
  table_named level page top all goes slot lt within =
      let fit : NamesFit (λ slot. name_for f (entry level page slot)) level page = λ slot n m lt is has. fits_back f back (entry level page slot) (λ n is. goes slot n lt is) n m is has in
      subst (NamesKnown back) (sym (said_anew (λ slot. name_for f (entry level page slot)) level page all fit slot lt)) (named_anew_is (entry level page slot) top (λ n is. goes slot n lt is) within)

-- ---- fields

module _ (f back : ℕ → Option ℕ) (type_of : ℕ → Option PageType) (id ents field v : ℕ) where
  -- a field that a host uses says the machine frame of a frame that fits
  fits_case : (b : Bool) → is_used id ents field v ≡ b → FieldGoesBack f back id ents field v → IsBlankField field v
      → (is_used id ents field v ≡ true → fits_field field (type_of (frame_of_field field v)) ≡ true)
      → is_used_somewhere id ents field (first f back id ents (Some field) v) ≡ true
      → fits_field field (option_and_then type_of (back (frame_of_field field (first f back id ents (Some field) v)))) ≡ true
  fits_case true is goes blank fits host =
      let g = goes is in
      ap (λ w. fits_field field (option_and_then type_of (back (frame_of_field field w)))) (used f back id ents field v g.name is g.there)
      ∙ ap (λ m. fits_field field (option_and_then type_of (back m))) (frame_there field g.name)
      ∙ ap (λ o. fits_field field (option_and_then type_of o)) g.again
      ∙ fits is
  fits_case false is goes blank fits host =
      let no : false ≡ true = sym (unused_stays id ents field v blank is) ∙ ap (λ w. is_used_somewhere id ents field w) (sym (unused f back id ents field v is)) ∙ host in cc

value_there : (f : ℕ → Option ℕ) (id ents i v field : ℕ) → field_at i ≡ Some field → renamed_value is_used f id ents i v ≡ value_renamed is_used f id ents (Some field) v
unfolding renamed_value
value_there f id ents i v field at = ap (λ o. value_renamed is_used f id ents o v) at

-- ---- parts of the other kind

of_this_kind : (code : PartCode) (kind : Kind) (width : ℕ) (key : PartKey) (part : List ℕ) → IsPart kind width key part → key.code ≡ code_number code → (row_of code).of_kind kind ≡ true
of_this_kind code kind width key part is number = subst (λ c. (row_of c).of_kind kind ≡ true) (one_code is.code code (sym is.number ∙ number)) is.of_kind

-- ---- a PV guest

module _ (g : GuestOf) (pv : g.kind ≡ Pv) (whole : IsWhole g) (blanked : blank_of Pv g ≡ g) (f back : ℕ → Option ℕ) (goes : (n : ℕ) → IsSome (maps.get g.frames n) → GoesBack f back n) where
  complete : IsCompletePv g
  complete = pv_complete g pv whole.faultless

  abbrev frames_there : FrameMap
  frames_there = (localised_of Pv f g).frames

  abbrev parts_there : PartMap
  parts_there = (localised_of Pv f g).parts

  frame_named : (pfn : ℕ) (x : FrameOf) → maps.get g.frames pfn ≡ Some x → EachEntry (NamesKnown back) (localised_frame g.parts f pfn x)
  frame_named pfn x found = entries_changed (IsWithin g.top) (NamesKnown back) (renamed_table f) x (localised_page (place_of g.parts pfn) f (level_of x.type) x.page)
      (λ level lev i. localised_page (table_unlisted g.frames g.parts complete.p2m pfn x found level lev i) f (lev i) x.page)
      (λ level p lev has slot lt. let (all, size, back_there) = table_goes g whole complete blanked f back goes pfn x found level p lev has in table_named f back level p g.top all back_there slot lt)
      (whole.formed.frames pfn x found).entries

  entries_there : (pfn : ℕ) (y : FrameOf) → maps.get frames_there pfn ≡ Some y → EachEntry (NamesKnown back) y
  entries_there pfn y is =
      let (x, found, same) = from_each nat_cmp_total nat_cmp-IsAntisymmetric (localised_frame g.parts f) g.frames pfn y is in
      subst (EachEntry (NamesKnown back)) same (frame_named pfn x found)

  module _ (key : PartKey) (context : List ℕ) (found : maps.get g.parts key ≡ Some context) (code : key.code ≡ 4) where
    abbrev there : List ℕ
    there = renamed_context is_used f key.key1 context

    ents : gdt_ents there ≡ gdt_ents context
    ents = same_ents f back key.key1 context (recursion_from_All (λ b. b < 256) context (context_bytes g blanked key context found code)) (context_goes g whole complete blanked f back goes key context found code)

    few_ents : gdt_ents there ≤ most_gdt_entries
    few_ents = let few : gdt_ents context ≤ most_gdt_entries = (of_part VcpuBasic g.kind (width_of g) (key, context) (whole.formed.parts key context found) code).content in omega (arith, few, ents)

    field_named_there : (field : ℕ) → field ≤ 18 → is_used_somewhere key.key1 (gdt_ents there) field (field_value there field) ≡ true → fits_field field (machine_type frames_there back (frame_of_field field (field_value there field))) ≡ true
    field_named_there field most host =
        let ctx = context_goes g whole complete blanked f back goes key context found code in
        let all = recursion_from_All (λ b. b < 256) context (context_bytes g blanked key context found code) in
        let (at, lt) = field_there field most in
        let value = there_at f back key.key1 context all ctx (field_place field) lt ∙ value_there f key.key1 (gdt_ents context) (field_place field) (field_value context field) field at in
        subst (λ w. fits_field field (machine_type frames_there back (frame_of_field field w)) ≡ true) (sym value)
        (fits_case f back (type_at frames_there) key.key1 (gdt_ents context) field (field_value context field)
        (is_used key.key1 (gdt_ents context) field (field_value context field)) refl
        (ctx (field_place field) lt field at)
        (blank_context g blanked key context found code (field_place field) lt field at)
        (λ in_stream. ap (fits_field field) (localised_type f g (frame_of_field field (field_value context field))) ∙ complete.fields key context found code field most in_stream)
        (ap (λ n. is_used_somewhere key.key1 n field (first f back key.key1 (gdt_ents context) (Some field) (field_value context field))) (sym ents) ∙ ap (λ w. is_used_somewhere key.key1 (gdt_ents there) field w) (sym value) ∙ host))

  still_there : (key : PartKey) → IsSome (maps.get g.parts key) → IsSome (maps.get parts_there key)
  still_there key has = renamed_there is_used f g.parts key ∙ has

  no_context : (part : List ℕ) → maps.get parts_there context_key ≡ Some part → ⊥
  no_context part is =
      let (x, found, same) = from_each part_total part_exact (renamed_part is_used f) g.parts context_key part is in
      let no : false ≡ true = of_this_kind HvmContext Pv (width_of g) context_key x (subst (λ (k : Kind). IsPart k (width_of g) context_key x) pv (whole.formed.parts context_key x found)) refl in cc

  pv_seen : CanBeSeen (localised_of Pv f g) back
  pv_seen = record {
    parts = subst (λ (k : Kind). AreThere parts_there (needed_keys k)) (sym pv) (still_there _ complete.p2m_there, (still_there _ complete.shared_there, (still_there _ complete.vcpu_there, tt)));
    p2m = kept_p2m g.frames frames_there g.parts parts_there (localised_type f g) (renamed_listed is_used f g.parts) complete.p2m;
    entries = entries_there;
    gdt = λ key part is code. let (context, found, same) = from_context is_used f g.parts key part is code in subst (λ c. gdt_ents c ≤ most_gdt_entries) same (few_ents key context found code);
    fields = λ key part is code field most.
        let (context, found, same) = from_context is_used f g.parts key part is code in
        subst (λ c. is_used_somewhere key.key1 (gdt_ents c) field (field_value c field) ≡ true → fits_field field (machine_type frames_there back (frame_of_field field (field_value c field))) ≡ true) same
        (field_named_there key context found code field most);
    context = λ part is. absurd (no_context part is);
  }

-- ---- an HVM guest has no tables, no contexts of vCPUs and no list of P2M frames

module _ (g : GuestOf) (hvm : g.kind ≡ Hvm) (whole : IsWhole g) (back : ℕ → Option ℕ) where
  hvm_part : (key : PartKey) (part : List ℕ) → maps.get g.parts key ≡ Some part → IsPart Hvm (width_of g) key part
  hvm_part key part is = subst (λ (k : Kind). IsPart k (width_of g) key part) hvm (whole.formed.parts key part is)

  no_vcpu : (key : PartKey) (part : List ℕ) → maps.get g.parts key ≡ Some part → key.code ≡ 4 → ⊥
  no_vcpu key part is code = let no : false ≡ true = of_this_kind VcpuBasic Hvm (width_of g) key part (hvm_part key part is) code in cc

  listed_case : (o : Option (List ℕ)) (k pfn : ℕ) → maps.get g.parts p2m_key ≡ o → listed_in o k ≡ Some pfn → ⊥
  listed_case None k pfn is at = let no : None ≡ Some pfn = at in cc
  listed_case (Some part) k pfn is at = let no : false ≡ true = of_this_kind P2mFrames Hvm (width_of g) p2m_key part (hvm_part p2m_key part is) refl in cc

  none_listed : (k pfn : ℕ) → listed g.parts k ≡ Some pfn → ⊥
  none_listed k pfn is = listed_case (maps.get g.parts p2m_key) k pfn refl is

  hvm_seen : CanBeSeen g back
  hvm_seen = record {
    parts = subst (λ (k : Kind). AreThere g.parts (needed_keys k)) (sym hvm) ((hvm_complete g hvm whole.faultless).0, tt);
    p2m = record { types = λ k pfn is. absurd (none_listed k pfn is); twice = λ j k pfn lt one two. absurd (none_listed j pfn one) };
    entries = λ pfn x is. no_entries (NamesKnown back) x (subst (λ (k : Kind). is_type_of k x.type ≡ true) hvm (whole.formed.frames pfn x is).type);
    gdt = λ key part is code. absurd (no_vcpu key part is code);
    fields = λ key part is code field most host. absurd (no_vcpu key part is code);
    context = λ part is. let (end, scanned, cut) = (of_part HvmContext g.kind (width_of g) (context_key, part) (whole.formed.parts context_key part is) refl).content in (end, scanned);
  }

-- ---- either kind

module _ (g : GuestOf) (whole : IsWhole g) (blanked : blank g ≡ g) (f back : ℕ → Option ℕ) (goes : (n : ℕ) → IsSome (maps.get g.frames n) → GoesBack f back n) where
  kind_case : (k : Kind) → g.kind ≡ k → CanBeSeen (localised_of k f g) back
  kind_case Pv is = pv_seen g is whole (sym (ap (λ k. blank_of k g) is) ∙ blanked) f back goes
  kind_case Hvm is = hvm_seen g is whole back

  pub localised_seen : CanBeSeen (localised f g) back
  localised_seen = kind_case g.kind refl
