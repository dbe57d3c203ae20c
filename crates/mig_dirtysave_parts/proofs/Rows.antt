-- What is in the way of seeing a valid HVM host is told by its parts alone: it has no tables, and nothing of a PV guest.
use Rattle.mig_dirtysave_parts.proofs.Common.{ℕ, Bool, true, false, cond, List, [], ◌∷◌, Option, Some, None, ◌==◌, option_map, eqb-true, part_total, part_exact, Hvm, PartKey, gdt_ents, FrameOf, context_key, Kind, PartCode, VcpuBasic, HostOf, IsValid, pfn_in, row_of, code_number, one_code, is_used_somewhere, from_each, guest_in, most_gdt_entries, ◌&&◌, P2mFrames, HostFrame, no_entries, without_machine, judged_with}
use Rattle.mig_host_view.proofs.Common.{◌≡◌, refl, sym, ap, subst, ◌∙◌, nat_lt, nat_cmp_total, nat_cmp-IsAntisymmetric, Entry, EachEntry, FrameMap, is_type_of, p2m_key, is_superpage, level_of}
use Rattle.std.specs.Option.{option_or}
use Rattle.mig_headers.specs.declared.unsound.Unsound.{Unsound}
use Rattle.mig_pvtables.specs.BadEntries.{is_unknown}
use Rattle.mig_pvtables.specs.Faults.{find_entry, find_in_contexts, find_misplaced, find_p2m, first_cause, type_at}
use Rattle.mig_pvtables.proofs.PvGuests.{no_entry, none_misses}
use Rattle.mig_pvtables.proofs.Searches.{first_found}
use Rattle.mig_host_view.specs.Sound.{absent, find_context_fault, find_gdt, machine_type, misnames, unsound_rows, unsoundness}
use Rattle.mig_pagetypes.specs.declared.page_type.PageType.{PageType}
use Rattle.mig_pagetypes.specs.declared.page_type.PageType.TheVariants.{Notab, Broken, Xalloc}
use Rattle.std.specs.FinMap as maps
use Rattle.mig_headers.specs.declared.unsound.Unsound.TheVariants as unsounds

-- a frame of an HVM host is no table
pub no_level : (t : PageType) → is_type_of Hvm t ≡ true → level_of t ≡ None
no_level Notab is = refl
no_level Broken is = refl
no_level Xalloc is = refl
no_level _ is = absurd (cc)

first_of_parts : (a c : Option Unsound) → first_cause (option_or a None ∷ None ∷ None ∷ None ∷ None ∷ None ∷ c ∷ []) ≡ first_cause (a ∷ None ∷ c ∷ [])
first_of_parts (Some u) c = refl
first_of_parts None c = refl

module _ (h : HostOf) (valid : IsValid h) (hvm : h.kind ≡ Hvm) where
  -- a code that no HVM guest has
  no_part : (code : PartCode) → (row_of code).of_kind Hvm ≡ false → (key : PartKey) (bytes : List ℕ) → key.code ≡ code_number code → maps.get h.parts key ≡ Some bytes → ⊥
  no_part code isnt key bytes number is =
      let part = valid.parts key bytes is in
      let same = one_code part.code code (sym part.number ∙ number) in
      let no : false ≡ true = sym isnt ∙ subst (λ c. (row_of c).of_kind Hvm ≡ true) same (subst (λ (k : Kind). (row_of part.code).of_kind k ≡ true) hvm part.of_kind) in cc

  none_at : (code : PartCode) → (row_of code).of_kind Hvm ≡ false → (key : PartKey) → key.code ≡ code_number code → maps.get h.parts key ≡ None
  none_at code isnt key number = by (maps.get h.parts key) refl
    where
      by : (o : Option (List ℕ)) → maps.get h.parts key ≡ o → o ≡ None
      by None is = refl
      by (Some bytes) is = absurd (no_part code isnt key bytes number is)

  pub hvm_type : (pfn : ℕ) (f : HostFrame) → maps.get h.frames pfn ≡ Some f → is_type_of Hvm f.type ≡ true
  hvm_type pfn f is = subst (λ (k : Kind). is_type_of k f.type ≡ true) hvm (valid.frames pfn f is).type

  abbrev frames : FrameMap
  frames = (guest_in h).frames

  no_tables : (P : Entry → Type 0) (pfn : ℕ) (frame : FrameOf) → maps.get frames pfn ≡ Some frame → EachEntry P frame
  no_tables P pfn frame is =
      let (x, was, same) = from_each nat_cmp_total nat_cmp-IsAntisymmetric (λ _ (f : HostFrame). without_machine f) h.frames pfn frame is in
      subst (EachEntry P) same (no_entries P (without_machine x) (hvm_type pfn x was))

  no_p2m : find_p2m frames h.parts ≡ None
  no_p2m = ap (find_misplaced (type_at frames)) (none_at P2mFrames refl p2m_key refl)

  no_slot : (bad : Entry → Bool) → find_entry bad frames ≡ None
  no_slot bad = (no_entry bad frames).1 (no_tables (λ e. bad e ≡ false))

  no_gdt : find_gdt h.parts ≡ None
  no_gdt = (first_found part_total part_exact (λ (e : PartKey × List ℕ). cond ((e.0.code == 4) && nat_lt most_gdt_entries (gdt_ents e.1)) (Some (e.0.key1, gdt_ents e.1)) None) h.parts).1 (λ key context is. by key context is (key.code == 4) refl)
    where
      by : (key : PartKey) (context : List ℕ) → maps.get h.parts key ≡ Some context → (b : Bool) → (key.code == 4) ≡ b
          → ◌≡◌ {A = Option (ℕ × ℕ)} (cond (b && nat_lt most_gdt_entries (gdt_ents context)) (Some (key.key1, gdt_ents context)) None) None
      by key context is true t = absurd (no_part VcpuBasic refl key context (eqb-true key.code 4 t) is)
      by key context is false t = refl

  no_field : find_in_contexts (misnames frames (pfn_in h.frames)) h.parts ≡ None
  no_field = (none_misses is_used_somewhere (machine_type frames (pfn_in h.frames)) h.parts).1 (λ key context is code field most used. absurd (no_part VcpuBasic refl key context code is))

  hvm_rows : unsoundness h ≡ judged_with None h.parts
  hvm_rows =
      ap (λ (k : Kind). first_cause (unsound_rows k frames h.parts (pfn_in h.frames))) hvm
      ∙ (λ i. first_cause (
      option_or (absent h.parts context_key) None
      ∷ option_map (λ k. unsounds.P2mFrame k) (no_p2m i)
      ∷ option_map (λ (at : ℕ × ℕ). unsounds.Superpage at.0 at.1) (no_slot is_superpage i)
      ∷ option_map (λ (at : ℕ × ℕ). unsounds.NoFrame at.0 at.1) (no_slot (is_unknown (pfn_in h.frames)) i)
      ∷ option_map (λ (at : ℕ × ℕ). unsounds.GdtEnts at.0 at.1) (no_gdt i)
      ∷ option_map (λ (at : ℕ × ℕ). unsounds.VcpuFrame at.0 at.1) (no_field i)
      ∷ option_map (λ fault. unsounds.BadContext fault) (find_context_fault h.parts)
      ∷ []))
      ∙ first_of_parts (absent h.parts context_key) (option_map (λ fault. unsounds.BadContext fault) (find_context_fault h.parts))

  pub hvm_judged : (tables : Option Unsound) → tables ≡ None → unsoundness h ≡ judged_with tables h.parts
  hvm_judged tables none = hvm_rows ∙ ap (λ o. judged_with o h.parts) (sym none)
