-- The rows of unsoundness find nothing exactly where a host can be seen.
use Rattle.mig_host_view.proofs.Common.{◌≡◌, ℕ, ◌≤◌, Bool, true, false, cond, List, [], ◌∷◌, Option, Some, None, refl, sym, ap, ◌∙◌, ◌==◌, nat_lt, option_and_then, eqb-true, eq-eqb, le-ltb, PartKey, gdt_ents, FrameOf, FrameMap, GuestOf, PartMap, context_key, entry, EachEntry, part_total, part_exact, is_superpage, Result, Ok, Err, scan, ContextFault, HostOf, pfn_in, is_unknown, NamesKnown, is_used_somewhere, needed_keys, AreThere, machine_type, CanBeSeen, IsSound, misnames, guest_in, most_gdt_entries, ◌↔◌, ◌&&◌, option_or, ltb-false, first_cause, first_some, find_entry, find_p2m, find_in_contexts, no_entry, none_misses, no_p2m, first_found, all_none, none_mapped, is_there, absent, find_gdt, fault_in, unsound_rows, unsoundness}
use Rattle.mig_headers.proofs.FirstFaults.{both_none}
use Rattle.mig_headers.specs.declared.unsound.Unsound.TheVariants.{Missing}
use Rattle.mig_pvtables.proofs.BadSlots.{named}
use Rattle.std.specs.FinMap as maps

-- ---- parts

are_there : (parts : PartMap) (keys : List PartKey) → (first_some (absent parts) keys ≡ None) ↔ AreThere parts keys
are_there parts [] = (λ is. tt, λ all. refl)
are_there parts (key ∷ keys) =
    let here = is_there (maps.get parts key) (Missing key.code) in let others = are_there parts keys in (
      (λ is. let both = both_none (absent parts key) (first_some (absent parts) keys) is in (here.0 both.0, others.0 both.1)),
      (λ all. ap (λ o. option_or o (first_some (absent parts) keys)) (here.1 all.0) ∙ others.1 all.1),
    )

-- ---- entries

module _ (pfn_of : ℕ → Option ℕ) where
  abbrev AreNamed : FrameMap → Type 0
  AreNamed frames = (pfn : ℕ) (frame : FrameOf) → maps.get frames pfn ≡ Some frame → EachEntry (NamesKnown pfn_of) frame

  are_named : (frames : FrameMap) → ((find_entry is_superpage frames ≡ None) × (find_entry (is_unknown pfn_of) frames ≡ None)) ↔ AreNamed frames
  are_named frames =
      let large = no_entry is_superpage frames in let unknown = no_entry (is_unknown pfn_of) frames in (
        (λ none pfn x is l p lev has slot lt. (named pfn_of (entry l p slot)).0 (large.0 none.0 pfn x is l p lev has slot lt, unknown.0 none.1 pfn x is l p lev has slot lt)),
        (λ all. (
          large.1 (λ pfn x is l p lev has slot lt. ((named pfn_of (entry l p slot)).1 (all pfn x is l p lev has slot lt)).0),
          unknown.1 (λ pfn x is l p lev has slot lt. ((named pfn_of (entry l p slot)).1 (all pfn x is l p lev has slot lt)).1),
        )),
      )

-- ---- descriptors

few_in : (a b : Bool) (at : ℕ × ℕ) → (◌≡◌ {A = Option (ℕ × ℕ)} (cond (a && b) (Some at) None) None) ↔ (a ≡ true → b ≡ false)
few_in false b at = (λ is h. cc, λ go. refl)
few_in true false at = (λ is h. refl, λ go. refl)
few_in true true at = (λ is h. let no : Some at ≡ None = is in cc, λ go. let no : true ≡ false = go refl in cc)

no_gdt : (parts : PartMap) → (find_gdt parts ≡ None) ↔ ((key : PartKey) (context : List ℕ) → maps.get parts key ≡ Some context → key.code ≡ 4 → gdt_ents context ≤ most_gdt_entries)
no_gdt parts =
    let search = first_found part_total part_exact (λ (e : PartKey × List ℕ). cond ((e.0.code == 4) && nat_lt most_gdt_entries (gdt_ents e.1)) (Some (e.0.key1, gdt_ents e.1)) None) parts in
    let few = λ (key : PartKey) (context : List ℕ). few_in (key.code == 4) (nat_lt most_gdt_entries (gdt_ents context)) (key.key1, gdt_ents context) in (
      (λ none key context is code. ltb-false most_gdt_entries (gdt_ents context) ((few key context).0 (search.0 none key context is) (eq-eqb key.code 4 code))),
      (λ good. search.1 (λ key context is. (few key context).1 (λ four. le-ltb most_gdt_entries (gdt_ents context) (good key context is (eqb-true key.code 4 four))))),
    )

-- ---- the context of an HVM guest

ends : (r : Result ℕ ContextFault) → (fault_in r ≡ None) ↔ ((end : ℕ) × (r ≡ Ok end))
ends (Ok end) = (λ is. (end, refl), λ h. refl)
ends (Err fault) = (λ is. let no : Some fault ≡ None = is in cc, λ (end, h). let no : Err fault ≡ Ok end = h in cc)

abbrev Ends : Option (List ℕ) → Type 0
Ends o = (bytes : List ℕ) → o ≡ Some bytes → (end : ℕ) × (scan bytes ≡ Ok end)

context_ends : (o : Option (List ℕ)) → (option_and_then (λ bytes. fault_in (scan bytes)) o ≡ None) ↔ Ends o
context_ends None = (λ is bytes has. let no : None ≡ Some bytes = has in cc, λ h. refl)
context_ends (Some b) = (
  λ is bytes has. let same : b ≡ bytes = cc in (let (end, scanned) = (ends (scan b)).0 is in (end, ap scan (sym same) ∙ scanned)),
  λ h. (ends (scan b)).1 (h b refl),
)

-- ---- all rows

module _ (g : GuestOf) (pfn_of : ℕ → Option ℕ) where
  can_be_seen : first_cause (unsound_rows g.kind g.frames g.parts pfn_of) ≡ None → CanBeSeen g pfn_of
  can_be_seen none =
      let (a, (b, (c, (d, (e, (f, (h, _))))))) = (all_none (unsound_rows g.kind g.frames g.parts pfn_of)).0 none in
      record {
        parts = (are_there g.parts (needed_keys g.kind)).0 a;
        p2m = (no_p2m g.frames g.parts).0 ((none_mapped _ (find_p2m g.frames g.parts)).0 b);
        entries = (are_named pfn_of g.frames).0 ((none_mapped _ (find_entry is_superpage g.frames)).0 c, (none_mapped _ (find_entry (is_unknown pfn_of) g.frames)).0 d);
        gdt = (no_gdt g.parts).0 ((none_mapped _ (find_gdt g.parts)).0 e);
        fields = (none_misses is_used_somewhere (machine_type g.frames pfn_of) g.parts).0 ((none_mapped _ (find_in_contexts (misnames g.frames pfn_of) g.parts)).0 f);
        context = (context_ends (maps.get g.parts context_key)).0 ((none_mapped _ (option_and_then (λ bytes. fault_in (scan bytes)) (maps.get g.parts context_key))).0 h);
      }

  nothing_found : CanBeSeen g pfn_of → first_cause (unsound_rows g.kind g.frames g.parts pfn_of) ≡ None
  nothing_found can =
      let a = (are_there g.parts (needed_keys g.kind)).1 can.parts in
      let b = (none_mapped _ (find_p2m g.frames g.parts)).1 ((no_p2m g.frames g.parts).1 can.p2m) in
      let c = (none_mapped _ (find_entry is_superpage g.frames)).1 ((are_named pfn_of g.frames).1 can.entries).0 in
      let d = (none_mapped _ (find_entry (is_unknown pfn_of) g.frames)).1 ((are_named pfn_of g.frames).1 can.entries).1 in
      let e = (none_mapped _ (find_gdt g.parts)).1 ((no_gdt g.parts).1 can.gdt) in
      let f = (none_mapped _ (find_in_contexts (misnames g.frames pfn_of) g.parts)).1 ((none_misses is_used_somewhere (machine_type g.frames pfn_of) g.parts).1 can.fields) in
      let h = (none_mapped _ (option_and_then (λ bytes. fault_in (scan bytes)) (maps.get g.parts context_key))).1 ((context_ends (maps.get g.parts context_key)).1 can.context) in
      (all_none (unsound_rows g.kind g.frames g.parts pfn_of)).1 (a, (b, (c, (d, (e, (f, (h, tt)))))))

pub sound_is_faultless : (h : HostOf) → IsSound h ↔ (unsoundness h ≡ None)
sound_is_faultless h = (nothing_found (guest_in h) (pfn_in h.frames), can_be_seen (guest_in h) (pfn_in h.frames))
