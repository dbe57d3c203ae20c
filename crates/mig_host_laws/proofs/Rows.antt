-- Each row names the first of what its line says, and the rows together the first of all that is wrong.
use Rattle.mig_host_laws.proofs.Common.{◌⊎◌, false≢true, Less, Kind, Unsound, number_of_unsound, ◌≡◌, inl, inr, ℕ, zero, suc, ◌+◌, ◌*◌, ◌<◌, ◌≤◌, List, [], ◌∷◌, Bool, true, false, cond, not, nat_lt, is_none, is_some, Option, Some, None, refl, sym, ap, subst, ◌∙◌, arith, ltb-true, lt-ltb, eqb-true, eq-eqb, cases_lt, nat_cmp, ◌==◌, ◌&&◌, ◌||◌, find, list_any, range_with_len, option_map, option_or, option_and_then, nat_cmp_total, nat_cmp-IsAntisymmetric, PageType, gdt_ents, FrameOf, FrameMap, PartKey, part_cmp, p2m_key, vcpu_key, shared_key, Entry, Superpage, Frame, NotPresent, Pv, part_total, part_exact, first_cause, first_some, is_notab, is_this, find_entry, is_superpage, count_in, listed, field_value, is_unknown, needed_keys, absent, NamesFirst, Standing, said_of, names_ill, row_1, row_2, row_5, row_6, row_7, first_row, IsWide, IsWrong, NamesFirstRow, is_left_at_end, no_context, no_p2m, no_shared, no_vcpu, other_type, listed_twice, large, nameless, many_descriptors, field_ill, bad_context, most_gdt_entries, and_from, and_parts, not-true, or_cases, or_left, or_right, Result, Ok, Err, ranked, IsSome, level_of, entry, Hvm, find_slot, fault_in, said_in, says_in, find_said, row_3, row_4, key_rank}
use Rattle.std.proofs.lemmas.List.Folds.{list_any_at}
use Rattle.std.proofs.lemmas.List.FromFn.{length-range_with_len, get_or-range_with_len}
use Rattle.mig_headers.specs.Contexts.{scan}
use Rattle.mig_guest.specs.PartKeys.{context_key}
use Rattle.mig_headers.specs.declared.fault.ContextFault.{ContextFault}
use Rattle.mig_pagetypes.specs.declared.page_type.PageType.TheVariants.{Notab}
use Rattle.mig_pvtables.specs.Faults.{slots, field_numbers, is_needed, is_misplaced}
use Rattle.mig_pvtables.proofs.PvGuests.{counted}
use Rattle.mig_host_laws.proofs.KeyRanks.{rank_lt}
use Rattle.mig_host_laws.proofs.NamedFirst.{told_first, told_twice}
use Rattle.std.specs.FinMap as maps
use Rattle.mig_headers.specs.declared.unsound.Unsound.TheVariants as causes
use Rattle.mig_host_laws.proofs.NamedFirst as firsts

abbrev Found : (ℕ → Unsound → Type 0) → Option Unsound → Type 0
Found Has f = NamesFirst number_of_unsound Has f

-- no two rows are named
pub one_row : (s : Standing) (f g : Option Unsound) → NamesFirstRow s f → NamesFirstRow s g → f ≡ g
one_row s = firsts.one_named number_of_unsound (IsWrong s)

abbrev Alone : Type 0 → ℕ → Unsound → ℕ → Unsound → Type 0
Alone = firsts.Alone number_of_unsound

abbrev Either : (ℕ → Unsound → Type 0) → (ℕ → Unsound → Type 0) → ℕ → Unsound → Type 0
Either = firsts.Either number_of_unsound

abbrev Sought : (ℕ → Bool) → (ℕ → ℕ) → (ℕ → Unsound) → ℕ → ℕ → Unsound → Type 0
Sought = firsts.Sought number_of_unsound

pub is_missing : {X : Type 0} (o : Option X) → is_none o ≡ true → o ≡ None
is_missing None h = refl
is_missing (Some x) h = cc

told_if : {A B : Type 0} (g : A → B) (b : Bool) (x : A) → cond b (Some (g x)) None ≡ option_map g (cond b (Some x) None)
told_if g true x = refl
told_if g false x = refl

-- what a frame of a list of P2M frames is, or isn't
pub notab_is : (o : Option PageType) → not (is_notab o) ≡ true → o ≡ Some Notab → ⊥
notab_is o h is = false≢true (sym (ap (λ t. not (is_notab t)) is) ∙ h)

pub is_other : (o : Option PageType) → (o ≡ Some Notab → ⊥) → not (is_notab o) ≡ true
is_other (Some Notab) h = absurd (h refl)
is_other _ h = refl

pub same_pfn : (pfn : ℕ) (o : Option ℕ) → is_this pfn o ≡ true → o ≡ Some pfn
same_pfn pfn None h = cc
same_pfn pfn (Some n) h = ap (λ m. Some m) (eqb-true n pfn h)

-- some number of a range passes a test
module _ (p : ℕ → Bool) where
  pub some_passes : (a n : ℕ) → list_any p (range_with_len a n) ≡ true → (k : ℕ) × (a ≤ k) × (k < a + n) × (p k ≡ true)
  some_passes a zero any = cc
  some_passes a (suc n) any = elim (or_cases (p a) (list_any p (range_with_len (a + 1) n)) any) [
    | inl is ↦ (a, omega arith, omega arith, is)
    | inr rest ↦ let (k, le, lt, is) = some_passes (a + 1) n rest in (k, omega (arith, le), omega (arith, lt), is)
  ]

  pub passes_some : (n k : ℕ) → k < n → p k ≡ true → list_any p (range_with_len 0 n) ≡ true
  passes_some n k lt is = list_any_at p (range_with_len 0 n) k 0 (omega (arith, lt, length-range_with_len 0 n)) (ap p (get_or-range_with_len 0 n k 0 lt ∙ omega arith) ∙ is)

-- ---- entries: a slot of a PFN's table that says what passes a test, at its place

module _ (bad : Entry → Bool) (cause : ℕ → ℕ → Unsound) (n : ℕ) (numbered : (pfn slot : ℕ) → number_of_unsound (cause pfn slot) ≡ n) where
  abbrev InSlots : (ℕ → Entry) → ℕ → ℕ → Unsound → Type 0
  InSlots says pfn = Sought (λ slot. bad (says slot)) (λ slot. 512 * pfn + slot) (λ slot. cause pfn slot) 512

  abbrev pub Said : (ℕ → ℕ → Entry) → ℕ → Unsound → Type 0
  Said says k c = (pfn : ℕ) × InSlots (says pfn) pfn k c

  in_slots : (says : ℕ → Entry) (pfn : ℕ) → Found (InSlots says pfn) (option_map (λ slot. cause pfn slot) (find (λ slot. bad (says slot)) slots))
  unfolding slots
  in_slots says pfn = firsts.sought number_of_unsound (λ slot. bad (says slot)) (λ slot. 512 * pfn + slot) (λ slot. cause pfn slot) (λ i j. numbered pfn i ∙ sym (numbered pfn j)) (λ i j less. omega (arith, less)) 512

  rises : (says more : ℕ → Entry) (p q : ℕ) → p < q → firsts.AllBefore number_of_unsound (InSlots says p) (InSlots more q)
  rises says more p q less j k c d (s, few, _, is, named) (t, lt, _, also, other) =
      inr (ap number_of_unsound named ∙ numbered p s ∙ sym (numbered q t) ∙ sym (ap number_of_unsound other), omega (arith, is, also, few, less))

  abbrev told : ℕ × ℕ → Unsound
  told at = cause at.0 at.1

  none_said : bad NotPresent ≡ false → (says : ℕ → Entry) (pfn : ℕ) → ((slot : ℕ) → says slot ≡ NotPresent) → (k : ℕ) (c : Unsound) → InSlots says pfn k c → ⊥
  none_said fails says pfn none k c (slot, lt, is, _, _) = false≢true (sym fails ∙ ap bad (sym (none slot)) ∙ is)

  -- looked for below the width
  pub said_named : bad NotPresent ≡ false → (width : ℕ) (says : ℕ → ℕ → Entry) → ((pfn slot : ℕ) → ((pfn < width) → ⊥) → says pfn slot ≡ NotPresent) → Found (Said says) (option_map told (find_said width bad says))
  said_named fails width says wide =
      firsts.turned number_of_unsound (firsts.InRange number_of_unsound E f rising each 0 width) (Said says) _
      (subst (Found (firsts.InRange number_of_unsound E f rising each 0 width)) (sym (told_first told (λ pfn. option_map (λ slot. (pfn, slot)) (find (λ slot. bad (says pfn slot)) slots)) (range_with_len 0 width)))
      (firsts.range_names number_of_unsound E f rising each 0 width))
      (λ k c (pfn, le, lt, h). (pfn, h)) from
    where
      E : ℕ → ℕ → Unsound → Type 0
      E pfn = InSlots (says pfn) pfn

      f : ℕ → Option Unsound
      f pfn = option_map told (option_map (λ slot. (pfn, slot)) (find (λ slot. bad (says pfn slot)) slots))

      rising : (p q : ℕ) → p < q → firsts.AllBefore number_of_unsound (E p) (E q)
      rising p q less = rises (says p) (says q) p q less

      each : (pfn : ℕ) → Found (E pfn) (f pfn)
      each pfn = subst (Found (E pfn)) (sym (told_twice told (λ slot. (pfn, slot)) (find (λ slot. bad (says pfn slot)) slots))) (in_slots (says pfn) pfn)

      from : (k : ℕ) (c : Unsound) → Said says k c → firsts.InRange number_of_unsound E f rising each 0 width k c
      from k c (pfn, h) = elim (cases_lt pfn width) [
        | inl lt ↦ (pfn, omega arith, omega (arith, lt), h)
        | inr ge ↦ absurd (none_said fails (says pfn) pfn (λ slot. wide pfn slot (λ lt. omega (arith, lt, ge))) k c h)
      ]

  -- looked for among the frames of a map
  module _ (fails : bad NotPresent ≡ false) (frames : FrameMap) where
    abbrev At : ℕ × FrameOf → ℕ → Unsound → Type 0
    At e = InSlots (said_of (Some e.1)) e.0

    abbrev search : ℕ × FrameOf → Option (ℕ × ℕ)
    search e = option_map (λ (slot : ℕ). (e.0, slot)) (find_slot bad (level_of e.1.type) e.1.page)

    at_level : (pfn : ℕ) (level : Option ℕ) (page : Option (List ℕ)) → Found (InSlots (said_in level page) pfn) (option_map (λ slot. cause pfn slot) (find_slot bad level page))
    at_level pfn (Some level) (Some page) = in_slots (entry level page) pfn
    at_level pfn (Some level) None = firsts.none_stands number_of_unsound _ (none_said fails (said_in (Some level) None) pfn (λ slot. refl))
    at_level pfn None page = firsts.none_stands number_of_unsound _ (none_said fails (said_in None page) pfn (λ slot. refl))

    rising : (q r : ℕ) (v w : FrameOf) → maps.get frames q ≡ Some v → maps.get frames r ≡ Some w → nat_cmp q r ≡ Less → firsts.AllBefore number_of_unsound (At (q, v)) (At (r, w))
    rising q r v w at there before = rises (said_of (Some v)) (said_of (Some w)) q r (ranked q r Less (sym before))

    pub frames_named : Found (Said (says_in frames)) (option_map told (find_entry bad frames))
    frames_named =
        firsts.turned number_of_unsound (firsts.InEntries number_of_unsound nat_cmp_total nat_cmp-IsAntisymmetric At frames) (Said (says_in frames)) _
        (subst (Found (firsts.InEntries number_of_unsound nat_cmp_total nat_cmp-IsAntisymmetric At frames)) (sym (told_first told search (maps.entries frames)))
        (firsts.entries_name number_of_unsound nat_cmp_total nat_cmp-IsAntisymmetric At frames rising (λ e. option_map told (search e))
        (λ pfn x is. subst (Found (At (pfn, x))) (sym (told_twice told (λ (slot : ℕ). (pfn, slot)) (find_slot bad (level_of x.type) x.page))) (at_level pfn (level_of x.type) x.page))))
        to from
      where
        to : (k : ℕ) (c : Unsound) → firsts.InEntries number_of_unsound nat_cmp_total nat_cmp-IsAntisymmetric At frames k c → Said (says_in frames) k c
        to k c (pfn, x, is, h) = (pfn, subst (λ o. InSlots (said_of o) pfn k c) (sym is) h)

        by : (pfn : ℕ) (o : Option FrameOf) → maps.get frames pfn ≡ o → (k : ℕ) (c : Unsound) → InSlots (said_of o) pfn k c → firsts.InEntries number_of_unsound nat_cmp_total nat_cmp-IsAntisymmetric At frames k c
        by pfn None is k c h = absurd (none_said fails (said_of None) pfn (λ slot. refl) k c h)
        by pfn (Some x) is k c h = (pfn, x, is, h)

        from : (k : ℕ) (c : Unsound) → Said (says_in frames) k c → firsts.InEntries number_of_unsound nat_cmp_total nat_cmp-IsAntisymmetric At frames k c
        from k c (pfn, h) = by pfn (maps.get frames pfn) refl k c h

-- ---- tests that are passed

pub large_is : (e : Entry) → is_superpage e ≡ true → e ≡ Superpage
large_is Superpage h = refl
large_is _ h = cc

pub unknown_is : (names : ℕ → Option ℕ) (e : Entry) → is_unknown names e ≡ true → (n : ℕ) × (e ≡ Frame n) × (names n ≡ None)
unknown_is names (Frame n) h = (n, refl, is_missing (names n) h)
unknown_is names _ h = cc

-- ---- the rows of a standing

module _ (s : Standing) where
  -- 1: a part that no guest of the kind goes without
  abbrev Misses : ℕ → Unsound → Type 0
  Misses = Either (Alone ((s.kind ≡ Hvm) × (maps.get s.parts context_key ≡ None)) 0 (causes.Missing 9))
      (Either (Alone ((s.kind ≡ Pv) × (maps.get s.parts p2m_key ≡ None)) 0 (causes.Missing 3))
      (Either (Alone ((s.kind ≡ Pv) × (maps.get s.parts shared_key ≡ None)) 1 (causes.Missing 7))
      (Alone ((s.kind ≡ Pv) × (maps.get s.parts (vcpu_key 0) ≡ None)) 2 (causes.Missing 4))))

  absent_one : (kind : Kind) → s.kind ≡ kind → (key : PartKey) (place : ℕ) → Found (Alone ((s.kind ≡ kind) × (maps.get s.parts key ≡ None)) place (causes.Missing key.code)) (absent s.parts key)
  absent_one kind of key place = firsts.alone number_of_unsound _ place (causes.Missing key.code) (is_none (maps.get s.parts key)) (λ h. (of, is_missing (maps.get s.parts key) h)) (λ h. ap is_none h.1)

  no_more : {Has : ℕ → Unsound → Type 0} (f : Option Unsound) → Found Has f → Found Has (option_or f None)
  no_more None h = h
  no_more (Some c) h = h

  alone_then : (P Q : Type 0) (i j a b : ℕ) → i < j → firsts.AllBefore number_of_unsound (Alone P i (causes.Missing a)) (Alone Q j (causes.Missing b))
  alone_then P Q i j a b less k l c d (_, at, is) (_, also, other) = inr (ap number_of_unsound is ∙ sym (ap number_of_unsound other), omega (arith, at, also, less))

  misses_by : (kind : Kind) → s.kind ≡ kind → Found Misses (first_some (absent s.parts) (needed_keys kind))
  misses_by Hvm hvm =
      firsts.turned number_of_unsound _ Misses _ (no_more _ (absent_one Hvm hvm context_key 0)) (λ k c h. inl h) (λ k c h. elim h [
        | inl is ↦ is
        | inr (inl (holds, _, _)) ↦ let no : Hvm ≡ Pv = sym hvm ∙ holds.0 in cc
        | inr (inr (inl (holds, _, _))) ↦ let no : Hvm ≡ Pv = sym hvm ∙ holds.0 in cc
        | inr (inr (inr (holds, _, _))) ↦ let no : Hvm ≡ Pv = sym hvm ∙ holds.0 in cc
      ])
  misses_by Pv pv =
      firsts.turned number_of_unsound _ Misses _
      (firsts.both number_of_unsound _ _ _ _ (λ j k c d a b. elim b [ inl h ↦ alone_then _ _ 0 1 3 7 (omega arith) j k c d a h | inr h ↦ alone_then _ _ 0 2 3 4 (omega arith) j k c d a h ]) (absent_one Pv pv p2m_key 0)
      (firsts.both number_of_unsound _ _ _ _ (alone_then _ _ 1 2 7 4 (omega arith)) (absent_one Pv pv shared_key 1) (no_more _ (absent_one Pv pv (vcpu_key 0) 2))))
      (λ k c h. inr h) (λ k c h. elim h [
        | inl (holds, _, _) ↦ let no : Hvm ≡ Pv = sym holds.0 ∙ pv in cc
        | inr is ↦ is
      ])

  row_1_named : Found Misses (row_1 s)
  row_1_named = misses_by s.kind refl

  -- 2: a P2M frame
  abbrev IllListed : ℕ → Unsound → Type 0
  IllListed = Sought (λ k. is_misplaced s.types (maps.get s.parts p2m_key) k (listed s.parts k)) (λ k. k) (λ k. causes.P2mFrame k) (count_in (maps.get s.parts p2m_key))

  row_2_named : Found IllListed (row_2 s)
  row_2_named = firsts.sought number_of_unsound (λ k. is_misplaced s.types (maps.get s.parts p2m_key) k (listed s.parts k)) (λ k. k) (λ k. causes.P2mFrame k) (λ i j. refl) (λ i j less. less) (count_in (maps.get s.parts p2m_key))

  abbrev Large : ℕ → Unsound → Type 0
  Large = Said is_superpage (λ pfn slot. causes.Superpage pfn slot) 3 (λ pfn slot. refl) s.says

  abbrev Nameless : ℕ → Unsound → Type 0
  Nameless = Said (is_unknown s.names) (λ pfn slot. causes.NoFrame pfn slot) 4 (λ pfn slot. refl) s.says

  -- 5: descriptors
  abbrev ManyAt : PartKey × List ℕ → ℕ → Unsound → Type 0
  ManyAt e = Alone ((e.0.code ≡ 4) × (most_gdt_entries < gdt_ents e.1)) (key_rank s.parts e.0) (causes.GdtEnts e.0.key1 (gdt_ents e.1))

  abbrev Many : ℕ → Unsound → Type 0
  Many = firsts.InEntries number_of_unsound part_total part_exact ManyAt s.parts

  rank_rises : (q r : PartKey) (v : List ℕ) → maps.get s.parts q ≡ Some v → part_cmp q r ≡ Less → key_rank s.parts q < key_rank s.parts r
  rank_rises q r v at before = rank_lt part_total part_exact q r before (maps.entries s.parts) v (sym (maps.get-entries s.parts q) ∙ at)

  row_5_named : Found Many (row_5 s)
  row_5_named =
      subst (Found Many) (sym (told_first told search (maps.entries s.parts)))
      (firsts.entries_name number_of_unsound part_total part_exact ManyAt s.parts
      (λ q r v w at there before j k c d (_, is, named) (_, also, other). inr (ap number_of_unsound named ∙ sym (ap number_of_unsound other), omega (arith, is, also, rank_rises q r v at before)))
      (λ e. option_map told (search e))
      (λ key context is. subst (Found (ManyAt (key, context))) (told_if told ((key.code == 4) && nat_lt most_gdt_entries (gdt_ents context)) (key.key1, gdt_ents context))
      (firsts.alone number_of_unsound _ _ _ ((key.code == 4) && nat_lt most_gdt_entries (gdt_ents context))
      (λ h. let both = and_parts (key.code == 4) _ h in (eqb-true key.code 4 both.0, ltb-true most_gdt_entries (gdt_ents context) both.1)) (λ h. and_from _ _ (eq-eqb key.code 4 h.0) (lt-ltb most_gdt_entries (gdt_ents context) h.1)))))
    where
      told : ℕ × ℕ → Unsound
      told at = causes.GdtEnts at.0 at.1

      search : PartKey × List ℕ → Option (ℕ × ℕ)
      search e = cond ((e.0.code == 4) && nat_lt most_gdt_entries (gdt_ents e.1)) (Some (e.0.key1, gdt_ents e.1)) None

  -- 6: fields
  abbrev IllAt : PartKey × List ℕ → ℕ → Unsound → Type 0
  IllAt e k c = (e.0.code ≡ 4) × Sought (names_ill s e.0.key1 e.1) (λ field. 32 * key_rank s.parts e.0 + field) (λ field. causes.VcpuFrame e.0.key1 field) 19 k c

  abbrev Ill : ℕ → Unsound → Type 0
  Ill = firsts.InEntries number_of_unsound part_total part_exact IllAt s.parts

  abbrev ill_told : ℕ × ℕ → Unsound
  ill_told at = causes.VcpuFrame at.0 at.1

  ill_in : (key : PartKey) (context : List ℕ) (b : Bool) → (key.code == 4) ≡ b
      → Found (IllAt (key, context)) (option_map ill_told (cond b (option_map (λ (field : ℕ). (key.key1, field)) (find (names_ill s key.key1 context) field_numbers)) None))
  unfolding field_numbers
  ill_in key context true is =
      subst (Found (IllAt (key, context))) (sym (told_twice ill_told (λ (field : ℕ). (key.key1, field)) (find (names_ill s key.key1 context) (range_with_len 0 19))))
      (firsts.turned number_of_unsound _ (IllAt (key, context)) _
      (firsts.sought number_of_unsound (names_ill s key.key1 context) (λ field. 32 * key_rank s.parts key + field) (λ field. causes.VcpuFrame key.key1 field) (λ i j. refl) (λ i j less. omega (arith, less)) 19)
      (λ k c h. (eqb-true key.code 4 is, h)) (λ k c h. h.1))
  ill_in key context false is = firsts.none_stands number_of_unsound _ (λ k c h. false≢true (sym is ∙ eq-eqb key.code 4 h.0))

  row_6_named : Found Ill (row_6 s)
  row_6_named =
      subst (Found Ill) (sym (told_first ill_told search (maps.entries s.parts)))
      (firsts.entries_name number_of_unsound part_total part_exact IllAt s.parts
      (λ q r v w at there before j k c d (_, (t, few, _, is, named)) (_, (u, less, _, also, other)).
      inr (ap number_of_unsound named ∙ sym (ap number_of_unsound other), omega (arith, is, also, few, rank_rises q r v at before)))
      (λ e. option_map ill_told (search e)) (λ key context is. ill_in key context (key.code == 4) refl))
    where
      search : PartKey × List ℕ → Option (ℕ × ℕ)
      search e = cond (e.0.code == 4) (option_map (λ (field : ℕ). (e.0.key1, field)) (find (names_ill s e.0.key1 e.1) field_numbers)) None

  -- 7: the context of an HVM guest
  abbrev Breaks : ℕ → Unsound → Type 0
  Breaks k c = (bytes : List ℕ) × (fault : ContextFault) × (maps.get s.parts context_key ≡ Some bytes) × (scan bytes ≡ Err fault) × (k ≡ 0) × (c ≡ causes.BadContext fault)

  breaks_by : (o : Option (List ℕ)) → maps.get s.parts context_key ≡ o → Found Breaks (option_map (λ fault. causes.BadContext fault) (option_and_then (λ bytes. fault_in (scan bytes)) o))
  breaks_by None is = firsts.none_stands number_of_unsound _ (λ k c (bytes, fault, at, _, _, _). let no : None ≡ Some bytes = sym is ∙ at in cc)
  breaks_by (Some part) is = by (scan part) refl
    where
      scanned : (bytes : List ℕ) → maps.get s.parts context_key ≡ Some bytes → scan bytes ≡ scan part
      scanned bytes at = let same : Some bytes ≡ Some part = sym at ∙ is in let e : bytes ≡ part = cc in ap scan e

      by : (r : Result ℕ ContextFault) → scan part ≡ r → Found Breaks (option_map (λ fault. causes.BadContext fault) (fault_in r))
      by (Ok end) ends = firsts.none_stands number_of_unsound _ (λ k c (bytes, fault, at, fails, _, _). let no : Ok end ≡ Err fault = sym ends ∙ sym (scanned bytes at) ∙ fails in cc)
      by (Err first) breaks = record {
        holds = (
          0,
          (part, first, is, breaks, refl, refl),
          λ k c (bytes, fault, at, fails, _, named).
              let same : Err first ≡ Err fault = sym breaks ∙ sym (scanned bytes at) ∙ fails in let e : first ≡ fault = cc in inr (named ∙ ap causes.BadContext (sym e)),
        );
      }

  row_7_named : Found Breaks (row_7 s)
  row_7_named = breaks_by (maps.get s.parts context_key) refl

  -- ---- all rows

  abbrev Rows : ℕ → Unsound → Type 0
  Rows = Either Misses (Either IllListed (Either Large (Either Nameless (Either Many (Either Ill (Either Breaks (λ k c. ⊥)))))))

  -- ---- the line of P2M frames

  pub needed : (k : ℕ) → is_needed s.types k ≡ true → (slot : ℕ) × (slot < 512) × IsSome (s.types (512 * k + slot))
  unfolding slots
  needed k h = let (slot, _, lt, is) = some_passes (λ slot. is_some (s.types (512 * k + slot))) 0 512 h in (slot, omega (arith, lt), is)

  pub has_needed : (k slot : ℕ) → slot < 512 → IsSome (s.types (512 * k + slot)) → is_needed s.types k ≡ true
  unfolding slots
  has_needed k slot lt is = passes_some (λ slot. is_some (s.types (512 * k + slot))) 512 slot lt is

  -- what is listed at j is this PFN, and one of the ranges of j and k is needed
  abbrev again : ℕ → ℕ → ℕ → Bool
  again k pfn j = is_this pfn (listed s.parts j) && (is_needed s.types j || is_needed s.types k)

  ill_wrong : (k : ℕ) (o : Option ℕ) → listed s.parts k ≡ o → is_misplaced s.types (maps.get s.parts p2m_key) k o ≡ true → IsWrong s k (causes.P2mFrame k)
  ill_wrong k None at h = cc
  ill_wrong k (Some pfn) at h = elim (or_cases (not (is_notab (s.types pfn))) (list_any (again k pfn) (range_with_len 0 k)) h) [
    | inl other ↦ other_type k pfn at (notab_is (s.types pfn) other)
    | inr twice ↦ let (j, _, less, is) = some_passes (again k pfn) 0 k twice in
        let both = and_parts (is_this pfn (listed s.parts j)) (is_needed s.types j || is_needed s.types k) is in
        let before = same_pfn pfn (listed s.parts j) both.0 in
        elim (or_cases (is_needed s.types j) (is_needed s.types k) both.1) [
          | inl h ↦ let (slot, lt, is) = needed j h in listed_twice j k pfn slot (omega (arith, less)) before at lt (inl is)
          | inr h ↦ let (slot, lt, is) = needed k h in listed_twice j k pfn slot (omega (arith, less)) before at lt (inr is)
        ]
  ]

  placed : (k pfn : ℕ) → listed s.parts k ≡ Some pfn → is_misplaced s.types (maps.get s.parts p2m_key) k (Some pfn) ≡ true → IllListed k (causes.P2mFrame k)
  placed k pfn at h = (k, counted (maps.get s.parts p2m_key) k pfn at, ap (is_misplaced s.types (maps.get s.parts p2m_key) k) at ∙ h, refl, refl)

  twice_placed : (j k pfn slot : ℕ) → j < k → listed s.parts j ≡ Some pfn → listed s.parts k ≡ Some pfn
      → slot < 512 → IsSome (s.types (512 * j + slot)) ⊎ IsSome (s.types (512 * k + slot)) → IllListed k (causes.P2mFrame k)
  twice_placed j k pfn slot less before at lt some =
      placed k pfn at (or_right (not (is_notab (s.types pfn))) _ (passes_some (again k pfn) k j less (and_from _ _ (ap (is_this pfn) before ∙ eq-eqb pfn pfn refl) (elim some [
        | inl is ↦ or_left _ (is_needed s.types k) (has_needed j slot lt is)
        | inr is ↦ or_right (is_needed s.types j) _ (has_needed k slot lt is)
      ]))))

  -- ---- the lines are the rows

  lone : (P : Type 0) (place : ℕ) (cause : Unsound) → (P → IsWrong s place cause) → (k : ℕ) (c : Unsound) → Alone P place cause k c → IsWrong s k c
  lone P place cause go k c (holds, at, is) = subst (λ i. IsWrong s i c) (sym at) (subst (IsWrong s place) (sym is) (go holds))

  row_line : (k : ℕ) (c : Unsound) → Rows k c → IsWrong s k c
  row_line k c (inl (inl h)) = lone _ 0 (causes.Missing 9) (λ p. no_context p.0 p.1) k c h
  row_line k c (inl (inr (inl h))) = lone _ 0 (causes.Missing 3) (λ p. no_p2m p.0 p.1) k c h
  row_line k c (inl (inr (inr (inl h)))) = lone _ 1 (causes.Missing 7) (λ p. no_shared p.0 p.1) k c h
  row_line k c (inl (inr (inr (inr h)))) = lone _ 2 (causes.Missing 4) (λ p. no_vcpu p.0 p.1) k c h
  row_line k c (inr (inl (i, lt, is, at, named))) = lone _ i (causes.P2mFrame i) (ill_wrong i (listed s.parts i) refl) k c (is, at, named)
  row_line k c (inr (inr (inl (pfn, (slot, lt, is, at, named))))) = lone _ (512 * pfn + slot) (causes.Superpage pfn slot) (λ h. large pfn slot lt (large_is (s.says pfn slot) h)) k c (is, at, named)
  row_line k c (inr (inr (inr (inl (pfn, (slot, lt, is, at, named)))))) =
      lone _ (512 * pfn + slot) (causes.NoFrame pfn slot) (λ h. let (n, says, none) = unknown_is s.names (s.says pfn slot) h in nameless pfn slot n lt says none) k c (is, at, named)
  row_line k c (inr (inr (inr (inr (inl (key, context, at, h)))))) = lone _ (key_rank s.parts key) (causes.GdtEnts key.key1 (gdt_ents context)) (λ p. many_descriptors key context at p.0 p.1) k c h
  row_line k c (inr (inr (inr (inr (inr (inl (key, context, at, (code, (field, lt, is, place, named))))))))) =
      lone _ (32 * key_rank s.parts key + field) (causes.VcpuFrame key.key1 field)
      (λ h. let (uses, other) = and_parts (s.used key.key1 (gdt_ents context) field (field_value context field)) _ h in field_ill key context field at code (omega (arith, lt)) uses (not-true _ other)) k c (is, place, named)
  row_line k c (inr (inr (inr (inr (inr (inr (inl (bytes, fault, at, fails, place, named)))))))) = lone ((maps.get s.parts context_key ≡ Some bytes) × (scan bytes ≡ Err fault)) 0 (causes.BadContext fault) (λ p. bad_context bytes fault p.0 p.1) k c ((at, fails), place, named)
  row_line k c (inr (inr (inr (inr (inr (inr (inr h))))))) = absurd h

  line_row : (k : ℕ) (c : Unsound) → IsWrong s k c → Rows k c
  line_row _ _ (no_context hvm none) = inl (inl ((hvm, none), refl, refl))
  line_row _ _ (no_p2m pv none) = inl (inr (inl ((pv, none), refl, refl)))
  line_row _ _ (no_shared pv none) = inl (inr (inr (inl ((pv, none), refl, refl))))
  line_row _ _ (no_vcpu pv none) = inl (inr (inr (inr ((pv, none), refl, refl))))
  line_row _ _ (other_type k pfn at other) = inr (inl (placed k pfn at (or_left _ (list_any (again k pfn) (range_with_len 0 k)) (is_other (s.types pfn) other))))
  line_row _ _ (listed_twice j k pfn slot less before at lt some) = inr (inl (twice_placed j k pfn slot less before at lt some))
  line_row _ _ (large pfn slot lt says) = inr (inr (inl (pfn, (slot, lt, ap is_superpage says, refl, refl))))
  line_row _ _ (nameless pfn slot n lt says none) = inr (inr (inr (inl (pfn, (slot, lt, ap (is_unknown s.names) says ∙ ap is_none none, refl, refl)))))
  line_row _ _ (many_descriptors key context at code many) = inr (inr (inr (inr (inl (key, context, at, ((code, many), refl, refl))))))
  line_row _ _ (field_ill key context field at code le uses other) =
      inr (inr (inr (inr (inr (inl (key, context, at, (code, (field, omega (arith, le), and_from _ _ uses (ap not other), refl, refl))))))))
  line_row _ _ (bad_context bytes fault at fails) = inr (inr (inr (inr (inr (inr (inl (bytes, fault, at, fails, refl, refl)))))))

  -- what is so of each missing part is so of the first row
  missed : {X : Type 0} (f : Unsound → X) (x : X) → ((code : ℕ) → f (causes.Missing code) ≡ x) → (k : ℕ) (c : Unsound) → Misses k c → f c ≡ x
  missed f x so k c (inl h) = ap f h.2 ∙ so _
  missed f x so k c (inr (inl h)) = ap f h.2 ∙ so _
  missed f x so k c (inr (inr (inl h))) = ap f h.2 ∙ so _
  missed f x so k c (inr (inr (inr h))) = ap f h.2 ∙ so _

  -- whatever finds superpages and entries without a name, the first of all rows is the first of all lines
  module _ (f g : Option Unsound) (of_large : Found Large f) (of_nameless : Found Nameless g) where
    all_rows : Found Rows (first_cause (row_1 s ∷ row_2 s ∷ f ∷ g ∷ row_5 s ∷ row_6 s ∷ row_7 s ∷ []))
    all_rows =
        (firsts.row_then number_of_unsound 1 2 Misses _ _ _ (omega arith) (missed number_of_unsound 1 (λ code. refl)) row_1_named
        (firsts.row_then number_of_unsound 2 3 IllListed _ _ _ (omega arith) (λ k c h. ap number_of_unsound h.4) row_2_named
        (firsts.row_then number_of_unsound 3 4 Large _ _ _ (omega arith) (λ k c h. ap number_of_unsound h.1.4) of_large
        (firsts.row_then number_of_unsound 4 5 Nameless _ _ _ (omega arith) (λ k c h. ap number_of_unsound h.1.4) of_nameless
        (firsts.row_then number_of_unsound 5 6 Many _ _ _ (omega arith) (λ k c h. ap number_of_unsound h.3.2) row_5_named
        (firsts.row_then number_of_unsound 6 7 Ill _ _ _ (omega arith) (λ k c h. ap number_of_unsound h.3.1.4) row_6_named
        (firsts.row_then number_of_unsound 7 8 Breaks _ _ _ (omega arith) (λ k c h. ap number_of_unsound h.5) row_7_named (firsts.no_rows number_of_unsound 8)))))))).least

    pub rows_name : NamesFirstRow s (first_cause (row_1 s ∷ row_2 s ∷ f ∷ g ∷ row_5 s ∷ row_6 s ∷ row_7 s ∷ []))
    rows_name = firsts.turned number_of_unsound Rows (IsWrong s) _ all_rows row_line line_row

  -- looked for below a width
  pub first_row_named : (width : ℕ) → IsWide width s → NamesFirstRow s (first_row width s)
  first_row_named width wide =
      rows_name (row_3 width s) (row_4 width s)
      (said_named is_superpage (λ pfn slot. causes.Superpage pfn slot) 3 (λ pfn slot. refl) refl width s.says wide)
      (said_named (is_unknown s.names) (λ pfn slot. causes.NoFrame pfn slot) 4 (λ pfn slot. refl) refl width s.says wide)

  -- of the rows that are left at the end of a stream
  abbrev pub Left : ℕ → Unsound → Type 0
  Left k c = (is_left_at_end c ≡ true) × IsWrong s k c

  abbrev LeftRows : ℕ → Unsound → Type 0
  LeftRows = Either Misses (Either IllListed (Either Nameless (Either Ill (λ k c. ⊥))))

  left_line : (k : ℕ) (c : Unsound) → LeftRows k c → Left k c
  left_line k c (inl h) = (missed is_left_at_end true (λ code. refl) k c h, row_line k c (inl h))
  left_line k c (inr (inl h)) = (ap is_left_at_end h.4, row_line k c (inr (inl h)))
  left_line k c (inr (inr (inl h))) = (ap is_left_at_end h.1.4, row_line k c (inr (inr (inr (inl h)))))
  left_line k c (inr (inr (inr (inl h)))) = (ap is_left_at_end h.3.1.4, row_line k c (inr (inr (inr (inr (inr (inl h)))))))
  left_line k c (inr (inr (inr (inr h)))) = absurd h

  -- a row of the others isn't left
  not_left : (c d : Unsound) → is_left_at_end c ≡ true → c ≡ d → is_left_at_end d ≡ false → ⊥
  not_left c d left same isnt = false≢true (sym isnt ∙ ap is_left_at_end (sym same) ∙ left)

  line_left_by : (k : ℕ) (c : Unsound) → is_left_at_end c ≡ true → Rows k c → LeftRows k c
  line_left_by k c left (inl h) = inl h
  line_left_by k c left (inr (inl h)) = inr (inl h)
  line_left_by k c left (inr (inr (inl h))) = absurd (not_left c _ left h.1.4 refl)
  line_left_by k c left (inr (inr (inr (inl h)))) = inr (inr (inl h))
  line_left_by k c left (inr (inr (inr (inr (inl h))))) = absurd (not_left c _ left h.3.2 refl)
  line_left_by k c left (inr (inr (inr (inr (inr (inl h)))))) = inr (inr (inr (inl h)))
  line_left_by k c left (inr (inr (inr (inr (inr (inr (inl h))))))) = absurd (not_left c _ left h.5 refl)
  line_left_by k c left (inr (inr (inr (inr (inr (inr (inr h))))))) = absurd h

  pub left_named : (g : Option Unsound) → Found Nameless g → Found Left (first_cause (row_1 s ∷ row_2 s ∷ g ∷ row_6 s ∷ []))
  left_named g of_nameless =
      firsts.turned number_of_unsound LeftRows Left _
      (firsts.row_then number_of_unsound 1 2 Misses _ _ _ (omega arith) (missed number_of_unsound 1 (λ code. refl)) row_1_named
      (firsts.row_then number_of_unsound 2 4 IllListed _ _ _ (omega arith) (λ k c h. ap number_of_unsound h.4) row_2_named
      (firsts.row_then number_of_unsound 4 6 Nameless _ _ _ (omega arith) (λ k c h. ap number_of_unsound h.1.4) of_nameless
      (firsts.row_then number_of_unsound 6 7 Ill _ _ _ (omega arith) (λ k c h. ap number_of_unsound h.3.1.4) row_6_named (firsts.no_rows number_of_unsound 7))))).least
      left_line (λ k c h. line_left_by k c h.0 (line_row k c h.1))
