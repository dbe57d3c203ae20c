-- The rows of faults find nothing in a PV guest exactly where what they look for isn't there.
use Rattle.mig_pvtables.proofs.Common.{◌≡◌, ℕ, ◌+◌, ◌*◌, ◌<◌, ◌≤◌, Bool, true, false, cond, not, List, length, Option, Some, None, is_some, IsSome, refl, sym, ap, ◌∙◌, arith, ◌↔◌, find, ◌&&◌, ◌||◌, range_with_len, option_map, nat_cmp_total, nat_cmp-IsAntisymmetric, eqb-true, eq-eqb, ltb-true, or_parts, or_from, Missing, Pv, PageType, level_of, PartKey, Entry, Frame, gdt_ents, FrameOf, FrameMap, GuestOf, PartMap, p2m_key, vcpu_key, shared_key, entry, EachEntry, part_total, part_exact, field_value, is_used, frame_of_field, count_in, listed_in, listed, first_cause, type_at, is_notab, is_needed, is_this, is_misplaced, find_p2m, find_slot, find_entry, is_absent, fits_field, faults_for, fault_of_guest, IsWhole, cond_some, Notab, Usage, IsEmptyRange, AreP2mFrames, IsCompletePv, misses, cond-true, cond_both, IsWholePv}
use Rattle.mig_pvtables.specs.Faults.{find_field, slots, field_numbers, find_in_contexts}
use Rattle.std.proofs.Common.{◌==◌}
use Rattle.std.specs.Prelude.{is_none}
use Rattle.mig_pvtables.proofs.Searches.{none_of, any_in_range, find_in_range, first_found, all_none, none_mapped, is_there, are_few}
use Rattle.std.specs.FinMap as maps

-- ---- entries

module _ (bad : Entry → Bool) (frames : FrameMap) where
  no_slot : (level : Option ℕ) (page : Option (List ℕ)) → (find_slot bad level page ≡ None) ↔ ((l : ℕ) (p : List ℕ) → level ≡ Some l → page ≡ Some p → (slot : ℕ) → slot < 512 → bad (entry l p slot) ≡ false)
  unfolding slots
  no_slot None page = (λ is l p lev has slot lt. cc, λ good. refl)
  no_slot (Some l) None = (λ is l' p lev has slot lt. cc, λ good. refl)
  no_slot (Some l) (Some p) = (
    λ is l' p' lev has slot lt.
        let level : l ≡ l' = cc in let page : p ≡ p' = cc in
        (λ i. bad (entry (sym level i) (sym page i) slot)) ∙ (find_in_range (λ slot. bad (entry l p slot)) 512).0 is slot lt,
    λ good. (find_in_range (λ slot. bad (entry l p slot)) 512).1 (λ slot lt. good l p refl refl slot lt),
  )

  pub no_entry : (find_entry bad frames ≡ None) ↔ ((pfn : ℕ) (frame : FrameOf) → maps.get frames pfn ≡ Some frame → EachEntry (λ e. bad e ≡ false) frame)
  no_entry =
      let search = first_found nat_cmp_total nat_cmp-IsAntisymmetric (λ (e : ℕ × FrameOf). option_map (λ (slot : ℕ). (e.0, slot)) (find_slot bad (level_of e.1.type) e.1.page)) frames in (
        (λ none pfn x is. (no_slot (level_of x.type) x.page).0 ((none_mapped (λ (slot : ℕ). (pfn, slot)) (find_slot bad (level_of x.type) x.page)).0 (search.0 none pfn x is))),
        (λ good. search.1 (λ pfn x is. (none_mapped (λ (slot : ℕ). (pfn, slot)) (find_slot bad (level_of x.type) x.page)).1 ((no_slot (level_of x.type) x.page).1 (good pfn x is)))),
      )

pub some_is : {X : Type 0} (o : Option X) → (is_none o ≡ false) ↔ IsSome o
some_is None = (λ is. cc, λ has. cc)
some_is (Some x) = (λ is. refl, λ has. refl)

not_absent : (frames : FrameMap) (e : Entry) → (is_absent frames e ≡ false) ↔ ((n : ℕ) → e ≡ Frame n → IsSome (maps.get frames n))
not_absent frames (Frame m) = (
  λ is n e. let same : m ≡ n = cc in ap (λ k. is_some (maps.get frames k)) (sym same) ∙ (some_is (maps.get frames m)).0 is,
  λ there. (some_is (maps.get frames m)).1 (there m refl),
)
not_absent frames _ = (λ is n e. cc, λ there. refl)

-- ---- fields of contexts

not_both : (a b : Bool) → ((a && not b) ≡ false) ↔ (a ≡ true → b ≡ true)
not_both false b = (λ is h. cc, λ go. refl)
not_both true true = (λ is h. refl, λ go. refl)
not_both true false = (λ is h. cc, λ go. let no : false ≡ true = go refl in cc)

-- no field of a context passes a test
module _ (bad : ℕ → List ℕ → ℕ → Bool) (parts : PartMap) where
  abbrev look : PartKey × List ℕ → Option (ℕ × ℕ)
  look e = cond (e.0.code == 4) (option_map (λ (field : ℕ). (e.0.key1, field)) (find (bad e.0.key1 e.1) field_numbers)) None

  none_in_context : (key : PartKey) (context : List ℕ) → (look (key, context) ≡ None) ↔ (key.code ≡ 4 → (field : ℕ) → field ≤ 18 → bad key.key1 context field ≡ false)
  unfolding field_numbers
  none_in_context key context =
      let found = none_mapped (λ (field : ℕ). (key.key1, field)) (find (bad key.key1 context) (range_with_len 0 19)) in let search = find_in_range (bad key.key1 context) 19 in (
        (λ is code field most. search.0 (found.0 (sym (cond-true (key.code == 4) _ None (eq-eqb key.code 4 code)) ∙ is)) field (omega (arith, most))),
        (λ good. cond_both (key.code == 4) _ None (λ r. r ≡ None) (λ t. found.1 (search.1 (λ field lt. good (eqb-true key.code 4 t) field (omega (arith, lt))))) (λ t. refl)),
      )

  none_in_contexts : (find_in_contexts bad parts ≡ None) ↔ ((key : PartKey) (context : List ℕ) → maps.get parts key ≡ Some context → key.code ≡ 4 → (field : ℕ) → field ≤ 18 → bad key.key1 context field ≡ false)
  none_in_contexts =
      let search = first_found part_total part_exact look parts in (
        (λ none key context is. (none_in_context key context).0 (search.0 none key context is)),
        (λ good. search.1 (λ key context is. (none_in_context key context).1 (good key context is))),
      )

-- fields that are used and say no frame of their type, where type_of gives the type of the frame that is said
module _ (used : Usage) (type_of : ℕ → Option PageType) where
  pub none_misses : (parts : PartMap) → (find_in_contexts (misses used type_of) parts ≡ None) ↔ ((key : PartKey) (context : List ℕ) → maps.get parts key ≡ Some context → key.code ≡ 4
      → (field : ℕ) → field ≤ 18 → used key.key1 (gdt_ents context) field (field_value context field) ≡ true → fits_field field (type_of (frame_of_field field (field_value context field))) ≡ true)
  none_misses parts =
      let search = none_in_contexts (misses used type_of) parts in
      let fits = λ (key : PartKey) (context : List ℕ) (field : ℕ). not_both (used key.key1 (gdt_ents context) field (field_value context field)) (fits_field field (type_of (frame_of_field field (field_value context field)))) in (
        (λ none key context is code field most. (fits key context field).0 (search.0 none key context is code field most)),
        (λ fit. search.1 (λ key context is code field most. (fits key context field).1 (fit key context is code field most))),
      )

-- ---- P2M frames

pub not_needed : (frames : FrameMap) (k : ℕ) → (is_needed (type_at frames) k ≡ false) ↔ IsEmptyRange frames k
unfolding slots
not_needed frames k = let search = any_in_range (λ s. is_some (type_at frames (512 * k + s))) 512 in (
  λ is s lt. (none_mapped (λ (f : FrameOf). f.type) (maps.get frames (512 * k + s))).0 (none_of (type_at frames (512 * k + s)) (search.0 is s lt)),
  λ empty. search.1 (λ s lt. ap (λ (o : Option FrameOf). is_some (option_map (λ (f : FrameOf). f.type) o)) (empty s lt)),
)

pub counted : (o : Option (List ℕ)) (k pfn : ℕ) → listed_in o k ≡ Some pfn → k < count_in o
counted None k pfn is = cc
counted (Some bytes) k pfn is = ltb-true k _ (cond_some _ _ _ is).0

module _ (frames : FrameMap) (parts : PartMap) where
  -- what is listed at j isn't this PFN, or neither range is needed
  not_again : (j k pfn : ℕ) (o : Option ℕ) → ((is_this pfn o && (is_needed (type_at frames) j || is_needed (type_at frames) k)) ≡ false) ↔ (o ≡ Some pfn → IsEmptyRange frames j × IsEmptyRange frames k)
  not_again j k pfn None = (λ is e. cc, λ go. refl)
  not_again j k pfn (Some n) = (
    λ is e.
        let same : n ≡ pfn = cc in let both = or_parts (is_needed (type_at frames) j) (is_needed (type_at frames) k) (sym (ap (λ b. b && (is_needed (type_at frames) j || is_needed (type_at frames) k)) (eq-eqb n pfn same)) ∙ is) in
        ((not_needed frames j).0 both.0, (not_needed frames k).0 both.1),
    λ go. elim (n == pfn) as (λ b. (n == pfn) ≡ b → (b && (is_needed (type_at frames) j || is_needed (type_at frames) k)) ≡ false) [
      | true ↦ λ t. let both = go (ap (λ m. Some m) (eqb-true n pfn t)) in or_from _ _ ((not_needed frames j).1 both.0) ((not_needed frames k).1 both.1)
      | false ↦ λ t. refl
    ] refl,
  )

  notab_only : (o : Option PageType) → not (is_notab o) ≡ false → o ≡ Some Notab
  notab_only (Some Notab) is = refl
  notab_only _ is = cc

  abbrev IsPlaced : ℕ → ℕ → Type 0
  IsPlaced k pfn = (type_at frames pfn ≡ Some Notab) × ((j : ℕ) → j < k → listed parts j ≡ Some pfn → IsEmptyRange frames j × IsEmptyRange frames k)

  is_placed : (k pfn : ℕ) → (is_misplaced (type_at frames) (maps.get parts p2m_key) k (Some pfn) ≡ false) ↔ IsPlaced k pfn
  is_placed k pfn =
      let search = any_in_range (λ j. is_this pfn (listed parts j) && (is_needed (type_at frames) j || is_needed (type_at frames) k)) k in (
        (λ is. let both = or_parts (not (is_notab (type_at frames pfn))) _ is in (notab_only (type_at frames pfn) both.0, λ j lt. (not_again j k pfn (listed parts j)).0 (search.0 both.1 j lt))),
        (λ h. or_from _ _ (ap (λ t. not (is_notab t)) h.0) (search.1 (λ j lt. (not_again j k pfn (listed parts j)).1 (h.1 j lt)))),
      )

  pub no_p2m : (find_p2m frames parts ≡ None) ↔ AreP2mFrames frames parts
  no_p2m =
      let search = find_in_range (λ k. is_misplaced (type_at frames) (maps.get parts p2m_key) k (listed parts k)) (count_in (maps.get parts p2m_key)) in (
        (λ none.
            let placed : (k pfn : ℕ) → listed parts k ≡ Some pfn → IsPlaced k pfn =
            λ k pfn is. (is_placed k pfn).0 (ap (is_misplaced (type_at frames) (maps.get parts p2m_key) k) (sym is) ∙ search.0 none k (counted (maps.get parts p2m_key) k pfn is)) in
            record { types = λ k pfn is. (placed k pfn is).0; twice = λ j k pfn lt one two. (placed k pfn two).1 j lt one }),
        (λ good. search.1 (λ k lt. elim (listed parts k) as (λ o. listed parts k ≡ o → is_misplaced (type_at frames) (maps.get parts p2m_key) k o ≡ false) [
          | None ↦ λ is. refl
          | Some pfn ↦ λ is. (is_placed k pfn).1 (good.types k pfn is, λ j less at. good.twice j k pfn less at is)
        ] refl)),
      )

-- ---- a whole guest

module _ (g : GuestOf) (pv : g.kind ≡ Pv) where
  by_kind : fault_of_guest g ≡ first_cause (faults_for Pv g)
  by_kind = ap (λ k. first_cause (faults_for k g)) pv

  pub pv_complete : fault_of_guest g ≡ None → IsCompletePv g
  pv_complete none =
      let (a, (b, (c, (d, (e, (f, (h, _))))))) = (all_none (faults_for Pv g)).0 (sym by_kind ∙ none) in
      record {
        p2m_there = (is_there (maps.get g.parts p2m_key) (Missing 3)).0 a;
        shared_there = (is_there (maps.get g.parts shared_key) (Missing 7)).0 b;
        vcpu_there = (is_there (maps.get g.parts (vcpu_key 0)) (Missing 4)).0 c;
        p2m = (no_p2m g.frames g.parts).0 ((none_mapped _ (find_p2m g.frames g.parts)).0 d);
        targets = λ pfn x is l p lev has slot lt. (not_absent g.frames (entry l p slot)).0 ((no_entry (is_absent g.frames) g.frames).0 ((none_mapped _ (find_entry (is_absent g.frames) g.frames)).0 e) pfn x is l p lev has slot lt);
        fields = (none_misses is_used (type_at g.frames) g.parts).0 ((none_mapped _ (find_field g.frames g.parts)).0 f);
        few = (are_few (length (maps.entries g.frames))).0 h;
      }

  pub pv_faultless : IsCompletePv g → fault_of_guest g ≡ None
  pv_faultless w =
      let targets = (no_entry (is_absent g.frames) g.frames).1 (λ pfn x is l p lev has slot lt. (not_absent g.frames (entry l p slot)).1 (w.targets pfn x is l p lev has slot lt)) in
      let a = (is_there (maps.get g.parts p2m_key) (Missing 3)).1 w.p2m_there in
      let b = (is_there (maps.get g.parts shared_key) (Missing 7)).1 w.shared_there in
      let c = (is_there (maps.get g.parts (vcpu_key 0)) (Missing 4)).1 w.vcpu_there in
      let d = (none_mapped _ (find_p2m g.frames g.parts)).1 ((no_p2m g.frames g.parts).1 w.p2m) in
      let e = (none_mapped _ (find_entry (is_absent g.frames) g.frames)).1 targets in
      let f = (none_mapped _ (find_field g.frames g.parts)).1 ((none_misses is_used (type_at g.frames) g.parts).1 w.fields) in
      let h = (are_few (length (maps.entries g.frames))).1 w.few in
      by_kind ∙ (all_none (faults_for Pv g)).1 (a, (b, (c, (d, (e, (f, (h, tt)))))))

  pub pv_whole : IsWhole g ↔ IsWholePv g
  pv_whole = (
    λ whole. record { formed = whole.formed; complete = pv_complete whole.faultless },
    λ w. record { formed = w.formed; faultless = pv_faultless w.complete },
  )
