-- The causes that stand in a whole PV guest.
use Rattle.mig_refusals.proofs.Common.{◌≡◌, ◌⊎◌, inl, inr, ℕ, ◌+◌, ◌*◌, ◌<◌, List, length, Bool, true, false, cond, not, nat_lt, is_none, is_some, Option, Some, None, refl, sym, ap, subst, ◌∙◌, arith, ltb-true, lt-ltb, false≢true, eqb-true, eq-eqb, and_parts, and_from, or_cases, or_left, or_right, Cause, ◌==◌, ◌&&◌, ◌||◌, IsSome, find, nat_cmp_total, ranked, nat_cmp-IsAntisymmetric, list_any, range_with_len, option_map, Less, number_of_cause, Missing, P2mFrame, TargetAbsent, VcpuFrame, most_frames, level_of, Notab, FrameOf, FrameMap, GuestOf, p2m_key, PartMap, entry, PartKey, part_exact, part_total, field_numbers, is_notab, is_needed, is_this, is_misplaced, find_p2m, find_slot, find_entry, is_absent, misfits, find_field, count_in, listed, counted, PvGuestHas, rank_of, TooManyFrames, type_at, other_type, listed_twice, has_needed, is_missing, is_other, needed, notab_is, passes_some, same_pfn, some_passes}
use Rattle.mig_guest.proofs.KeyedMaps.{is_some-mapped}
use Rattle.mig_host_laws.specs.Standing.{in_stream}
use Rattle.std.specs.FinMap as maps
use Rattle.mig_refusals.proofs.Least.{Least, Alone, alone_least, turned}
use Rattle.mig_host_laws.proofs.KeyRanks.{rank_lt}
use Rattle.mig_host_laws.proofs.NamedFirst.{told_first, told_twice}
use Rattle.mig_refusals.proofs.Firsts.{Sought, sought_least, slot_least, field_least, InEntries, Rises, entries_least}

-- ---- causes that stand at one place

pub missing_least : (parts : PartMap) (key : PartKey) (place : ℕ) → Least (Alone (maps.get parts key ≡ None) place (Missing key.code)) (cond (is_none (maps.get parts key)) (Some (Missing key.code)) None)
missing_least parts key place = alone_least _ place (Missing key.code) (is_none (maps.get parts key)) (is_missing (maps.get parts key)) (λ h. ap is_none h)

pub many_least : (frames : FrameMap) → Least (Alone (most_frames < length (maps.entries frames)) 0 TooManyFrames) (cond (nat_lt most_frames (length (maps.entries frames))) (Some TooManyFrames) None)
many_least frames = alone_least _ 0 TooManyFrames (nat_lt most_frames (length (maps.entries frames))) (λ h. ltb-true _ _ h) (λ h. lt-ltb _ _ h)

-- ---- entries of tables

module _ (frames : FrameMap) where
  -- a slot of a table of this level, and of this number, that names a frame that isn't there
  abbrev pub AbsentIn : ℕ → Option ℕ → Option (List ℕ) → ℕ → Cause → Type 0
  AbsentIn pfn level page k c = (l : ℕ) × (p : List ℕ) × (level ≡ Some l) × (page ≡ Some p) × Sought (λ slot. is_absent frames (entry l p slot)) (λ slot. 512 * pfn + slot) (λ slot. TargetAbsent pfn slot) 512 k c

  abbrev pub AbsentAt : ℕ × FrameOf → ℕ → Cause → Type 0
  AbsentAt e = AbsentIn e.0 (level_of e.1.type) e.1.page

  absent_in : (pfn : ℕ) (level : Option ℕ) (page : Option (List ℕ)) → Least (AbsentIn pfn level page) (option_map (λ slot. TargetAbsent pfn slot) (find_slot (is_absent frames) level page))
  absent_in pfn (Some l) (Some p) =
      turned _ (AbsentIn pfn (Some l) (Some p)) _ (slot_least (λ slot. is_absent frames (entry l p slot)) (λ slot. 512 * pfn + slot) (λ slot. TargetAbsent pfn slot) (λ i j. refl) (λ i j less. omega (arith, less)))
      (λ k c h. (l, p, refl, refl, h)) from
    where
      from : (k : ℕ) (c : Cause) → AbsentIn pfn (Some l) (Some p) k c → Sought (λ slot. is_absent frames (entry l p slot)) (λ slot. 512 * pfn + slot) (λ slot. TargetAbsent pfn slot) 512 k c
      from k c (m, q, level, page, (slot, lt, is, at, named)) =
          let same : m ≡ l = cc in let alike : q ≡ p = cc in
          (slot, lt, (λ i. is_absent frames (entry (sym same i) (sym alike i) slot)) ∙ is, at, named)
  absent_in pfn (Some l) None = record { holds = λ k c h. let no : None ≡ Some h.1 = h.3 in cc }
  absent_in pfn None page = record { holds = λ k c h. let no : None ≡ Some h.0 = h.2 in cc }

  frames_rise : Rises nat_cmp_total nat_cmp-IsAntisymmetric AbsentAt frames
  frames_rise q r v w at there before j k c d (_, _, _, _, (s, few, _, is, named)) (_, _, _, _, (t, less, _, also, other)) =
      inr (ap number_of_cause named ∙ sym (ap number_of_cause other), omega (arith, is, also, few, ranked q r Less (sym before)))

  pub entries_are : Least (InEntries nat_cmp_total nat_cmp-IsAntisymmetric AbsentAt frames) (option_map (λ at. TargetAbsent at.0 at.1) (find_entry (is_absent frames) frames))
  entries_are =
      let seen = λ (e : ℕ × FrameOf). option_map (λ (at : ℕ × ℕ). TargetAbsent at.0 at.1) (option_map (λ (slot : ℕ). (e.0, slot)) (find_slot (is_absent frames) (level_of e.1.type) e.1.page)) in
      subst (Least (InEntries nat_cmp_total nat_cmp-IsAntisymmetric AbsentAt frames))
      (sym (told_first (λ (at : ℕ × ℕ). TargetAbsent at.0 at.1) (λ (e : ℕ × FrameOf). option_map (λ (slot : ℕ). (e.0, slot)) (find_slot (is_absent frames) (level_of e.1.type) e.1.page)) (maps.entries frames)))
      (entries_least nat_cmp_total nat_cmp-IsAntisymmetric AbsentAt frames frames_rise seen (λ pfn x is.
      subst (Least (AbsentAt (pfn, x))) (sym (told_twice (λ (at : ℕ × ℕ). TargetAbsent at.0 at.1) (λ (slot : ℕ). (pfn, slot)) (find_slot (is_absent frames) (level_of x.type) x.page))) (absent_in pfn (level_of x.type) x.page)))

-- ---- fields of vCPUs

module _ (frames : FrameMap) (parts : PartMap) where
  -- a field of a context of this key that says no frame of its type
  abbrev pub MisfitAt : PartKey × List ℕ → ℕ → Cause → Type 0
  MisfitAt e k c = (e.0.code ≡ 4) × Sought (misfits frames e.0.key1 e.1) (λ field. 32 * rank_of parts e.0 + field) (λ field. VcpuFrame e.0.key1 field) 19 k c

  abbrev look : PartKey × List ℕ → Option (ℕ × ℕ)
  look e = cond (e.0.code == 4) (option_map (λ (field : ℕ). (e.0.key1, field)) (find (misfits frames e.0.key1 e.1) field_numbers)) None

  abbrev field_cause : ℕ × ℕ → Cause
  field_cause at = VcpuFrame at.0 at.1

  misfit_in : (key : PartKey) (context : List ℕ) (b : Bool) → (key.code == 4) ≡ b
      → Least (MisfitAt (key, context)) (option_map field_cause (cond b (option_map (λ (field : ℕ). (key.key1, field)) (find (misfits frames key.key1 context) field_numbers)) None))
  misfit_in key context true is =
      subst (Least (MisfitAt (key, context))) (sym (told_twice field_cause (λ (field : ℕ). (key.key1, field)) (find (misfits frames key.key1 context) field_numbers)))
      (turned _ (MisfitAt (key, context)) _
      (field_least (misfits frames key.key1 context) (λ field. 32 * rank_of parts key + field) (λ field. VcpuFrame key.key1 field) (λ i j. refl) (λ i j less. omega (arith, less)))
      (λ k c h. (eqb-true key.code 4 is, h)) (λ k c h. h.1))
  misfit_in key context false is = record { holds = λ k c h. false≢true (sym is ∙ eq-eqb key.code 4 h.0) }

  parts_rise : Rises part_total part_exact MisfitAt parts
  parts_rise q r v w at there before j k c d (code, (s, few, _, is, named)) (number, (t, less, _, also, other)) =
      inr (ap number_of_cause named ∙ sym (ap number_of_cause other), omega (arith, is, also, few, rank_lt part_total part_exact q r before (maps.entries parts) v (sym (maps.get-entries parts q) ∙ at)))

  pub fields_are : Least (InEntries part_total part_exact MisfitAt parts) (option_map field_cause (find_field frames parts))
  fields_are =
      subst (Least (InEntries part_total part_exact MisfitAt parts)) (sym (told_first field_cause look (maps.entries parts)))
      (entries_least part_total part_exact MisfitAt parts parts_rise (λ e. option_map field_cause (look e)) (λ key context is. misfit_in key context (key.code == 4) refl))

-- ---- P2M frames

-- a PFN of the range of P2M frame k has a type where it has a frame
typed : (g : GuestOf) (k slot : ℕ) → is_some (type_at g.frames (512 * k + slot)) ≡ is_some (maps.get g.frames (512 * k + slot))
typed g k slot = is_some-mapped (λ (f : FrameOf). f.type) (maps.get g.frames (512 * k + slot))

module _ (g : GuestOf) where
  abbrev pub P2mAt : ℕ → Cause → Type 0
  P2mAt = Sought (λ k. is_misplaced (type_at g.frames) (maps.get g.parts p2m_key) k (listed g.parts k)) (λ k. k) (λ k. P2mFrame k) (count_in (maps.get g.parts p2m_key))

  pub p2m_are : Least P2mAt (option_map (λ k. P2mFrame k) (find_p2m g.frames g.parts))
  p2m_are = sought_least (λ k. is_misplaced (type_at g.frames) (maps.get g.parts p2m_key) k (listed g.parts k)) (λ k. k) (λ k. P2mFrame k) (λ i j. refl) (λ i j less. less) (count_in (maps.get g.parts p2m_key))

  -- what is listed at j is this PFN, and one of the ranges of j and k is needed
  abbrev again : ℕ → ℕ → ℕ → Bool
  again k pfn j = is_this pfn (listed g.parts j) && (is_needed (type_at g.frames) j || is_needed (type_at g.frames) k)

  pub misplaced_has : (k : ℕ) (o : Option ℕ) → listed g.parts k ≡ o → is_misplaced (type_at g.frames) (maps.get g.parts p2m_key) k o ≡ true → PvGuestHas g k (P2mFrame k)
  misplaced_has k None at h = cc
  misplaced_has k (Some pfn) at h = elim (or_cases (not (is_notab (type_at g.frames pfn))) (list_any (again k pfn) (range_with_len 0 k)) h) [
    | inl other ↦ other_type k pfn at (notab_is (type_at g.frames pfn) other)
    | inr twice ↦ let (j, _, less, is) = some_passes (again k pfn) 0 k twice in
        let both = and_parts (is_this pfn (listed g.parts j)) (is_needed (type_at g.frames) j || is_needed (type_at g.frames) k) is in
        let before = same_pfn pfn (listed g.parts j) both.0 in
        elim (or_cases (is_needed (type_at g.frames) j) (is_needed (type_at g.frames) k) both.1) [
          | inl h ↦ let (slot, lt, is) = needed (in_stream g) j h in listed_twice j k pfn slot (omega (arith, less)) before at lt (inl (sym (typed g j slot) ∙ is))
          | inr h ↦ let (slot, lt, is) = needed (in_stream g) k h in listed_twice j k pfn slot (omega (arith, less)) before at lt (inr (sym (typed g k slot) ∙ is))
        ]
  ]

  -- an index at which the test is passed
  placed : (k pfn : ℕ) → listed g.parts k ≡ Some pfn → is_misplaced (type_at g.frames) (maps.get g.parts p2m_key) k (Some pfn) ≡ true → P2mAt k (P2mFrame k)
  placed k pfn at h = (k, counted (maps.get g.parts p2m_key) k pfn at, ap (is_misplaced (type_at g.frames) (maps.get g.parts p2m_key) k) at ∙ h, refl, refl)

  pub twice_placed : (j k pfn slot : ℕ) → j < k → listed g.parts j ≡ Some pfn → listed g.parts k ≡ Some pfn
      → slot < 512 → IsSome (maps.get g.frames (512 * j + slot)) ⊎ IsSome (maps.get g.frames (512 * k + slot)) → P2mAt k (P2mFrame k)
  twice_placed j k pfn slot less before at lt some =
      placed k pfn at (or_right (not (is_notab (type_at g.frames pfn))) _ (passes_some (again k pfn) k j less (and_from _ _ (ap (is_this pfn) before ∙ eq-eqb pfn pfn refl) (elim some [
        | inl is ↦ or_left _ (is_needed (type_at g.frames) k) (has_needed (in_stream g) j slot lt (typed g j slot ∙ is))
        | inr is ↦ or_right (is_needed (type_at g.frames) j) _ (has_needed (in_stream g) k slot lt (typed g k slot ∙ is))
      ]))))

  pub type_placed : (k pfn : ℕ) → listed g.parts k ≡ Some pfn → (type_at g.frames pfn ≡ Some Notab → ⊥) → P2mAt k (P2mFrame k)
  type_placed k pfn at other = placed k pfn at (or_left _ (list_any (again k pfn) (range_with_len 0 k)) (is_other (type_at g.frames pfn) other))
