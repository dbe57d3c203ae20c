-- Whatever its frames of data hold, the host of the exercise can be seen as a guest.
use Rattle.mig_exercise.proofs.Common.{◌≡◌, ◌≢◌, ℕ, ◌+◌, ◌-◌, ◌*◌, ◌/◌, ◌^◌, ◌<◌, ◌≤◌, true, false, cond, not, nat_lt, List, length, Some, None, is_some, refl, sym, ap, subst, ◌∙◌, inl, inr, arith, lit<, cases_eq, cases_lt, ne_eqb, le-ltb, ltb-true, nat_cmp_total, nat_cmp-IsAntisymmetric, option_map, ◌==◌, level_of, PartKey, FrameOf, FrameMap, HostFrame, HostFrames, pfn_in, longs, part_cmp, p2m_key, vcpu_key, shared_key, length_longs, long_of_longs, part_total, part_exact, NamesKnown, each_value, is_used_somewhere, from_each, unsoundness, without_machine, p2m_frame_count, exercise_type, exercise_machine, exercise_page, exercise_frame, frames_up_to, exercise_context, exercise_p2m_list, page_of_zeros, host_with, ArePages, IsExerciseSize, most_gdt_entries, le-leb, cond_some, option_and_then, gdt_ents, IsOneToOne, long_at, insert_holds, listed_in, listed, field_value, frame_of_field, to_each, machine_type, IsSound}
use Rattle.mig_guest.specs.Tables.{EachEntry}
use Rattle.mig_pvtables.specs.Faults.{type_at, fits_field}
use Rattle.mig_pvtables.specs.WholePv.{AreP2mFrames}
use Rattle.mig_host_view.proofs.SoundRows.{sound_is_faultless}
use Rattle.mig_host.proofs.Machines.{pfn_of_machine}
use Rattle.mig_exercise.specs.ExerciseHosts.{exercise_parts}
use Rattle.mig_exercise.proofs.ExerciseEntries.{machine_small, NamesFrames, known_table, no_table, is_table}
use Rattle.mig_exercise.proofs.Frames.{frame_there, frame_none, p2m_there, shared_there, vcpu_there}
use Rattle.std.specs.FinMap as maps

-- ---- numbers

-- no two frames have the same machine frame
same_pfn : (n p q : ℕ) → p < n → q < n → exercise_machine n p ≡ exercise_machine n q → p ≡ q
same_pfn n p q one two same = omega arith

-- the P2M frames are frames of the host
p2m_inside : (n k : ℕ) → 7 < n → k < p2m_frame_count n → 6 + k < n
p2m_inside n k many lt = omega arith

-- a product, divided again
eight_each : (n : ℕ) → 8 * n / 8 ≡ n
eight_each n = omega arith

page_each : (n : ℕ) → n * 4096 / 4096 ≡ n
page_each n = omega arith

-- ---- the vCPU

-- the number at a place of a context, where the list of its numbers says it
number_in : (f : ℕ → ℕ) (place v : ℕ) → place < 646 → f place ≡ v → v < 2 ^ 64 → long_at (longs 646 f) place ≡ v
number_in f place v lt is small = long_of_longs 646 f place lt (subst (λ k. k < 2 ^ 64) (sym is) small) ∙ is

module _ (n : ℕ) where
  -- the GDT has as many descriptors as one frame holds
  gdt_one_page : gdt_ents (exercise_context n) ≡ 512
  gdt_one_page = number_in _ 620 512 (lit< tt) refl (lit< tt)

  -- which frames the fields that are used say
  names_start : n < 65537 → field_value (exercise_context n) 0 ≡ exercise_machine n 0
  names_start few = number_in _ 77 (exercise_machine n 0) (lit< tt) refl (omega (arith, machine_small n 0 few))

  names_gdt : n < 65537 → field_value (exercise_context n) 1 ≡ exercise_machine n 1
  names_gdt few = number_in _ 604 (exercise_machine n 1) (lit< tt) refl (omega (arith, machine_small n 1 few))

  names_root : n < 65537 → field_value (exercise_context n) 17 / 4096 ≡ exercise_machine n 2
  names_root few = ap (λ v. v / 4096) (number_in _ 626 (exercise_machine n 2 * 4096) (lit< tt) refl (omega (arith, machine_small n 2 few))) ∙ page_each (exercise_machine n 2)

  -- ctrlreg[1] is 0
  control_unused : is_used_somewhere 0 (gdt_ents (exercise_context n)) 18 (field_value (exercise_context n) 18) ≡ false
  control_unused = ap (λ v. not (v == 0)) (number_in _ 624 0 (lit< tt) refl (lit< tt))

  -- of the GDT's frames the first alone is used
  gdt_unused : (field v : ℕ) → 1 < field → field ≤ 16 → is_used_somewhere 0 (gdt_ents (exercise_context n)) field v ≡ false
  gdt_unused field v some most =
      ap (λ ents. is_used_somewhere 0 ents field v) gdt_one_page
      ∙ rw (ne_eqb field 18 (λ e. omega (arith, e, most)), ne_eqb field 0 (λ e. omega (arith, e, some)), le-leb field 16 most, le-ltb ((field - 1) * 512) 512 (omega (arith, some))) refl

-- ---- parts

-- a part of code 4 is the context of vCPU 0, and none is an HVM context
abbrev IsOwnPart : ℕ → PartKey → List ℕ → Type 0
IsOwnPart n key bytes = (key.code ≡ 4 → (key.key1 ≡ 0) × (bytes ≡ exercise_context n)) × (key.code ≢ 9)

own_part : (n : ℕ) (key : PartKey) (bytes : List ℕ) → maps.get (exercise_parts n) key ≡ Some bytes → IsOwnPart n key bytes
unfolding exercise_parts
own_part n =
    let none : (key : PartKey) (bytes : List ℕ) → maps.get (maps.empty {R = part_cmp}) key ≡ Some bytes → IsOwnPart n key bytes = λ key bytes got. let no : None ≡ Some bytes = sym (maps.get-empty part_cmp key) ∙ got in cc in
    let p2m = insert_holds part_total part_exact (IsOwnPart n) maps.empty p2m_key (exercise_p2m_list n) none (λ e. absurd (omega (arith, e)), λ e. omega (arith, e)) in
    let shared = insert_holds part_total part_exact (IsOwnPart n) (maps.insert maps.empty p2m_key (exercise_p2m_list n)) shared_key page_of_zeros p2m (λ e. absurd (omega (arith, e)), λ e. omega (arith, e)) in
    insert_holds part_total part_exact (IsOwnPart n) (maps.insert (maps.insert maps.empty p2m_key (exercise_p2m_list n)) shared_key page_of_zeros) (vcpu_key 0) (exercise_context n) shared (λ e. (refl, refl), λ e. omega (arith, e))

-- P2M frame k has PFN 6 + k
listed_at : (n k pfn : ℕ) → n < 65537 → listed (exercise_parts n) k ≡ Some pfn → (k < p2m_frame_count n) × (pfn ≡ 6 + k)
listed_at n k pfn few is =
    let size : length (exercise_p2m_list n) / 8 ≡ p2m_frame_count n = ap (λ l. l / 8) (length_longs (p2m_frame_count n) (λ k. 6 + k)) ∙ eight_each (p2m_frame_count n) in
    let (low, at) = cond_some (nat_lt k (p2m_frame_count n)) (long_at (exercise_p2m_list n) k) pfn (sym (ap (λ m. cond (nat_lt k m) (Some (long_at (exercise_p2m_list n) k)) None) size) ∙ sym (ap (λ o. listed_in o k) (p2m_there n)) ∙ is) in
    let lt = ltb-true k (p2m_frame_count n) low in
    (lt, sym at ∙ long_of_longs (p2m_frame_count n) (λ k. 6 + k) k lt (omega (arith, lt, few)))

-- ---- the host

module _ (n : ℕ) (size : IsExerciseSize n) (contents : ℕ → List ℕ) where
  abbrev frames : HostFrames
  frames = frames_up_to n contents n

  abbrev seen : FrameMap
  seen = each_value (λ pfn f. without_machine f) frames

  -- a frame that is found is that of its PFN
  frame_is : (pfn : ℕ) (f : HostFrame) → maps.get frames pfn ≡ Some f → (pfn < n) × (exercise_frame n contents pfn ≡ f)
  frame_is pfn f is = elim (cases_lt pfn n) [
    | inl lt ↦ let both : Some (exercise_frame n contents pfn) ≡ Some f = sym (frame_there n contents n pfn lt) ∙ is in (lt, cc)
    | inr le ↦ let no : None ≡ Some f = sym (frame_none n contents n pfn le) ∙ is in cc
  ]

  one_to_one : IsOneToOne frames
  one_to_one p q f g at there same =
      let (p_in, p_is) = frame_is p f at in
      let (q_in, q_is) = frame_is q g there in
      same_pfn n p q p_in q_in (ap (λ (f : HostFrame). f.machine) p_is ∙ same ∙ sym (ap (λ (f : HostFrame). f.machine) q_is))

  -- what a machine frame of the host gives, and the types that the guest has
  pfn_found : (pfn : ℕ) → pfn < n → pfn_in frames (exercise_machine n pfn) ≡ Some pfn
  pfn_found pfn lt = pfn_of_machine frames one_to_one pfn (exercise_frame n contents pfn) (frame_there n contents n pfn lt)

  type_seen : (pfn : ℕ) → pfn < n → type_at seen pfn ≡ Some (exercise_type pfn)
  type_seen pfn lt =
      ap (option_map (λ (f : FrameOf). f.type)) (to_each nat_cmp_total nat_cmp-IsAntisymmetric (λ (pfn : ℕ) (f : HostFrame). without_machine f) frames pfn (exercise_frame n contents pfn) (frame_there n contents n pfn lt))

  -- ---- tables and P2M frames

  entries_known : (pfn : ℕ) (frame : FrameOf) → maps.get seen pfn ≡ Some frame → EachEntry (NamesKnown (pfn_in frames)) frame
  entries_known pfn frame got level page has is =
      let (f, at, same) = from_each nat_cmp_total nat_cmp-IsAntisymmetric (λ (pfn : ℕ) (f : HostFrame). without_machine f) frames pfn frame got in
      let own = ap without_machine (frame_is pfn f at).1 ∙ same in
      let paged : Some (exercise_page n contents pfn) ≡ Some page = ap (λ (f : FrameOf). f.page) own ∙ is in
      let this : exercise_page n contents pfn ≡ page = cc in
      let table = is_table n contents pfn level size.least (ap (λ (f : FrameOf). level_of f.type) own ∙ has) in
      known_table n size.most (pfn_in frames) (λ p lt. ap is_some (pfn_found p lt)) level page (subst (NamesFrames n) this table)

  p2m_frames : AreP2mFrames seen (exercise_parts n)
  p2m_frames = record {
    types = λ k pfn is.
        let (lt, e) = listed_at n k pfn size.most is in
        ap (type_at seen) e ∙ type_seen (6 + k) (p2m_inside n k size.least lt) ∙ ap Some (no_table (6 + k) (omega arith));
    twice = λ j k pfn less one two. absurd (omega (arith, less, (listed_at n j pfn size.most one).1, (listed_at n k pfn size.most two).1));
  }

  -- ---- fields

  abbrev Fits : List ℕ → ℕ → Type 0
  Fits context field = fits_field field (machine_type seen (pfn_in frames) (frame_of_field field (field_value context field))) ≡ true

  -- a field that says the machine frame of a PFN fits where the frame's type does
  fits_as : (field pfn : ℕ) → pfn < n → frame_of_field field (field_value (exercise_context n) field) ≡ exercise_machine n pfn → fits_field field (Some (exercise_type pfn)) ≡ true → Fits (exercise_context n) field
  fits_as field pfn lt says fits =
      ap (λ m. fits_field field (machine_type seen (pfn_in frames) m)) says ∙ ap (λ o. fits_field field (option_and_then (type_at seen) o)) (pfn_found pfn lt)
      ∙ ap (fits_field field) (type_seen pfn lt) ∙ fits

  context_fits : (field : ℕ) → field ≤ 18 → is_used_somewhere 0 (gdt_ents (exercise_context n)) field (field_value (exercise_context n) field) ≡ true → Fits (exercise_context n) field
  context_fits field most used = elim (cases_eq field 0) [
    | inl e ↦ subst (Fits (exercise_context n)) (sym e) (fits_as 0 0 (omega (arith, size.least)) (names_start n size.most) refl)
    | inr some ↦ elim (cases_eq field 1) [
      | inl e ↦ subst (Fits (exercise_context n)) (sym e) (fits_as 1 1 (omega (arith, size.least)) (names_gdt n size.most) refl)
      | inr more ↦ elim (cases_lt field 17) [
        | inl lt ↦ let no : false ≡ true = sym (gdt_unused n field (field_value (exercise_context n) field) (omega (arith, some, more)) (omega (arith, lt))) ∙ used in cc
        | inr ge ↦ elim (cases_eq field 17) [
          | inl e ↦ subst (Fits (exercise_context n)) (sym e) (fits_as 17 2 (omega (arith, size.least)) (names_root n size.most) refl)
          | inr ne ↦
              let last : field ≡ 18 = omega (arith, ge, ne, most) in
              let no : false ≡ true = sym (control_unused n) ∙ subst (λ f. is_used_somewhere 0 (gdt_ents (exercise_context n)) f (field_value (exercise_context n) f) ≡ true) last used in cc
        ]
      ]
    ]
  ]

  fields_fit : (key : PartKey) (context : List ℕ) → maps.get (exercise_parts n) key ≡ Some context → key.code ≡ 4 → (field : ℕ) → field ≤ 18 → is_used_somewhere key.key1 (gdt_ents context) field (field_value context field) ≡ true → Fits context field
  fields_fit key context is code field most used =
      let (id, bytes) = (own_part n key context is).0 code in
      let own : is_used_somewhere key.key1 (gdt_ents context) field (field_value context field) ≡ is_used_somewhere 0 (gdt_ents (exercise_context n)) field (field_value (exercise_context n) field) =
      λ i. is_used_somewhere (id i) (gdt_ents (bytes i)) field (field_value (bytes i) field) in
      subst (λ c. Fits c field) (sym bytes) (context_fits field most (sym own ∙ used))

  sound : IsSound (host_with n contents)
  sound = record {
    parts = (ap is_some (p2m_there n), (ap is_some (shared_there n), (ap is_some (vcpu_there n), tt)));
    p2m = p2m_frames;
    entries = entries_known;
    gdt = λ key context is code. subst (λ c. gdt_ents c ≤ most_gdt_entries) (sym ((own_part n key context is).0 code).1) (omega (arith, gdt_one_page n));
    fields = fields_fit;
    context = λ bytes is. absurd ((own_part n _ bytes is).1 refl);
  }

-- whatever its frames of data hold, the host of the exercise can be seen as a guest
pub exercise_sound : (n : ℕ) → IsExerciseSize n → (contents : ℕ → List ℕ) → ArePages contents → IsSound (host_with n contents)
exercise_sound n size contents pages = sound n size contents

pub exercise_faultless : (n : ℕ) → IsExerciseSize n → (contents : ℕ → List ℕ) → ArePages contents → unsoundness (host_with n contents) ≡ None
exercise_faultless n size contents pages = (sound_is_faultless (host_with n contents)).0 (exercise_sound n size contents pages)
