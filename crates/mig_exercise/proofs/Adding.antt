-- What a frame more asks of the host of the exercise, and what it gives.
use Rattle.mig_exercise.proofs.Common.{◌≡◌, ℕ, zero, suc, ◌+◌, ◌-◌, ◌<◌, ◌≤◌, Bool, true, false, cond, nat_lt, List, length, Some, None, refl, sym, ap, subst, ◌∙◌, inl, inr, arith, min, cases_lt, le-ltb, ne_eqb, ◌==◌, nat_cmp_total, nat_cmp, Pv, Notab, HostOf, HostFrame, insert_len, p2m_page, data_count, exercise_frame, exercise_machine, exercise_machine_of, exercise_page, exercise_type, first_data, table_naming, page_of_zeros, host_begun, most_frames, none-some, L1Tab, L2Tab, L3Tab, L4Pinned, type_has_data, is_type_of, IsHostFrame, put_frame}
use Rattle.mig_pagetypes.specs.declared.page_type.PageType.{PageType}
use Rattle.mig_exercise.specs.ExerciseHosts.{frames_up_to}
use Rattle.mig_exercise.proofs.Frames.{frame_there, frame_none}
use Rattle.std.specs.FinMap as maps

-- ---- types

-- each type of the exercise is one of a PV guest, and has data
type_fine : (a b c d : Bool) → (is_type_of Pv (cond a L4Pinned (cond b L3Tab (cond c L2Tab (cond d L1Tab Notab)))) ≡ true) × (type_has_data (cond a L4Pinned (cond b L3Tab (cond c L2Tab (cond d L1Tab Notab)))) ≡ true)
type_fine true b c d = (refl, refl)
type_fine false true c d = (refl, refl)
type_fine false false true d = (refl, refl)
type_fine false false false true = (refl, refl)
type_fine false false false false = (refl, refl)

-- what is left where four tests fail
fourth_left : {A : Type 0} (a b c d : Bool) (v w x y z : A) → a ≡ false → b ≡ false → c ≡ false → d ≡ false → cond a v (cond b w (cond c x (cond d y z))) ≡ z
fourth_left a b c d v w x y z no_a no_b no_c no_d =
    ap (λ t. cond t v (cond b w (cond c x (cond d y z)))) no_a
    ∙ ap (λ t. cond t w (cond c x (cond d y z))) no_b
    ∙ ap (λ t. cond t x (cond d y z)) no_c
    ∙ ap (λ t. cond t y z) no_d

-- behind the tables, frames have no type of their own
pub data_type : (pfn : ℕ) → 5 < pfn → Notab ≡ exercise_type pfn
data_type pfn lt = sym (fourth_left (pfn == 2) (pfn == 3) (pfn == 4) (pfn == 5) L4Pinned L3Tab L2Tab L1Tab Notab
    (ne_eqb pfn 2 (λ e. omega (arith, e, lt))) (ne_eqb pfn 3 (λ e. omega (arith, e, lt))) (ne_eqb pfn 4 (λ e. omega (arith, e, lt))) (ne_eqb pfn 5 (λ e. omega (arith, e, lt))))

-- ---- pages of data

-- behind the frames in front stand the frames of data
pub data_page : (n : ℕ) (contents : ℕ → List ℕ) (pfn : ℕ) → first_data n ≤ pfn → contents (pfn - first_data n) ≡ exercise_page n contents pfn
data_page n contents pfn le = sym (fourth_left (nat_lt pfn 2) (nat_lt pfn 5) (pfn == 5) (nat_lt pfn (first_data n))
    page_of_zeros (table_naming n 1 (pfn + 1)) (table_naming n (min (data_count n) 512) (first_data n)) (p2m_page (exercise_machine_of n) (pfn - 6)) (contents (pfn - first_data n))
    (le-ltb pfn 2 (omega (arith, le))) (le-ltb pfn 5 (omega (arith, le))) (ne_eqb pfn 5 (λ e. omega (arith, le, e))) (le-ltb pfn (first_data n) le))

-- ---- one frame more

-- no more frames than were put
pub few_frames : (n : ℕ) (contents : ℕ → List ℕ) (m : ℕ) → maps.len (frames_up_to n contents m) ≤ m
unfolding frames_up_to
few_frames n contents zero = omega (arith, maps.len-empty nat_cmp HostFrame)
few_frames n contents (suc m) = omega (arith, insert_len nat_cmp_total (frames_up_to n contents m) m (exercise_frame n contents m), few_frames n contents m)

module _ (n : ℕ) (contents : ℕ → List ℕ) (m : ℕ) (h : HostOf) (begun : h ≡ host_begun n contents m) where
  -- what is asked of the frames that stand: the PFN is free, and they are few
  pub frame_absent : maps.get h.frames m ≡ None
  frame_absent = ap (λ (x : HostOf). maps.get x.frames m) begun ∙ frame_none n contents m m (omega arith)

  pub still_few : m < most_frames → length (maps.entries h.frames) < most_frames
  still_few small = let P : HostOf → Type 0 = λ x. length (maps.entries x.frames) < most_frames in
      subst P (sym begun) (omega (arith, small, few_frames n contents m, maps.len-entries (frames_up_to n contents m)))

  module _ (inside : m < n) (machine : ℕ) (at : machine ≡ exercise_machine n m) where
    -- no other frame has the machine frame
    pub machine_unused : (other : ℕ) (frame : HostFrame) → maps.get h.frames other ≡ Some frame → frame.machine ≡ machine → ⊥
    machine_unused other frame has same = elim (cases_lt other m) [
      | inl lt ↦
          let is : Some (exercise_frame n contents other) ≡ Some frame = sym (frame_there n contents m other lt) ∙ sym (ap (λ (x : HostOf). maps.get x.frames other) begun) ∙ has in
          let frame_is : exercise_frame n contents other ≡ frame = cc in
          omega (arith, ap (λ (f : HostFrame). f.machine) frame_is, same, at, lt, inside)
      | inr ge ↦ none-some frame (sym (frame_none n contents m other ge) ∙ sym (ap (λ (x : HostOf). maps.get x.frames other) begun) ∙ has)
    ]

    module _ (type : PageType) (typed : type ≡ exercise_type m) (page : List ℕ) where
      -- it is a frame of a host
      pub frame_fine : n < 65537 → length page ≡ 4096 → IsHostFrame h.kind h.width m (record { type = type; machine = machine; page = Some page })
      frame_fine small whole =
          let fine = type_fine (m == 2) (m == 3) (m == 4) (m == 5) in
          subst (λ (x : HostOf). IsHostFrame x.kind x.width m (record { type = type; machine = machine; page = Some page })) (sym begun) (record {
            inside = inside;
            type = ap (is_type_of Pv) typed ∙ fine.0;
            some_machine = omega (arith, at);
            machine = omega (arith, at, small);
            in_step = sym (ap type_has_data typed ∙ fine.1);
            whole = λ p is. let same : page ≡ p = cc in ap length (sym same) ∙ whole;
          })

      -- and put, it makes the host with one frame more
      pub frame_added : (new : HostOf) → new ≡ put_frame h m (record { type = type; machine = machine; page = Some page }) → page ≡ exercise_page n contents m → new ≡ host_begun n contents (m + 1)
      unfolding frames_up_to
      frame_added new put paged =
          put ∙ (λ i. put_frame (begun i) m (record { type = typed i; machine = at i; page = Some (paged i) }))
          ∙ ap (host_begun n contents) (let e : suc m ≡ m + 1 = omega arith in e)
