-- The judging of a whole PV guest names the least of the causes that stand in it.
use Rattle.mig_refusals.proofs.Common.{◌≡◌, ◌⊎◌, inl, inr, ℕ, ◌+◌, ◌*◌, ◌<◌, length, true, not, Option, Some, None, refl, sym, ap, subst, ◌∙◌, arith, not-true, and_parts, and_from, option_or, Cause, IsTriedBefore, is_none, nat_cmp_total, nat_cmp-IsAntisymmetric, number_of_cause, Missing, Pv, most_frames, gdt_ents, FrameMap, GuestOf, p2m_key, vcpu_key, shared_key, entry, Entry, Frame, part_exact, part_total, first_cause, is_absent, faults_for, fault_of_guest, field_value, frame_of_field, is_used, fits_field, type_at, PvGuestHas, rank_of, TooManyFrames, no_p2m, no_shared, no_vcpu, other_type, listed_twice, absent, field_misfits, many_frames, is_missing}
use Rattle.std.specs.FinMap as maps
use Rattle.mig_refusals.proofs.Least.{Least, Alone, both_least, turned}
use Rattle.mig_refusals.proofs.Firsts.{InEntries}
use Rattle.mig_refusals.proofs.UsedFields.{used_is, used_at, misfit_is, is_misfit}
use Rattle.mig_refusals.proofs.PvGuests.{missing_least, many_least, AbsentAt, entries_are, MisfitAt, fields_are, P2mAt, p2m_are, misplaced_has, type_placed, twice_placed}

-- ---- causes in a row

abbrev Either : (ℕ → Cause → Type 0) → (ℕ → Cause → Type 0) → ℕ → Cause → Type 0
Either A B k c = A k c ⊎ B k c

-- all of the first are tried before all of the second
abbrev Precedes : (ℕ → Cause → Type 0) → (ℕ → Cause → Type 0) → Type 0
Precedes A B = (j k : ℕ) (c d : Cause) → A j c → B k d → IsTriedBefore j c k d

abbrev Numbered : ℕ → (ℕ → Cause → Type 0) → Type 0
Numbered n A = (k : ℕ) (c : Cause) → A k c → number_of_cause c ≡ n

then_least : (A B : ℕ → Cause → Type 0) (f g : Option Cause) → Precedes A B → Least A f → Least B g → Least (Either A B) (option_or f g)
then_least A B f g before p q = both_least A B (Either A B) f g before (λ k c h. h) (λ k c h. h) p q

last_least : (A : ℕ → Cause → Type 0) (f : Option Cause) → Least A f → Least A (option_or f None)
last_least A None p = p
last_least A (Some c) p = p

before_both : (A B C : ℕ → Cause → Type 0) → Precedes A B → Precedes A C → Precedes A (Either B C)
before_both A B C first second j k c d a (inl b) = first j k c d a b
before_both A B C first second j k c d a (inr b) = second j k c d a b

by_number : (n m : ℕ) (A B : ℕ → Cause → Type 0) → Numbered n A → Numbered m B → n < m → Precedes A B
by_number n m A B first second less j k c d a b = inl (omega (arith, first j c a, second k d b, less))

-- parts that are missing are tried by their places
by_place : (P Q : Type 0) (i n : ℕ) (a b : ℕ) → i < n → Precedes (Alone P i (Missing a)) (Alone Q n (Missing b))
by_place P Q i n a b less j k c d first second = inr (ap number_of_cause first.2 ∙ sym (ap number_of_cause second.2), omega (arith, first.1, second.1, less))

-- ---- the whole guest

names_absent : (frames : FrameMap) (e : Entry) → is_absent frames e ≡ true → (n : ℕ) × (e ≡ Frame n) × (maps.get frames n ≡ None)
names_absent frames (Frame n) h = (n, refl, is_missing (maps.get frames n) h)
names_absent frames _ h = cc

module _ (g : GuestOf) where
  abbrev NoP2m : ℕ → Cause → Type 0
  NoP2m = Alone (maps.get g.parts p2m_key ≡ None) 0 (Missing 3)

  abbrev NoShared : ℕ → Cause → Type 0
  NoShared = Alone (maps.get g.parts shared_key ≡ None) 1 (Missing 7)

  abbrev NoVcpu : ℕ → Cause → Type 0
  NoVcpu = Alone (maps.get g.parts (vcpu_key 0) ≡ None) 2 (Missing 4)

  abbrev Absent : ℕ → Cause → Type 0
  Absent = InEntries nat_cmp_total nat_cmp-IsAntisymmetric (AbsentAt g.frames) g.frames

  abbrev Misfit : ℕ → Cause → Type 0
  Misfit = InEntries part_total part_exact (MisfitAt g.frames g.parts) g.parts

  abbrev Many : ℕ → Cause → Type 0
  Many = Alone (most_frames < length (maps.entries g.frames)) 0 TooManyFrames

  -- the causes that are tried, in their order
  abbrev Causes : ℕ → Cause → Type 0
  Causes = Either NoP2m (Either NoShared (Either NoVcpu (Either (P2mAt g) (Either Absent (Either Misfit Many)))))

  p2m_number : Numbered 28 (P2mAt g)
  p2m_number k c h = ap number_of_cause h.4

  absent_number : Numbered 29 Absent
  absent_number k c (pfn, frame, at, (l, p, level, page, (slot, lt, is, place, named))) = ap number_of_cause named

  misfit_number : Numbered 30 Misfit
  misfit_number k c (key, context, at, (code, (field, lt, is, place, named))) = ap number_of_cause named

  many_number : Numbered 32 Many
  many_number k c h = ap number_of_cause h.2

  -- a part that is missing is tried before all but other parts
  missing_before : (P : Type 0) (i n : ℕ) → Precedes (Alone P i (Missing n)) (Either (P2mAt g) (Either Absent (Either Misfit Many)))
  missing_before P i n =
      let number : Numbered 27 (Alone P i (Missing n)) = λ k c h. ap number_of_cause h.2 in
      before_both _ _ _ (by_number 27 28 _ _ number p2m_number (omega arith))
      (before_both _ _ _ (by_number 27 29 _ _ number absent_number (omega arith)) (before_both _ _ _ (by_number 27 30 _ _ number misfit_number (omega arith)) (by_number 27 32 _ _ number many_number (omega arith))))

  all_least : Least Causes (first_cause (faults_for Pv g))
  all_least =
      then_least NoP2m _ _ _ (before_both _ _ _ (by_place _ _ 0 1 3 7 (omega arith)) (before_both _ _ _ (by_place _ _ 0 2 3 4 (omega arith)) (missing_before _ 0 3))) (missing_least g.parts p2m_key 0)
      (then_least NoShared _ _ _ (before_both _ _ _ (by_place _ _ 1 2 7 4 (omega arith)) (missing_before _ 1 7)) (missing_least g.parts shared_key 1)
      (then_least NoVcpu _ _ _ (missing_before _ 2 4) (missing_least g.parts (vcpu_key 0) 2)
      (then_least (P2mAt g) _ _ _ (before_both _ _ _ (by_number 28 29 _ _ p2m_number absent_number (omega arith)) (before_both _ _ _ (by_number 28 30 _ _ p2m_number misfit_number (omega arith)) (by_number 28 32 _ _ p2m_number many_number (omega arith)))) (p2m_are g)
      (then_least Absent _ _ _ (before_both _ _ _ (by_number 29 30 _ _ absent_number misfit_number (omega arith)) (by_number 29 32 _ _ absent_number many_number (omega arith))) (entries_are g.frames)
      (then_least Misfit Many _ _ (by_number 30 32 _ _ misfit_number many_number (omega arith)) (fields_are g.frames g.parts)
      (last_least Many _ (many_least g.frames)))))))

  alone : (P : Type 0) (place : ℕ) (cause : Cause) → (P → PvGuestHas g place cause) → (k : ℕ) (c : Cause) → Alone P place cause k c → PvGuestHas g k c
  alone P place cause go k c (holds, at, is) = subst (λ i. PvGuestHas g i c) (sym at) (subst (PvGuestHas g place) (sym is) (go holds))

  absent_has : (k : ℕ) (c : Cause) → Absent k c → PvGuestHas g k c
  absent_has k c (pfn, frame, at, (l, p, level, page, (slot, lt, is, place, named))) =
      let (n, says, none) = names_absent g.frames (entry l p slot) is in
      subst (λ i. PvGuestHas g i c) (sym place) (subst (PvGuestHas g (512 * pfn + slot)) (sym named) (absent pfn slot l n frame p at level page lt says none))

  misfit_has : (k : ℕ) (c : Cause) → Misfit k c → PvGuestHas g k c
  misfit_has k c (key, context, at, (code, (field, lt, is, place, named))) =
      let (used, other) = and_parts (is_used key.key1 (gdt_ents context) field (field_value context field)) _ is in
      let frame = frame_of_field field (field_value context field) in
      subst (λ i. PvGuestHas g i c) (sym place) (subst (PvGuestHas g (32 * rank_of g.parts key + field)) (sym named)
      (field_misfits key field frame context at code (used_is key.key1 context field (omega (arith, lt)) used)
      (misfit_is field (type_at g.frames frame) (not-true _ other))))

  p2m_has : (k : ℕ) (c : Cause) → P2mAt g k c → PvGuestHas g k c
  p2m_has k c (i, lt, is, place, named) = subst (λ j. PvGuestHas g j c) (sym place) (subst (PvGuestHas g i) (sym named) (misplaced_has g i _ refl is))

  all_has : (k : ℕ) (c : Cause) → Causes k c → PvGuestHas g k c
  all_has k c (inl h) = alone _ 0 (Missing 3) (λ none. no_p2m none) k c h
  all_has k c (inr (inl h)) = alone _ 1 (Missing 7) (λ none. no_shared none) k c h
  all_has k c (inr (inr (inl h))) = alone _ 2 (Missing 4) (λ none. no_vcpu none) k c h
  all_has k c (inr (inr (inr (inl h)))) = p2m_has k c h
  all_has k c (inr (inr (inr (inr (inl h))))) = absent_has k c h
  all_has k c (inr (inr (inr (inr (inr (inl h)))))) = misfit_has k c h
  all_has k c (inr (inr (inr (inr (inr (inr h)))))) = alone _ 0 TooManyFrames (λ many. many_frames many) k c h

  has_all : (k : ℕ) (c : Cause) → PvGuestHas g k c → Causes k c
  has_all _ _ (no_p2m none) = inl (none, refl, refl)
  has_all _ _ (no_shared none) = inr (inl (none, refl, refl))
  has_all _ _ (no_vcpu none) = inr (inr (inl (none, refl, refl)))
  has_all _ _ (other_type k pfn at other) = inr (inr (inr (inl (type_placed g k pfn at other))))
  has_all _ _ (listed_twice j k pfn slot less before at lt some) = inr (inr (inr (inl (twice_placed g j k pfn slot less before at lt some))))
  has_all _ _ (absent pfn slot level n frame page at is has lt says none) =
      inr (inr (inr (inr (inl (pfn, frame, at, (level, page, is, has, (slot, lt, ap (is_absent g.frames) says ∙ ap is_none none, refl, refl)))))))
  has_all _ _ (field_misfits key field frame context at code uses other) =
      let taken = used_at key.key1 context field frame uses in
      let misfit = ap (λ f. not (fits_field field (type_at g.frames f))) taken.frame_is ∙ ap not (is_misfit field (type_at g.frames frame) other) in
      inr (inr (inr (inr (inr (inl (key, context, at, (code, (field, omega (arith, taken.most), and_from _ _ taken.used misfit, refl, refl))))))))
  has_all _ _ (many_frames many) = inr (inr (inr (inr (inr (inr (many, refl, refl))))))

  -- of the causes that stand in a whole PV guest the least is named
  pub pv_guest_least : g.kind ≡ Pv → Least (PvGuestHas g) (fault_of_guest g)
  pv_guest_least pv = subst (Least (PvGuestHas g)) (sym (ap (λ k. first_cause (faults_for k g)) pv)) (turned Causes (PvGuestHas g) (first_cause (faults_for Pv g)) all_least all_has has_all)
