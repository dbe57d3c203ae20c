-- What stands in the host of the exercise.
use Rattle.mig_exercise.proofs.Common.{◌≡◌, ◌≢◌, ℕ, zero, suc, ◌<◌, ◌≤◌, List, Some, None, sym, ap, ◌∙◌, inl, inr, arith, cases_eq, p2m_key, vcpu_key, shared_key, exercise_frame, exercise_p2m_list, exercise_context, page_of_zeros, inserted, inserted_other}
use Rattle.mig_guest.proofs.PartSets.{put_there, put_other}
use Rattle.mig_exercise.specs.ExerciseHosts.{frames_up_to, exercise_parts}
use Rattle.std.specs.FinMap as maps

-- ---- frames

pub frame_there : (n : ℕ) (contents : ℕ → List ℕ) (m pfn : ℕ) → pfn < m → maps.get (frames_up_to n contents m) pfn ≡ Some (exercise_frame n contents pfn)
unfolding frames_up_to
frame_there n contents zero pfn lt = absurd (omega (arith, lt))
frame_there n contents (suc m) pfn lt = elim (cases_eq pfn m) [
  | inl e ↦ inserted (frames_up_to n contents m) m pfn (exercise_frame n contents m) e ∙ ap (λ p. Some (exercise_frame n contents p)) (sym e)
  | inr ne ↦ inserted_other (frames_up_to n contents m) m pfn (exercise_frame n contents m) ne ∙ frame_there n contents m pfn (let d : pfn ≢ m = ne in omega (arith, lt))
]

pub frame_none : (n : ℕ) (contents : ℕ → List ℕ) (m pfn : ℕ) → m ≤ pfn → maps.get (frames_up_to n contents m) pfn ≡ None
unfolding frames_up_to
frame_none n contents zero pfn le = maps.get-empty _ pfn
frame_none n contents (suc m) pfn le = inserted_other (frames_up_to n contents m) m pfn (exercise_frame n contents m) (λ e. omega (arith, le, e)) ∙ frame_none n contents m pfn (omega (arith, le))

-- ---- parts

pub p2m_there : (n : ℕ) → maps.get (exercise_parts n) p2m_key ≡ Some (exercise_p2m_list n)
unfolding exercise_parts
p2m_there n =
    put_other (maps.insert (maps.insert maps.empty p2m_key (exercise_p2m_list n)) shared_key page_of_zeros) (vcpu_key 0, exercise_context n) p2m_key (λ e. omega (arith, e))
    ∙ put_other (maps.insert maps.empty p2m_key (exercise_p2m_list n)) (shared_key, page_of_zeros) p2m_key (λ e. omega (arith, e))
    ∙ put_there maps.empty p2m_key (exercise_p2m_list n)

pub shared_there : (n : ℕ) → maps.get (exercise_parts n) shared_key ≡ Some page_of_zeros
unfolding exercise_parts
shared_there n =
    put_other (maps.insert (maps.insert maps.empty p2m_key (exercise_p2m_list n)) shared_key page_of_zeros) (vcpu_key 0, exercise_context n) shared_key (λ e. omega (arith, e))
    ∙ put_there (maps.insert maps.empty p2m_key (exercise_p2m_list n)) shared_key page_of_zeros

pub vcpu_there : (n : ℕ) → maps.get (exercise_parts n) (vcpu_key 0) ≡ Some (exercise_context n)
unfolding exercise_parts
vcpu_there n = put_there (maps.insert (maps.insert maps.empty p2m_key (exercise_p2m_list n)) shared_key page_of_zeros) (vcpu_key 0) (exercise_context n)
