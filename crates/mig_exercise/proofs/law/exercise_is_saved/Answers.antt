use Rattle.mig_exercise.proofs.Common.{length, ap, ◌∙◌, HostOf, unsoundness, view, canon_any}
use Rattle.mig_exercise.proofs.CanonLength.{exercise_canon_length}
use Rattle.mig_exercise.proofs.DataTouched.{few_again}
use Rattle.mig_exercise.proofs.DataWrites.{exercise_stays}
use Rattle.mig_exercise.proofs.SoundExercise.{exercise_faultless}
use Rattle.mig_exercise.proofs.law.exercise_is_saved.Goals as goal

pub returns-clause-sound : goal.returns-clause-sound
returns-clause-sound c = λ seed n calls size.
    let (now, pages, same) = exercise_stays seed n calls size in
    ap (λ (h : HostOf). unsoundness h) same ∙ exercise_faultless n size now pages

pub returns-clause-canon : goal.returns-clause-canon
returns-clause-canon c = λ seed n calls size.
    let (now, pages, same) = exercise_stays seed n calls size in
    ap (λ (h : HostOf). length (canon_any (view h))) same ∙ exercise_canon_length n size now pages

pub returns-clause-entries : goal.returns-clause-entries
returns-clause-entries c = few_again
