use Rattle.mig_restore.proofs.Common.{ℕ, List, refl, sym, subst, rules, Judged, AgreesWithJudging, then_reads, stopped, Cause, Place, Opening, ImageOf, records_at, IsTaken, IsImageCompared, NotesImage, TakenImage, ◌≡◌}
use Rattle.mig_restore_form.specs.Stream.{image_at, opening_at}
use Rattle.mig_restore.proofs.Noted.{image_compared, image_noted, stops}
use Rattle.mig_restore.proofs.Fronts.{front_opening}
use Rattle.mig_restore.proofs.read.take_image.Goals as goal

behind_opening : Opening × List ℕ → Judged (Place × Cause) ImageOf
behind_opening opening = records_at opening.0 opening.1

pub returns-in_err-version-clause-read : goal.returns-in_err-version-clause-read
unfolding image_at behind_opening
returns-in_err-version-clause-read g c =
    stopped _ _ _ _ opening_at image_at behind_opening c.in_err-version.field-0.0 c.from_residual.result (λ i. refl) (search rules) c.in_err-version.ensures.read

pub returns-clause-read : goal.returns-clause-read
unfolding image_at behind_opening
returns-clause-read g c =
    then_reads _ _ _ _ _ opening_at image_at behind_opening (c.in_ok-version.version, c.in_ok-version.kind) c.take_records.result (λ i. refl) c.in_ok-version.ensures.read
    (λ opening is. subst (λ (o : Opening). AgreesWithJudging (IsTaken g.F.KeepsFrames.kept) (g.S.Source.left c.read_opening.new.src) (g.S.Source.left c.take_records.new.src) (records_at o) c.take_records.result) (sym is) c.take_records.ensures.read)

pub returns-in_err-version-clause-noted : goal.returns-in_err-version-clause-noted
returns-in_err-version-clause-noted g c =
    stops _ _ (λ s. s ≡ c.in_err-version.field-0.0) _ _ _ c.from_residual.result (search rules) (returns-in_err-version-clause-read g c)

pub returns-clause-noted : goal.returns-clause-noted
unfolding image_at behind_opening
returns-clause-noted g c =
    image_noted g.F.KeepsFrames.notes c.goes_on.ensures.read_on _ c.args.keeper.now c.take_records.new.keeper _ (g.S.Source.left c.read_opening.new.src) _ opening_at image_at behind_opening (c.in_ok-version.version, c.in_ok-version.kind) c.take_records.result front_opening (λ i. refl) c.in_ok-version.ensures.read
    (λ opening is. subst (λ (o : Opening). AgreesWithJudging (λ _ image. NotesImage g.F.KeepsFrames.notes c.args.keeper.now c.take_records.new.keeper (g.S.Source.left c.read_opening.new.src) (g.S.Source.left c.take_records.new.src) image) (g.S.Source.left c.read_opening.new.src) (g.S.Source.left c.take_records.new.src) (records_at o) c.take_records.result) (sym is) c.take_records.ensures.noted)

pub returns-in_err-version-clause-compared : goal.returns-in_err-version-clause-compared
returns-in_err-version-clause-compared g c =
    stops _ _ (λ s. s ≡ c.in_err-version.field-0.0) _ _ _ c.from_residual.result (search rules) (returns-in_err-version-clause-read g c)

pub returns-clause-compared : goal.returns-clause-compared
unfolding image_at behind_opening
returns-clause-compared g c =
    image_compared g.F.KeepsFrames.notes c.goes_on.ensures.read_on g.F.KeepsFrames.compares (λ (t : TakenImage). t.differs) _ c.args.keeper.now _ (g.S.Source.left c.read_opening.new.src) _ opening_at image_at behind_opening (c.in_ok-version.version, c.in_ok-version.kind) c.take_records.result front_opening (λ i. refl) c.in_ok-version.ensures.read
    (λ opening is. subst (λ (o : Opening). AgreesWithJudging (λ (t : TakenImage) image. IsImageCompared g.F.KeepsFrames.compares g.F.KeepsFrames.notes c.args.keeper.now (g.S.Source.left c.read_opening.new.src) t.differs image) (g.S.Source.left c.read_opening.new.src) (g.S.Source.left c.take_records.new.src) (records_at o) c.take_records.result) (sym is) c.take_records.ensures.compared)
