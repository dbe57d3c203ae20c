use Rattle.mig_restore.proofs.Common.{sym, subst, rules, AgreesWithJudging, then_reads, stopped, Opening, records_at, IsTaken, IsImageCompared, NotesImage, TakenImage, ◌≡◌}
use Rattle.mig_restore_form.specs.Stream.{opening_behind, image_behind}
use Rattle.mig_restore.proofs.Behind.{behind_opening, behind_is}
use Rattle.mig_restore.proofs.Noted.{image_compared, image_noted, stops}
use Rattle.mig_restore.proofs.Fronts.{front_opening_behind}
use Rattle.mig_restore.proofs.read.take_image_rest.Goals as goal

pub returns-in_err-version-clause-read : goal.returns-in_err-version-clause-read
returns-in_err-version-clause-read g c =
    stopped _ _ _ _ opening_behind image_behind behind_opening c.in_err-version.field-0.0 c.from_residual.result behind_is (search rules) c.in_err-version.ensures.read

pub returns-clause-read : goal.returns-clause-read
returns-clause-read g c =
    then_reads _ _ _ _ _ opening_behind image_behind behind_opening (c.in_ok-version.version, c.in_ok-version.kind) c.take_records.result behind_is c.in_ok-version.ensures.read
    (λ opening is. subst (λ (o : Opening). AgreesWithJudging (IsTaken g.F.KeepsFrames.kept) (g.S.Source.left c.read_headers.new.src) (g.S.Source.left c.take_records.new.src) (records_at o) c.take_records.result) (sym is) c.take_records.ensures.read)

pub returns-in_err-version-clause-noted : goal.returns-in_err-version-clause-noted
returns-in_err-version-clause-noted g c =
    stops _ _ (λ s. s ≡ c.in_err-version.field-0.0) _ _ _ c.from_residual.result (search rules) (returns-in_err-version-clause-read g c)

pub returns-clause-noted : goal.returns-clause-noted
returns-clause-noted g c =
    image_noted g.F.KeepsFrames.notes c.goes_on.ensures.read_on _ c.args.keeper.now c.take_records.new.keeper _ (g.S.Source.left c.read_headers.new.src) _ opening_behind image_behind behind_opening (c.in_ok-version.version, c.in_ok-version.kind) c.take_records.result front_opening_behind behind_is c.in_ok-version.ensures.read
    (λ opening is. subst (λ (o : Opening). AgreesWithJudging (λ _ image. NotesImage g.F.KeepsFrames.notes c.args.keeper.now c.take_records.new.keeper (g.S.Source.left c.read_headers.new.src) (g.S.Source.left c.take_records.new.src) image) (g.S.Source.left c.read_headers.new.src) (g.S.Source.left c.take_records.new.src) (records_at o) c.take_records.result) (sym is) c.take_records.ensures.noted)

pub returns-in_err-version-clause-compared : goal.returns-in_err-version-clause-compared
returns-in_err-version-clause-compared g c =
    stops _ _ (λ s. s ≡ c.in_err-version.field-0.0) _ _ _ c.from_residual.result (search rules) (returns-in_err-version-clause-read g c)

pub returns-clause-compared : goal.returns-clause-compared
returns-clause-compared g c =
    image_compared g.F.KeepsFrames.notes c.goes_on.ensures.read_on g.F.KeepsFrames.compares (λ (t : TakenImage). t.differs) _ c.args.keeper.now _ (g.S.Source.left c.read_headers.new.src) _ opening_behind image_behind behind_opening (c.in_ok-version.version, c.in_ok-version.kind) c.take_records.result front_opening_behind behind_is c.in_ok-version.ensures.read
    (λ opening is. subst (λ (o : Opening). AgreesWithJudging (λ (t : TakenImage) image. IsImageCompared g.F.KeepsFrames.compares g.F.KeepsFrames.notes c.args.keeper.now (g.S.Source.left c.read_headers.new.src) t.differs image) (g.S.Source.left c.read_headers.new.src) (g.S.Source.left c.take_records.new.src) (records_at o) c.take_records.result) (sym is) c.take_records.ensures.compared)
