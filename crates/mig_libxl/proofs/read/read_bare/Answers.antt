use Rattle.mig_libxl.proofs.Common.{◌++◌, sym, ◌∙◌, Passes, mapped, stopped, bare_at, Bare, image_behind, refused}
use Rattle.mig_bytes.specs.Answers.{stop_of}
use Rattle.mig_libxl.proofs.Forms.{bare_is, bare_refused}
use Rattle.mig_libxl.proofs.read.read_bare.Goals as goal

pub returns-in-Some-clause-read : goal.returns-in-Some-clause-read
returns-in-Some-clause-read g c =
    refused _ _ (λ rest. bare_at (c.args.first.now ++ rest)) _ (bare_refused c.args.first.now c.told-first c.in-Some.cause (sym c.marker_fault.ensures.fault ∙ c.in-Some.is))

pub returns-in-Ok-clause-read : goal.returns-in-Ok-clause-read
returns-in-Ok-clause-read g c =
    mapped _ _ _ _ image_behind (λ rest. bare_at (c.args.first.now ++ rest)) Bare c.in-Ok.kept c.in-Ok.kept (bare_is c.args.first.now c.told-first (sym c.marker_fault.ensures.fault ∙ c.in_default.is)) c.in-Ok.ensures.read
    (λ image is. is)

pub returns-in-Err-clause-read : goal.returns-in-Err-clause-read
returns-in-Err-clause-read g c =
    stopped _ _ _ _ image_behind (λ rest. bare_at (c.args.first.now ++ rest)) (λ image. Passes (Bare image.0) image.1) (stop_of c.in-Err.answer) _ (bare_is c.args.first.now c.told-first (sym c.marker_fault.ensures.fault ∙ c.in_default.is)) c.stop_for.ensures c.in-Err.ensures.read
