use Rattle.mig_libxl.proofs.Common.{refl, rules, ◌>>=◌, placed, Passes, judged_so, mapped, stopped, LibxlHeader, header_at, Wrapped, placed_then, placed_ends, wrapped_at, behind_header, libxl_records_at}
use Rattle.mig_libxl.proofs.Forms.{wrapped_is}
use Rattle.mig_libxl.proofs.read.read_wrapped.Goals as goal

pub returns-in-Err-clause-read : goal.returns-in-Err-clause-read
returns-in-Err-clause-read g c =
    judged_so _ _ _ (λ i. placed LibxlHeader (header_at i) >>= behind_header) wrapped_at _ wrapped_is
    (placed_ends _ _ LibxlHeader header_at behind_header _ _ c.in-Err.stop c.at.result c.at.ensures c.in-Err.ensures.read)

pub returns-in_err-seen-clause-read : goal.returns-in_err-seen-clause-read
returns-in_err-seen-clause-read g c =
    judged_so _ _ _ (λ i. placed LibxlHeader (header_at i) >>= behind_header) wrapped_at _ wrapped_is
    (placed_then _ _ LibxlHeader header_at behind_header _ _ _ _ c.from_residual.result c.in_default.ensures.read
    (λ header _. stopped _ _ _ _ libxl_records_at (λ i. behind_header (header, i)) (λ records. Passes (Wrapped records.0) records.1) c.in_err-seen.field-0.0 c.from_residual.result (λ i. refl) (search rules) c.in_err-seen.ensures.read))

pub returns-in-Ok-clause-read : goal.returns-in-Ok-clause-read
returns-in-Ok-clause-read g c =
    judged_so _ _ _ (λ i. placed LibxlHeader (header_at i) >>= behind_header) wrapped_at _ wrapped_is
    (placed_then _ _ LibxlHeader header_at behind_header _ _ _ _ _ c.in_default.ensures.read
    (λ header _. mapped _ _ _ _ libxl_records_at (λ i. behind_header (header, i)) Wrapped c.in_ok-seen.seen c.in-Ok.kept (λ i. refl) c.in_ok-seen.ensures.read (λ records seen. c.in-Ok.ensures.read records seen)))
