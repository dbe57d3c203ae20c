use Rattle.mig_records_pages.proofs.Common.{◌≤◌, ◌^◌, ℕ, List, Err, refl, ap, subst, length, arith, AppendsPart, spelled, Frame, body_of}
use Rattle.mig_records_pages.specs.Told.{told_held}
use Rattle.mig_records_pages.proofs.Copying.{kept_cause}
use Rattle.mig_records_pages.proofs.Joins.{batch_joins}
use Rattle.mig_records_pages.proofs.Places.{all_taken, frames_held}
use Rattle.mig_records_pages.proofs.pages.write_batch.Goals as goal

pub returns-in-Err-clause-joins : goal.returns-in-Err-clause-joins
returns-in-Err-clause-joins g c =
    let xs = c.args.entries.now in let all = all_taken xs (length xs) refl in
    let short : length (body_of (frames_held xs)) ≤ 2 ^ 27 = omega (arith, ap (λ (l : List Frame). length (body_of l)) all, c.in-Err.ensures.short, c.requires.most) in
    batch_joins {X = Unit {0}} (told_held xs) _ _ (Err record {}) short (subst (λ (l : List Frame). AppendsPart (g.K.Sink.written c.args.sink.now) (g.K.Sink.written c.write_page_data.new.sink) (spelled 1 (body_of l))) all (c.in-Err.ensures.bytes refl))

pub returns-in-Err-clause-bytes : goal.returns-in-Err-clause-bytes
returns-in-Err-clause-bytes g c =
    let xs = c.args.entries.now in
    subst (λ (l : List Frame). AppendsPart (g.K.Sink.written c.args.sink.now) (g.K.Sink.written c.write_page_data.new.sink) (spelled 1 (body_of l))) (all_taken xs (length xs) refl) (c.in-Err.ensures.bytes refl)

pub returns-in-Err-clause-cause : goal.returns-in-Err-clause-cause
returns-in-Err-clause-cause g c = kept_cause ℕ (Unit {0}) _ _ c.in-Err.field-0 c.in-Err.ensures.cause
