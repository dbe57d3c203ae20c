use Rattle.mig_libxl.proofs.Common.{length, rules, refl, ap, ◌∙◌, padding_len, ◌>>=◌, part, placed, Passes, judged_so, mapped, stopped, Truncated, libxl_head_at, libxl_content_at, stop_at, placed_then, placed_ends, libxl_record_at, behind_content, behind_head, then_reads, placed_fine}
use Rattle.mig_headers.specs.declared.fault.Place.TheVariants.{LibxlRecord as AtRecord}
use Rattle.mig_libxl.proofs.Recorded.{begins, goes_behind, padded, seen_more}
use Rattle.mig_libxl.proofs.read.WrapperSeen.take_record.Goals as goal

pub returns-in-Err-clause-read : goal.returns-in-Err-clause-read
returns-in-Err-clause-read g c = λ records seen.
    judged_so _ _ _ (λ i. placed (AtRecord (length records)) (libxl_head_at records i) >>= behind_head records) (libxl_record_at records) _ (begins records)
    (placed_ends _ _ (AtRecord (length records)) (libxl_head_at records) (behind_head records) _ _ c.in-Err.stop c.at.result (c.at.ensures ∙ ap (λ n. stop_at (AtRecord n) c.in-Err.stop) (c.from.ensures ∙ seen.count)) (c.in-Err.ensures.read records seen))

pub returns-in_err-take_content-clause-read : goal.returns-in_err-take_content-clause-read
returns-in_err-take_content-clause-read g c = λ records seen.
    judged_so _ _ _ (λ i. placed (AtRecord (length records)) (libxl_head_at records i) >>= behind_head records) (libxl_record_at records) _ (begins records)
    (placed_then _ _ (AtRecord (length records)) (libxl_head_at records) (behind_head records) _ _ _ c.in-Ok.head c.from_residual.result (c.in-Ok.ensures.read records seen)
    (λ head is. stopped _ _ _ _ (libxl_content_at records c.in-Ok.head.kind c.in-Ok.head.len) (λ i. behind_head records (head, i)) (behind_content records head) c.in_err-take_content.field-0.0 c.from_residual.result
    (goes_behind records head c.in-Ok.head is) (search rules) (c.in_err-take_content.ensures.read records seen)))

pub returns-in-Err-take_padding-clause-read : goal.returns-in-Err-take_padding-clause-read
returns-in-Err-take_padding-clause-read g c = λ records seen.
    judged_so _ _ _ (λ i. placed (AtRecord (length records)) (libxl_head_at records i) >>= behind_head records) (libxl_record_at records) _ (begins records)
    (placed_then _ _ (AtRecord (length records)) (libxl_head_at records) (behind_head records) _ _ _ c.in-Ok.head _ (c.in-Ok.ensures.read records seen)
    (λ head is. then_reads _ _ _ _ _ (libxl_content_at records c.in-Ok.head.kind c.in-Ok.head.len) (λ i. behind_head records (head, i)) (behind_content records head) _ _
    (goes_behind records head c.in-Ok.head is) (c.in_ok-take_content.ensures.read records seen)
    (λ content _. judged_so _ _ _ (λ i. placed (AtRecord (length records)) (part Truncated (padding_len c.in-Ok.head.len) i) >>= λ padding. Passes (record { type = c.in-Ok.head.kind; content = content }) padding.1) (λ i. behind_content records head (content, i)) _
    (padded records head c.in-Ok.head content is)
    (placed_ends _ _ (AtRecord (length records)) (part Truncated (padding_len c.in-Ok.head.len)) (λ padding. Passes (record { type = c.in-Ok.head.kind; content = content }) padding.1) _ _ c.in-Err-take_padding.stop c.at-in-Err-take_padding.result
    (c.at-in-Err-take_padding.ensures ∙ ap (λ n. stop_at (AtRecord n) c.in-Err-take_padding.stop) (c.from.ensures ∙ seen.count)) c.in-Err-take_padding.ensures.read))))

pub returns-clause-read : goal.returns-clause-read
returns-clause-read g c = λ records seen.
    judged_so _ _ _ (λ i. placed (AtRecord (length records)) (libxl_head_at records i) >>= behind_head records) (libxl_record_at records) _ (begins records)
    (placed_then _ _ (AtRecord (length records)) (libxl_head_at records) (behind_head records) _ _ _ c.in-Ok.head _ (c.in-Ok.ensures.read records seen)
    (λ head is. then_reads _ _ _ _ _ (libxl_content_at records c.in-Ok.head.kind c.in-Ok.head.len) (λ i. behind_head records (head, i)) (behind_content records head) _ _
    (goes_behind records head c.in-Ok.head is) (c.in_ok-take_content.ensures.read records seen)
    (λ content told. mapped _ _ _ _ (λ i. placed (AtRecord (length records)) (part Truncated (padding_len c.in-Ok.head.len) i)) (λ i. behind_content records head (content, i)) (λ _. record { type = c.in-Ok.head.kind; content = content }) _ _
    (padded records head c.in-Ok.head content is) (placed_fine _ (AtRecord (length records)) _ _ (part Truncated (padding_len c.in-Ok.head.len)) _ c.in-Ok-take_padding.ensures.read)
    (λ _ _. (seen_more g.I.KeptImage.is_of c.args.self.now c.take_content.new.self records c.in-Ok.head.kind content seen told, refl)))))
