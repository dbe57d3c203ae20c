use Rattle.mig_legacy.proofs.Common.{◌≡◌, rules, subst, sym, ◌<◌, Passes, mapped, stopped, then_reads, judged_as, type_form, content_form, chunk_form, most_chunks, put_chunk_frames, stops, then_noted}
use Rattle.mig_legacy.proofs.Chunked.{chunk_of, behind_kind, begins, goes_behind, seen_more}
use Rattle.mig_legacy.proofs.Noted.{form_front}
use Rattle.mig_legacy.proofs.read.ChunksSeen.take_chunk.Goals as goal

pub returns-in_err-kind-clause-read : goal.returns-in_err-kind-clause-read
returns-in_err-kind-clause-read g c = λ chunks seen.
    stopped _ _ _ _ (judged_as (type_form chunks)) (judged_as (chunk_form chunks)) (behind_kind chunks) c.in_err-kind.field-0.0 c.from_residual.result (begins chunks) (search rules) (c.in_err-kind.ensures.read g.F.KeepsFrames.kept chunks seen)

pub returns-in_err-take_content-clause-read : goal.returns-in_err-take_content-clause-read
returns-in_err-take_content-clause-read g c = λ chunks seen.
    then_reads _ _ _ _ _ (judged_as (type_form chunks)) (judged_as (chunk_form chunks)) (behind_kind chunks) c.in_ok-kind.kind c.from_residual-in_err-take_content.result (begins chunks) (c.in_ok-kind.ensures.read g.F.KeepsFrames.kept chunks seen)
    (λ kind is. stopped _ _ _ _ (judged_as (content_form chunks c.in_ok-kind.kind)) (λ i. behind_kind chunks (kind, i)) (λ content. Passes (chunk_of c.in_ok-kind.kind content.0) content.1) c.in_err-take_content.field-0.0 c.from_residual-in_err-take_content.result
    (goes_behind chunks kind c.in_ok-kind.kind is) (search rules) (c.in_err-take_content.ensures.read chunks seen))

pub count-requires : goal.count-requires
count-requires g c = record { room = subst (λ n. n < most_chunks) (sym c.in_ok-take_content.ensures.chunks) c.in_ok-kind.ensures.room }

pub returns-clause-read : goal.returns-clause-read
returns-clause-read g c = λ chunks seen.
    then_reads _ _ _ _ _ (judged_as (type_form chunks)) (judged_as (chunk_form chunks)) (behind_kind chunks) c.in_ok-kind.kind _ (begins chunks) (c.in_ok-kind.ensures.read g.F.KeepsFrames.kept chunks seen)
    (λ kind is. mapped _ _ _ _ (judged_as (content_form chunks c.in_ok-kind.kind)) (λ i. behind_kind chunks (kind, i)) (chunk_of c.in_ok-kind.kind) _ _
    (goes_behind chunks kind c.in_ok-kind.kind is) (c.in_ok-take_content.ensures.read chunks seen)
    (λ content takes. (seen_more g.F.KeepsFrames.kept g.F.KeepsFrames.put c.goes_on.ensures.entry c.goes_on.ensures.count c.args.self.now c.take_content.new.self c.count.new.self chunks c.in_ok-kind.kind content seen takes (record { guest = c.count.ensures.guest; emulators = c.count.ensures.emulators; chunks = c.count.ensures.chunks; requests = c.count.ensures.requests; buffered = c.count.ensures.buffered }), search rules)))

pub returns-clause-counted : goal.returns-clause-counted
returns-clause-counted g c = search rules

pub returns-in_err-kind-clause-noted : goal.returns-in_err-kind-clause-noted
returns-in_err-kind-clause-noted g c = λ chunks seen. stops _ _ (λ s. s ≡ c.in_err-kind.field-0.0) _ _ _ c.from_residual.result (search rules) (returns-in_err-kind-clause-read g c chunks seen)

pub returns-in_err-take_content-clause-noted : goal.returns-in_err-take_content-clause-noted
returns-in_err-take_content-clause-noted g c = λ chunks seen.
    stops _ _ (λ s. s ≡ c.in_err-take_content.field-0.0) _ _ _ c.from_residual-in_err-take_content.result (search rules) (returns-in_err-take_content-clause-read g c chunks seen)

pub returns-clause-noted : goal.returns-clause-noted
returns-clause-noted g c = λ chunks seen.
    then_noted g.F.KeepsFrames.notes c.goes_on.ensures.read_on _ c.args.keeper.now c.take_content.new.keeper _ (g.S.Source.left c.take_kind.new.src) _ (judged_as (type_form chunks)) (judged_as (chunk_form chunks)) (behind_kind chunks) (λ x. put_chunk_frames x.content) c.in_ok-kind.kind _
    (form_front (type_form chunks)) (begins chunks) (c.in_ok-kind.ensures.read g.F.KeepsFrames.kept chunks seen)
    (λ kind is. mapped _ _ _ _ (judged_as (content_form chunks c.in_ok-kind.kind)) (λ i. behind_kind chunks (kind, i)) (chunk_of c.in_ok-kind.kind) _ _
    (goes_behind chunks kind c.in_ok-kind.kind is) (c.in_ok-take_content.ensures.noted chunks seen) (λ content noted. noted))
