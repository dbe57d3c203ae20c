use Rattle.mig_legacy.proofs.Common.{◌≡◌, refl, rules, subst, ◌≤◌, ◌>>=◌, placed, Passes, judged_so, mapped, stopped, then_reads, placed_then, placed_ends, placed_fine, Start, Tail, Device, judged_as, start_form, tail_form, device_at, chunks_at, legacy_at, most_frames, stops}
use Rattle.std.specs.FinMap as maps
use Rattle.mig_legacy.proofs.Streams.{stream_of, behind_start, behind_chunks, behind_tail, stream_is, stream_taken}
use Rattle.mig_bytes.proofs.Joins.{any_stop, done}
use Rattle.mig_legacy.proofs.Noted.{before_chunks, behind_chunks_noted, placed_device_splits, start_splits, tail_splits}
use Rattle.mig_legacy.proofs.read.take_parts.Goals as goal

pub returns-in-Err-clause-read : goal.returns-in-Err-clause-read
returns-in-Err-clause-read g c =
    judged_so _ _ _ (λ i. placed Start (judged_as start_form i) >>= behind_start) legacy_at _ stream_is
    (placed_ends _ _ Start (judged_as start_form) behind_start _ _ c.in-Err.stop c.at.result c.at.ensures c.in-Err.ensures.read)

pub returns-in_err-seen-clause-read : goal.returns-in_err-seen-clause-read
returns-in_err-seen-clause-read g c =
    judged_so _ _ _ (λ i. placed Start (judged_as start_form i) >>= behind_start) legacy_at _ stream_is
    (placed_then _ _ Start (judged_as start_form) behind_start _ _ _ _ c.from_residual.result c.in_default.ensures.read
    (λ start _. stopped _ _ _ _ chunks_at (λ i. behind_start (start, i)) behind_chunks c.in_err-seen.field-0.0 c.from_residual.result (λ i. refl) (search rules) c.in_err-seen.ensures.read))

pub take_tail-requires-clause-few : goal.take_tail-requires-clause-few
take_tail-requires-clause-few g c = subst (λ n. n ≤ most_frames) (maps.len-entries c.in_ok-seen.seen.guest.frames) c.in_ok-seen.ensures.few

pub returns-in-Err-take_tail-clause-read : goal.returns-in-Err-take_tail-clause-read
returns-in-Err-take_tail-clause-read g c =
    judged_so _ _ _ (λ i. placed Start (judged_as start_form i) >>= behind_start) legacy_at _ stream_is
    (placed_then _ _ Start (judged_as start_form) behind_start _ _ _ _ _ c.in_default.ensures.read
    (λ start _. then_reads _ _ _ _ _ chunks_at (λ i. behind_start (start, i)) behind_chunks c.in_ok-seen.seen _ (λ i. refl) c.in_ok-seen.ensures.read
    (λ chunks _. placed_ends _ _ Tail (judged_as tail_form) (behind_tail chunks) _ _ c.in-Err-take_tail.stop c.at-in-Err-take_tail.result c.at-in-Err-take_tail.ensures c.in-Err-take_tail.ensures.read)))

pub returns-in-Err-take_device-clause-read : goal.returns-in-Err-take_device-clause-read
returns-in-Err-take_device-clause-read g c =
    judged_so _ _ _ (λ i. placed Start (judged_as start_form i) >>= behind_start) legacy_at _ stream_is
    (placed_then _ _ Start (judged_as start_form) behind_start _ _ _ _ _ c.in_default.ensures.read
    (λ start _. then_reads _ _ _ _ _ chunks_at (λ i. behind_start (start, i)) behind_chunks c.in_ok-seen.seen _ (λ i. refl) c.in_ok-seen.ensures.read
    (λ chunks _. placed_then _ _ Tail (judged_as tail_form) (behind_tail chunks) _ _ _ _ _ c.in_default-take_tail.ensures.read
    (λ tail _. placed_ends _ _ Device device_at (λ device. Passes (stream_of chunks tail device.0) device.1) _ _ c.in-Err-take_device.stop c.at-in-Err-take_device.result c.at-in-Err-take_device.ensures c.in-Err-take_device.ensures.read))))

pub returns-in-Ok-clause-read : goal.returns-in-Ok-clause-read
returns-in-Ok-clause-read g c =
    judged_so _ _ _ (λ i. placed Start (judged_as start_form i) >>= behind_start) legacy_at _ stream_is
    (placed_then _ _ Start (judged_as start_form) behind_start _ _ _ _ _ c.in_default.ensures.read
    (λ start _. then_reads _ _ _ _ _ chunks_at (λ i. behind_start (start, i)) behind_chunks c.in_ok-seen.seen _ (λ i. refl) c.in_ok-seen.ensures.read
    (λ chunks seen. placed_then _ _ Tail (judged_as tail_form) (behind_tail chunks) _ _ _ _ _ c.in_default-take_tail.ensures.read
    (λ tail told. mapped _ _ _ _ (λ i. placed Device (device_at i)) (λ i. behind_tail chunks (tail, i)) (stream_of chunks tail) _ _ (λ i. refl) (placed_fine _ Device _ _ device_at _ c.in-Ok.ensures.read)
    (λ device set. stream_taken g.F.KeepsFrames.kept c.in_ok-seen.seen _ chunks tail device seen told set)))))

pub returns-in-Err-clause-noted : goal.returns-in-Err-clause-noted
returns-in-Err-clause-noted g c = any_stop _ _ _ _ _ _ (returns-in-Err-clause-read g c)

pub returns-in_err-seen-clause-noted : goal.returns-in_err-seen-clause-noted
returns-in_err-seen-clause-noted g c = stops _ _ (λ s. s ≡ c.in_err-seen.field-0.0) _ _ _ c.from_residual.result (search rules) (returns-in_err-seen-clause-read g c)

pub returns-in-Err-take_tail-clause-noted : goal.returns-in-Err-take_tail-clause-noted
returns-in-Err-take_tail-clause-noted g c = any_stop _ _ _ _ _ _ (returns-in-Err-take_tail-clause-read g c)

pub returns-in-Err-take_device-clause-noted : goal.returns-in-Err-take_device-clause-noted
returns-in-Err-take_device-clause-noted g c = any_stop _ _ _ _ _ _ (returns-in-Err-take_device-clause-read g c)

pub returns-in-Ok-clause-noted : goal.returns-in-Ok-clause-noted
returns-in-Ok-clause-noted g c =
    let notes = g.F.KeepsFrames.notes in let read_on = c.goes_on.ensures.read_on in let old = c.args.keeper.now in let new = c.take_chunks.new.keeper in
    let behind_start_left = g.S.Source.left c.take_start.new.src in
    before_chunks notes read_on _ old new _ behind_start_left _ (λ i. placed Start (judged_as start_form i)) legacy_at behind_start (λ s. s.chunks) _ _ start_splits stream_is
    (placed_fine _ Start _ _ (judged_as start_form) _ c.in_default.ensures.read)
    (λ start _. then_reads _ _ _ _ _ chunks_at (λ i. behind_start (start, i)) behind_chunks c.in_ok-seen.seen _ (λ i. refl) c.in_ok-seen.ensures.noted
    (λ chunks noted. behind_chunks_noted notes read_on _ old new behind_start_left _ _ _ chunks (λ i. placed Tail (judged_as tail_form i)) (λ i. behind_chunks (chunks, i)) (behind_tail chunks) _ _ _ tail_splits (λ i. refl) noted
    (placed_fine _ Tail _ _ (judged_as tail_form) _ c.in_default-take_tail.ensures.read)
    (λ tail _ noted. behind_chunks_noted notes read_on _ old new behind_start_left _ _ _ chunks (λ i. placed Device (device_at i)) (λ i. behind_tail chunks (tail, i)) (λ device. Passes (stream_of chunks tail device.0) device.1) _ _ _ placed_device_splits (λ i. refl) noted
    (placed_fine _ Device _ _ device_at _ c.in-Ok.ensures.read)
    (λ device _ noted. done _ _ (λ i. Passes (stream_of chunks tail device) i) _ (stream_of chunks tail device) (λ i. refl) noted))))
