use Rattle.mig_image.proofs.Common.{sym, subst, ap, ◌+◌, HaveRoom}
use Rattle.mig_image.proofs.HostedFrames.{are_localised, localised_image, machines_localised}
use Rattle.mig_records_pages.specs.Copied.{Copies}
use Rattle.mig_image.proofs.hosted.write_localised.Goals as goal

pub write_counted-requires : goal.write_counted-requires
write_counted-requires g c = record { room = subst HaveRoom (sym c.parts.ensures) c.requires.room }

pub returns-clause-bytes : goal.returns-clause-bytes
returns-clause-bytes g c = λ meant map is told pv fits same.
    let fs = g.F.FrameSequence.frames_from c.args.frames.now 0 in
    subst (λ text. Copies text (g.K.Sink.written c.args.sink.now) (g.K.Sink.written c.write_counted.new.sink) c.write_counted.result)
    (sym (localised_image meant c.args.guest.now c.args.base map fs is same pv _ _ (ap (λ n. n + 1) c.top-width.ensures) c.parts.ensures))
    (c.write_counted.ensures.bytes told (are_localised meant c.args.guest.now c.args.base map fs is same fits) (machines_localised meant c.args.guest.now c.args.base map fs is same fits))
