use Rattle.mig_image.proofs.Common.{sym, subst, HaveRoom}
use Rattle.mig_image.proofs.Parts.{parts_of_guest}
use Rattle.mig_image.proofs.HostedFrames.{are_frames, hosted_image, machines_fit}
use Rattle.mig_records_pages.specs.Copied.{Copies}
use Rattle.mig_image.proofs.hosted.write_hosted.Goals as goal

pub write_counted-requires : goal.write_counted-requires
write_counted-requires g c = record { room = subst HaveRoom (sym c.parts.ensures) (parts_of_guest c.args.guest.now c.requires.kind c.requires.formed) }

pub returns-clause-bytes : goal.returns-clause-bytes
returns-clause-bytes g c = λ map is told fits.
    let fs = g.F.FrameSequence.frames_from c.args.frames.now 0 in
    let guest = record c.args.guest.now { frames = map } in
    subst (λ text. Copies text (g.K.Sink.written c.args.sink.now) (g.K.Sink.written c.write_counted.new.sink) c.write_counted.result)
    (sym (hosted_image guest c.args.base fs c.width_for-width.result _ c.requires.kind is c.width_for-width.ensures c.parts.ensures))
    (c.write_counted.ensures.bytes told (are_frames guest c.args.base fs is fits) (machines_fit guest c.args.base fs is fits))
