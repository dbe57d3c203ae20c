use Rattle.mig_host.proofs.Common.{arith}
use Rattle.mig_host.proofs.InOrder.{entries_counted}
use Rattle.mig_host.proofs.RestoredHosts.{seen_restored, made_restored}
use Rattle.mig_host.proofs.restore.host_of.Goals as goal

pub of-requires : goal.of-requires
of-requires c =
    let inside = c.is_outside.ensures.no c.if-is_outside.false in
    rw (c.kind-kind.ensures, c.into_frames_and_parts-frames.ensures.frames, c.into_frames_and_parts-frames.ensures.parts)
    (made_restored c.args.guest c.args.base c.in-Ok.machines.machines c.in-Ok.ensures.machines c.localise_guest.new.guest c.localise_guest.ensures c.width_for-width.result (c.width_for-width.ensures c.in-Ok.ensures.width) c.requires.whole
    (inside.0, omega (arith, inside.1, c.frames.ensures.count, entries_counted c.args.guest.frames)))

pub returns-clause-hosted : goal.returns-clause-hosted
returns-clause-hosted c =
    rw (c.of.ensures.host, c.kind-kind.ensures, c.into_frames_and_parts-frames.ensures.frames, c.into_frames_and_parts-frames.ensures.parts)
    (seen_restored c.args.guest c.args.base c.in-Ok.machines.machines c.in-Ok.ensures.machines c.localise_guest.new.guest c.localise_guest.ensures c.width_for-width.result (c.width_for-width.ensures c.in-Ok.ensures.width))
