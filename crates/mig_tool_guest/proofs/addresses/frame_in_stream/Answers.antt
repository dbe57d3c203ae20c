use Rattle.mig_tool_guest.proofs.Common.{in_stream}
use Rattle.mig_tool_guest.proofs.Walking.{stream_frame}
use Rattle.mig_tool_guest.proofs.addresses.frame_in_stream.Goals as goal

pub returns-in-Ok-clause-found : goal.returns-in-Ok-clause-found
returns-in-Ok-clause-found g c =
    let s = in_stream c.in-Ok.reading.guest in
    stream_frame c.args.vcpu c.args.address _ _ c.in-Ok.reading c.told.result c.in-Ok.ensures.read (c.told.ensures.frame s c.args.address c.walk_guest.ensures.walked) (c.told.ensures.none s c.args.address c.walk_guest.ensures.walked)
