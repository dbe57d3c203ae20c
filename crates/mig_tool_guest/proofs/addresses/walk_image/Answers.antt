use Rattle.mig_tool_guest.proofs.Common.{FrameInHost, HostHasFrame, HasWalkImageRefusal, Effects, effects, input_effect, sink_effect, unreached, untouched_sink, HasFront}
use Rattle.mig_tool_guest.proofs.Walking.{found_carried}
use Rattle.mig_tool_guest.proofs.addresses.walk_image.Goals as goal

pub returns : goal.returns
returns g c =
    let e : Effects = effects (input_effect g.S.Source.left g.S.Source.faults c.args.input.now c.frame_in_image-found.new.input) unreached (sink_effect g.R.Sink.written g.R.Sink.faults c.args.report.now c.report_found.new.report) in
    found_carried (HasFront (HostHasFrame c.args.vcpu c.args.address)) (FrameInHost c.args.vcpu c.args.address) (HasWalkImageRefusal c.args.vcpu c.args.address) e untouched_sink c.frame_in_image-found.result c.report_found.result
    c.frame_in_image-found.ensures.found c.frame_in_image-found.ensures.unfound c.frame_in_image-found.ensures.read c.report_found.ensures.told c.report_found.ensures.quiet c.report_found.ensures.later
