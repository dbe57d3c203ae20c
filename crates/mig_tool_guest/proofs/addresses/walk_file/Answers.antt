use Rattle.mig_tool_guest.proofs.Common.{FrameInStream, StreamHasFrame, HasWalkRefusal, Effects, effects, input_effect, sink_effect, unreached, untouched_sink, HasFront, failed_in, left_in}
use Rattle.mig_tool_guest.proofs.Walking.{found_carried}
use Rattle.mig_tool_guest.proofs.addresses.walk_file.Goals as goal

pub returns : goal.returns
returns g c =
    let e : Effects = effects (input_effect (left_in g.P.PageFile.bytes) failed_in c.args.input.now c.frame_in_file-found.new.input) unreached (sink_effect g.R.Sink.written g.R.Sink.faults c.args.report.now c.report_found.new.report) in
    found_carried (HasFront (StreamHasFrame c.args.vcpu c.args.address)) (FrameInStream c.args.vcpu c.args.address) (HasWalkRefusal c.args.vcpu c.args.address) e untouched_sink c.frame_in_file-found.result c.report_found.result
    c.frame_in_file-found.ensures.found c.frame_in_file-found.ensures.unfound c.frame_in_file-found.ensures.read c.report_found.ensures.told c.report_found.ensures.quiet c.report_found.ensures.later
