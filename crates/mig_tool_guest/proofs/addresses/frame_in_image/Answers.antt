use Rattle.mig_tool_guest.proofs.Walking.{host_frame, host_unfound, host_quiet}
use Rattle.mig_tool_guest.proofs.addresses.frame_in_image.Goals as goal

pub returns-in-Ok-clause-found : goal.returns-in-Ok-clause-found
returns-in-Ok-clause-found g c = host_frame c.args.vcpu c.args.address _ _ c.in-Ok.host c.frame_there.result c.in-Ok.ensures.read c.frame_there.ensures.sound c.frame_there.ensures.frame c.frame_there.ensures.none

pub returns-in-Ok-clause-unfound : goal.returns-in-Ok-clause-unfound
returns-in-Ok-clause-unfound g c = host_unfound c.in-Ok.host.host c.args.vcpu c.args.address c.frame_there.result c.frame_there.ensures.none

pub returns-in-Ok-clause-read : goal.returns-in-Ok-clause-read
returns-in-Ok-clause-read g c = host_quiet c.in-Ok.host.host c.args.vcpu c.args.address c.frame_there.result _ _ c.frame_there.ensures.none c.in-Ok.ensures.faults
