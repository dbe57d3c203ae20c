use Rattle.mig_tool.proofs.Common.{refl, sym, sink_effect, HasStreamRefusal, AcceptedStream, beside, ok_line, Verified, HasFront, HasWalkRefusal, walked_line, AddressReported, FrameInStream, StreamHasFrame}
use Rattle.mig_tool.proofs.Reporting.{as_it_comes, of_same_file}
use Rattle.mig_tool.proofs.carry.carry_out_file.Goals as goal

pub returns-in-Normalise : goal.returns-in-Normalise
returns-in-Normalise g c = of_same_file _ _ _ _ (sym c.in-Normalise.is) c.normalise_file.ensures

pub returns-in-Convert : goal.returns-in-Convert
returns-in-Convert g c = of_same_file _ _ _ _ (sym c.in-Convert.is) c.convert_file.ensures

pub returns-in-Restore : goal.returns-in-Restore
returns-in-Restore g c = of_same_file _ _ _ _ (sym c.in-Restore.is) c.restore_file.ensures

pub returns-in-Verify : goal.returns-in-Verify
returns-in-Verify g c =
    of_same_file _ _ _ _ (sym c.in-Verify.is)
    (beside ok_line (HasFront AcceptedStream) HasStreamRefusal Verified
    _ (sink_effect g.K.Sink.written g.K.Sink.faults c.args.out.now c.args.out.now) _ _ (record { untouched = refl; quiet = refl }) c.verify_file.ensures)

pub returns-in-Walk : goal.returns-in-Walk
returns-in-Walk g c =
    of_same_file _ _ _ _ (sym c.in-Walk.is)
    (beside walked_line (HasFront (StreamHasFrame c.in-Walk.vcpu c.in-Walk.address)) (HasWalkRefusal c.in-Walk.vcpu c.in-Walk.address) (λ Reported input left. AddressReported (FrameInStream c.in-Walk.vcpu c.in-Walk.address input left) Reported)
    _ (sink_effect g.K.Sink.written g.K.Sink.faults c.args.out.now c.args.out.now) _ _ (record { untouched = refl; quiet = refl }) c.walk_file.ensures)

pub returns-in_default : goal.returns-in_default
returns-in_default g c = as_it_comes c.args.command _ _ c.carry_out.ensures
