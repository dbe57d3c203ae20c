use Rattle.mig_tool.proofs.Common.{refl, sym, Effects, effects, input_effect, sink_effect, HasStreamRefusal, HasWalkImageRefusal, HasWalkRefusal, AcceptedStream, beside, ok_line, walked_line, AddressReported, FrameInHost, FrameInStream, HostHasFrame, StreamHasFrame, Verified, HasFront}
use Rattle.mig_tool_save.proofs.ExerciseOutcomes.{exercise_carried}
use Rattle.mig_tool.proofs.Reporting.{of_same}
use Rattle.mig_tool.proofs.carry.carry_out.Goals as goal

pub returns-in-Normalise : goal.returns-in-Normalise
returns-in-Normalise g c = of_same _ _ _ _ (sym c.in-Normalise.is) c.normalise.ensures

pub returns-in-Convert : goal.returns-in-Convert
returns-in-Convert g c = of_same _ _ _ _ (sym c.in-Convert.is) c.convert.ensures

pub returns-in-Restore : goal.returns-in-Restore
returns-in-Restore g c = of_same _ _ _ _ (sym c.in-Restore.is) c.restore.ensures

pub returns-in-Verify : goal.returns-in-Verify
returns-in-Verify g c =
    of_same _ _ _ _ (sym c.in-Verify.is)
    (beside ok_line (HasFront AcceptedStream) HasStreamRefusal Verified
    _ (sink_effect g.K.Sink.written g.K.Sink.faults c.args.out.now c.args.out.now) _ _ (record { untouched = refl; quiet = refl }) c.verify.ensures)

pub returns-in-Save : goal.returns-in-Save
returns-in-Save g c = of_same _ _ _ _ (sym c.in-Save.is) c.save.ensures

pub returns-in-Exercise : goal.returns-in-Exercise
returns-in-Exercise g c =
    let e : Effects = effects (input_effect g.S.Source.left g.S.Source.faults c.args.input.now c.args.input.now) (sink_effect g.K.Sink.written g.K.Sink.faults c.args.out.now c.args.out.now) (sink_effect g.R.Sink.written g.R.Sink.faults c.args.report.now c.exercise_told.new.report) in
    let said = c.exercise_told.ensures in
    of_same _ _ e _ (sym c.in-Exercise.is) (exercise_carried c.in-Exercise.seed c.in-Exercise.frames e refl refl refl refl c.exercise_told.result said.said said.quiet said.rose said.later said.line)

pub returns-in-Walk : goal.returns-in-Walk
returns-in-Walk g c =
    of_same _ _ _ _ (sym c.in-Walk.is)
    (beside walked_line (HasFront (StreamHasFrame c.in-Walk.vcpu c.in-Walk.address)) (HasWalkRefusal c.in-Walk.vcpu c.in-Walk.address) (λ Reported input left. AddressReported (FrameInStream c.in-Walk.vcpu c.in-Walk.address input left) Reported)
    _ (sink_effect g.K.Sink.written g.K.Sink.faults c.args.out.now c.args.out.now) _ _ (record { untouched = refl; quiet = refl }) c.walk.ensures)

pub returns-in-WalkImage : goal.returns-in-WalkImage
returns-in-WalkImage g c =
    of_same _ _ _ _ (sym c.in-WalkImage.is)
    (beside walked_line (HasFront (HostHasFrame c.in-WalkImage.vcpu c.in-WalkImage.address)) (HasWalkImageRefusal c.in-WalkImage.vcpu c.in-WalkImage.address) (λ Reported input left. AddressReported (FrameInHost c.in-WalkImage.vcpu c.in-WalkImage.address input left) Reported)
    _ (sink_effect g.K.Sink.written g.K.Sink.faults c.args.out.now c.args.out.now) _ _ (record { untouched = refl; quiet = refl }) c.walk_image.ensures)

pub returns-in-Relay : goal.returns-in-Relay
returns-in-Relay g c = of_same _ _ _ _ (sym c.in-Relay.is) c.relay.ensures

pub returns-in-Show : goal.returns-in-Show
returns-in-Show g c = of_same _ _ _ _ (sym c.in-Show.is) c.show.ensures
