use Rattle.mig_tool_guest.proofs.Common.{ComesTo, Effects, effects, input_effect, refl, sink_effect, stream_at, subst, unreached, failed_in, left_in, FileSource, IsPlacedStream, restore_file_promise}
use Rattle.mig_tool_guest.proofs.Unread.{unread_comes}
use Rattle.mig_tool_report.specs.declared.outcome.Refusal.TheVariants as refusals
use Rattle.mig_tool_guest.proofs.restoring.restored_file.Goals as goal

pub returns-in-Err-clause-came : goal.returns-in-Err-clause-came
returns-in-Err-clause-came g c =
    let bytes = g.P.PageFile.bytes in
    let from : FileSource _ → Effects = λ s. effects (input_effect (left_in bytes) failed_in s c.place_any.new.src) (sink_effect g.K.Sink.written g.K.Sink.faults c.args.out.now c.args.out.now) unreached in
    subst (λ s. ComesTo (restore_file_promise c.args.base) (from s) c.unread.result) c.again-taken.ensures
    (unread_comes (IsPlacedStream bytes) stream_at refusals.Stream (restore_file_promise c.args.base) (λ _ _ _ _ h. h) (from c.again-taken.result) c.in-Err.answer c.unread.result c.unread.ensures c.in-Err.ensures.read c.in-Err.ensures.faults (record { untouched = refl; quiet = refl }))
