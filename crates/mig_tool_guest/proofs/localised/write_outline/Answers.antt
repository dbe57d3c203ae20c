use Rattle.mig_tool_guest.proofs.Common.{Appends, AppendsPart}
use Rattle.mig_tool_guest.proofs.LocalTexts.{there_copied}
use Rattle.mig_tool_guest.proofs.localised.write_outline.Goals as goal

pub returns-in-Ok-clause-done : goal.returns-in-Ok-clause-done
returns-in-Ok-clause-done g c = λ done. there_copied g.P.PageFile.bytes c.args.placed.now.outline _ c.args.base _ _ _ _ (Appends (g.K.Sink.written c.args.out.now) (g.K.Sink.written c.write_localised.new.sink)) c.new-frames.ensures.file c.new-frames.ensures.outline c.new-frames.ensures.places c.in-Ok.ensures.bytes

pub returns-in-Err-Write-clause-part : goal.returns-in-Err-Write-clause-part
returns-in-Err-Write-clause-part g c = λ failed. there_copied g.P.PageFile.bytes c.args.placed.now.outline _ c.args.base _ _ _ _ (AppendsPart (g.K.Sink.written c.args.out.now) (g.K.Sink.written c.write_localised.new.sink)) c.new-frames.ensures.file c.new-frames.ensures.outline c.new-frames.ensures.places c.in-Err-Write.ensures.bytes

pub returns-in-Err-Read-clause-part : goal.returns-in-Err-Read-clause-part
returns-in-Err-Read-clause-part g c = λ failed. there_copied g.P.PageFile.bytes c.args.placed.now.outline _ c.args.base _ _ _ _ (AppendsPart (g.K.Sink.written c.args.out.now) (g.K.Sink.written c.write_localised.new.sink)) c.new-frames.ensures.file c.new-frames.ensures.outline c.new-frames.ensures.places c.in-Err-Read.ensures.bytes
