use Rattle.mig_tool_guest.proofs.Common.{Appends, AppendsPart}
use Rattle.mig_tool_guest.proofs.BlankTexts.{blanked_copied}
use Rattle.mig_tool_guest.proofs.blanked.write_blanked.Goals as goal

pub returns-in-Ok-clause-done : goal.returns-in-Ok-clause-done
returns-in-Ok-clause-done g c = λ done. blanked_copied g.P.PageFile.bytes c.args.placed.now.outline _ _ _ _ _ _ _ (Appends (g.K.Sink.written c.args.out.now) (g.K.Sink.written c.write_any_with.new.sink)) c.new-frames.ensures.file c.new-frames.ensures.outline c.new-frames.ensures.marks c.new-frames.ensures.places c.in-Ok.ensures.bytes

pub returns-in-Err-Write-clause-part : goal.returns-in-Err-Write-clause-part
returns-in-Err-Write-clause-part g c = λ failed. blanked_copied g.P.PageFile.bytes c.args.placed.now.outline _ _ _ _ _ _ _ (AppendsPart (g.K.Sink.written c.args.out.now) (g.K.Sink.written c.write_any_with.new.sink)) c.new-frames.ensures.file c.new-frames.ensures.outline c.new-frames.ensures.marks c.new-frames.ensures.places c.in-Err-Write.ensures.bytes

pub returns-in-Err-Read-clause-part : goal.returns-in-Err-Read-clause-part
returns-in-Err-Read-clause-part g c = λ failed. blanked_copied g.P.PageFile.bytes c.args.placed.now.outline _ _ _ _ _ _ _ (AppendsPart (g.K.Sink.written c.args.out.now) (g.K.Sink.written c.write_any_with.new.sink)) c.new-frames.ensures.file c.new-frames.ensures.outline c.new-frames.ensures.marks c.new-frames.ensures.places c.in-Err-Read.ensures.bytes
