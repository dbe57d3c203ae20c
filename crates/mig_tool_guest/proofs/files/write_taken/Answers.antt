use Rattle.mig_tool_guest.proofs.Common.{AcceptedStream, Effects, HasStreamRefusal, InputRises, List, Option, effects, inr, input_effect, sink_effect, status_of, subst, sym, unreached, ℕ, ◌∙◌, failed_in, left_in}
use Rattle.mig_tool_guest.proofs.Placed.{FindsAll, came_copied, copy_comes, found_stream, part_copied, text_in, told_bytes}
use Rattle.mig_tool_guest.proofs.files.write_taken.Goals as goal

pub returns-in-Hvm-clause-came : goal.returns-in-Hvm-clause-came
returns-in-Hvm-clause-came g c =
    let bytes = g.P.PageFile.bytes in
    let e : Effects = effects (input_effect (left_in bytes) failed_in c.args.input.now c.write_placed.new.input) (sink_effect g.K.Sink.written g.K.Sink.faults c.args.out.now c.write_placed.new.out) unreached in
    let found = subst (λ (l : Option (List ℕ)). FindsAll bytes c.args.placed.now.file.now (text_in c.args.placed.now) AcceptedStream (left_in bytes c.args.input.now) l) (sym c.write_placed.ensures.left)
    (found_stream bytes c.args.placed.now (sym c.kind.ensures ∙ c.in-Hvm.is) _ _ (told_bytes bytes c.args.input.now c.requires.bytes) c.requires.read) in
    copy_comes AcceptedStream HasStreamRefusal e c.write_placed.result
    (came_copied bytes c.args.placed.now.file.now (text_in c.args.placed.now) AcceptedStream HasStreamRefusal _ _ _ _ found c.write_placed.result c.write_placed.ensures.done c.write_placed.ensures.part c.write_placed.ensures.answers)
    c.write_placed.ensures.answers (subst (λ (n : ℕ). InputRises (status_of c.write_placed.result) n (failed_in c.write_placed.new.input)) c.requires.faults c.write_placed.ensures.read) c.write_placed.ensures.write

pub returns-in-Hvm-clause-part : goal.returns-in-Hvm-clause-part
returns-in-Hvm-clause-part g c =
    let bytes = g.P.PageFile.bytes in
    let found = subst (λ (l : Option (List ℕ)). FindsAll bytes c.args.placed.now.file.now (text_in c.args.placed.now) AcceptedStream (left_in bytes c.args.input.now) l) (sym c.write_placed.ensures.left)
    (found_stream bytes c.args.placed.now (sym c.kind.ensures ∙ c.in-Hvm.is) _ _ (told_bytes bytes c.args.input.now c.requires.bytes) c.requires.read) in
    λ failed. inr (part_copied bytes c.args.placed.now.file.now (text_in c.args.placed.now) AcceptedStream HasStreamRefusal _ _ _ _ found c.write_placed.result (c.write_placed.ensures.part (inr failed)))
