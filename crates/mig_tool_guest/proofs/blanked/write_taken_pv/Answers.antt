use Rattle.mig_tool_guest.proofs.Common.{AcceptedStream, Effects, HasStreamRefusal, InputRises, List, Option, effects, inr, input_effect, refl, sink_effect, status_of, subst, sym, unreached, unwritten, ℕ, failed_in, left_in, normalise_file_promise}
use Rattle.mig_tool_guest.proofs.BlankTexts.{blanked_text, found_blanked, starved_says, text_of_blank}
use Rattle.mig_tool_guest.proofs.Placed.{FindsAll, came_copied, copy_comes, part_copied, told_bytes}
use Rattle.mig_tool_report.specs.declared.outcome.Outcome.TheVariants as outcomes
use Rattle.mig_tool_guest.proofs.blanked.write_taken_pv.Goals as goal

pub returns-in-Ok-clause-came : goal.returns-in-Ok-clause-came
returns-in-Ok-clause-came g c =
    let bytes = g.P.PageFile.bytes in
    let placed = c.args.placed.now in
    let e : Effects = effects (input_effect (left_in bytes) failed_in c.args.input.now c.write_blanked.new.input) (sink_effect g.K.Sink.written g.K.Sink.faults c.args.out.now c.write_blanked.new.out) unreached in
    let text = blanked_text c.blank_outline.new.outline c.in-Ok.marks.values placed.places in
    let found = subst (λ (l : Option (List ℕ)). FindsAll bytes placed.file.now text AcceptedStream (left_in bytes c.args.input.now) l) (sym c.write_blanked.ensures.left)
    (text_of_blank bytes placed _ _ _ _ c.in-Ok.ensures.blank (found_blanked bytes placed c.in-Ok.marks.values c.requires.kind c.in-Ok.ensures.marks _ _ (told_bytes bytes c.args.input.now c.requires.bytes) c.requires.read)) in
    copy_comes AcceptedStream HasStreamRefusal e c.write_blanked.result
    (came_copied bytes placed.file.now text AcceptedStream HasStreamRefusal _ _ _ _ found c.write_blanked.result c.write_blanked.ensures.done c.write_blanked.ensures.part c.write_blanked.ensures.answers)
    c.write_blanked.ensures.answers (subst (λ (n : ℕ). InputRises (status_of c.write_blanked.result) n (failed_in c.write_blanked.new.input)) c.requires.faults c.write_blanked.ensures.read) c.write_blanked.ensures.write

pub returns-in-Ok-clause-part : goal.returns-in-Ok-clause-part
returns-in-Ok-clause-part g c =
    let bytes = g.P.PageFile.bytes in
    let placed = c.args.placed.now in
    let text = blanked_text c.blank_outline.new.outline c.in-Ok.marks.values placed.places in
    let found = subst (λ (l : Option (List ℕ)). FindsAll bytes placed.file.now text AcceptedStream (left_in bytes c.args.input.now) l) (sym c.write_blanked.ensures.left)
    (text_of_blank bytes placed _ _ _ _ c.in-Ok.ensures.blank (found_blanked bytes placed c.in-Ok.marks.values c.requires.kind c.in-Ok.ensures.marks _ _ (told_bytes bytes c.args.input.now c.requires.bytes) c.requires.read)) in
    λ failed. inr (part_copied bytes placed.file.now text AcceptedStream HasStreamRefusal _ _ _ _ found c.write_blanked.result (c.write_blanked.ensures.part (inr failed)))

pub returns-in-Err-clause-came : goal.returns-in-Err-clause-came
returns-in-Err-clause-came g c =
    let bytes = g.P.PageFile.bytes in
    let e : Effects = effects (input_effect (left_in bytes) failed_in c.args.input.now c.args.taken) (sink_effect g.K.Sink.written g.K.Sink.faults c.args.out.now c.args.out.now) unreached in
    unwritten normalise_file_promise e outcomes.Memory tt (starved_says _ _ _ _ _) c.requires.faults refl refl
