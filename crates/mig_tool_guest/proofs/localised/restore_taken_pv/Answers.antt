use Rattle.mig_tool_guest.proofs.Common.{Effects, InputRises, List, Option, effects, inr, input_effect, refl, sink_effect, status_of, subst, sym, unreached, unwritten, ℕ, failed_in, left_in, restore_file_promise}
use Rattle.mig_tool_guest.proofs.BlankTexts.{starved_says}
use Rattle.mig_tool_guest.proofs.LocalTexts.{FindsThere, came_there, found_there, guest_in_file, room_there, there_part, top_there}
use Rattle.mig_tool_guest.proofs.Placed.{told_bytes}
use Rattle.mig_tool_guest.proofs.PlacedImages.{image_comes}
use Rattle.mig_tool_report.specs.declared.outcome.Outcome.TheVariants as outcomes
use Rattle.mig_tool_guest.proofs.localised.restore_taken_pv.Goals as goal

pub write_outline-requires : goal.write_outline-requires
write_outline-requires g c = record {
  top = top_there c.args.placed.now.outline c.localise_outline.new.outline c.args.base c.requires.kind c.requires.formed c.in-Ok.ensures;
  room = room_there c.args.placed.now.outline c.localise_outline.new.outline c.args.base c.requires.kind c.requires.formed c.in-Ok.ensures;
}

pub returns-in-Ok-clause-came : goal.returns-in-Ok-clause-came
returns-in-Ok-clause-came g c =
    let bytes = g.P.PageFile.bytes in
    let placed = c.args.placed.now in
    let wrote = c.write_outline.ensures in
    let e : Effects = effects (input_effect (left_in bytes) failed_in c.args.input.now c.write_outline.new.input) (sink_effect g.K.Sink.written g.K.Sink.faults c.args.out.now c.write_outline.new.out) unreached in
    let over = guest_in_file c.localise_outline.new.outline placed.places in
    let found = subst (λ (l : Option (List ℕ)). FindsThere bytes placed.file.now c.args.base over (left_in bytes c.args.input.now) l) (sym wrote.left)
    (found_there bytes placed c.args.base c.localise_outline.new.outline c.requires.kind c.in-Ok.ensures _ _ (told_bytes bytes c.args.input.now c.requires.bytes) c.requires.read) in
    image_comes c.args.base e c.write_outline.result
    (came_there bytes placed.file.now c.args.base over c.requires.base _ _ _ _ found c.write_outline.result wrote.done wrote.part wrote.answers)
    wrote.answers (subst (λ (n : ℕ). InputRises (status_of c.write_outline.result) n (failed_in c.write_outline.new.input)) c.requires.faults wrote.read) wrote.write

pub returns-in-Ok-clause-part : goal.returns-in-Ok-clause-part
returns-in-Ok-clause-part g c =
    let bytes = g.P.PageFile.bytes in
    let placed = c.args.placed.now in
    let wrote = c.write_outline.ensures in
    let over = guest_in_file c.localise_outline.new.outline placed.places in
    let found = subst (λ (l : Option (List ℕ)). FindsThere bytes placed.file.now c.args.base over (left_in bytes c.args.input.now) l) (sym wrote.left)
    (found_there bytes placed c.args.base c.localise_outline.new.outline c.requires.kind c.in-Ok.ensures _ _ (told_bytes bytes c.args.input.now c.requires.bytes) c.requires.read) in
    λ failed. inr (there_part bytes placed.file.now c.args.base over c.requires.base _ _ _ _ found c.write_outline.result (wrote.part (inr failed)))

pub returns-in-Err-clause-came : goal.returns-in-Err-clause-came
returns-in-Err-clause-came g c =
    let bytes = g.P.PageFile.bytes in
    let e : Effects = effects (input_effect (left_in bytes) failed_in c.args.input.now c.args.taken) (sink_effect g.K.Sink.written g.K.Sink.faults c.args.out.now c.args.out.now) unreached in
    unwritten (restore_file_promise c.args.base) e outcomes.Memory tt (starved_says _ _ _ _ _) c.requires.faults refl refl
