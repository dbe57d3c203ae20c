use Rattle.mig_tool_guest.proofs.Common.{Effects, InputRises, List, Option, effects, inr, input_effect, sink_effect, status_of, subst, sym, unreached, ℕ, ◌∙◌, failed_in, left_in}
use Rattle.mig_tool_guest.proofs.Placed.{told_bytes}
use Rattle.mig_tool_guest.proofs.PlacedImages.{FindsGuest, came_image, found_guest, image_comes, image_part}
use Rattle.mig_tool_guest.proofs.restoring.restored_taken.Goals as goal

pub returns-in-Hvm-clause-came : goal.returns-in-Hvm-clause-came
returns-in-Hvm-clause-came g c =
    let bytes = g.P.PageFile.bytes in
    let wrote = c.write_placed_image.ensures in
    let e : Effects = effects (input_effect (left_in bytes) failed_in c.args.input.now c.write_placed_image.new.input) (sink_effect g.K.Sink.written g.K.Sink.faults c.args.out.now c.write_placed_image.new.out) unreached in
    let found = subst (λ (l : Option (List ℕ)). FindsGuest bytes c.args.placed.now (left_in bytes c.args.input.now) l) (sym wrote.left)
    (found_guest bytes c.args.placed.now (sym c.kind.ensures ∙ c.in-Hvm.is) _ _ (told_bytes bytes c.args.input.now c.requires.bytes) c.requires.read) in
    image_comes c.args.base e c.write_placed_image.result
    (came_image bytes c.args.placed.now c.args.base c.requires.base _ _ _ _ found c.write_placed_image.result wrote.done wrote.part wrote.answers)
    wrote.answers (subst (λ (n : ℕ). InputRises (status_of c.write_placed_image.result) n (failed_in c.write_placed_image.new.input)) c.requires.faults wrote.read) wrote.write

pub returns-in-Hvm-clause-part : goal.returns-in-Hvm-clause-part
returns-in-Hvm-clause-part g c =
    let bytes = g.P.PageFile.bytes in
    let wrote = c.write_placed_image.ensures in
    let found = subst (λ (l : Option (List ℕ)). FindsGuest bytes c.args.placed.now (left_in bytes c.args.input.now) l) (sym wrote.left)
    (found_guest bytes c.args.placed.now (sym c.kind.ensures ∙ c.in-Hvm.is) _ _ (told_bytes bytes c.args.input.now c.requires.bytes) c.requires.read) in
    λ failed. inr (image_part bytes c.args.placed.now c.args.base c.requires.base _ _ _ _ found c.write_placed_image.result (wrote.part (inr failed)))
