use Rattle.mig_tool_guest.proofs.Common.{AcceptedLegacy, Effects, HasLegacyRefusal, InputRises, List, Option, effects, inr, input_effect, refl, sink_effect, status_of, subst, sym, unreached, ℕ, failed_in, left_in, IsPlacedLegacy, legacy_at}
use Rattle.mig_tool_guest.proofs.Placed.{FindsAll, came_copied, copy_comes, found_legacy, part_copied, text_in, told_bytes_of}
use Rattle.mig_tool_guest.proofs.Unread.{unread_comes}
use Rattle.mig_tool_guest.specs.Promises.{convert_file_promise}
use Rattle.mig_tool_report.specs.declared.outcome.Refusal.TheVariants as refusals
use Rattle.mig_tool_guest.proofs.files.converted_file.Goals as goal

pub returns-in-Ok-clause-came : goal.returns-in-Ok-clause-came
returns-in-Ok-clause-came g c =
    let bytes = g.P.PageFile.bytes in
    let e : Effects = effects (input_effect (left_in bytes) failed_in c.args.input.now c.write_placed.new.input) (sink_effect g.K.Sink.written g.K.Sink.faults c.args.out.now c.write_placed.new.out) unreached in
    let found = subst (λ (l : Option (List ℕ)). FindsAll bytes c.in-Ok.placed.file.now (text_in c.in-Ok.placed) AcceptedLegacy (left_in bytes c.args.input.now) l) (sym c.write_placed.ensures.left)
    (found_legacy bytes c.in-Ok.placed _ _ (told_bytes_of bytes c.args.input.now _ c.file.ensures c.has_bytes.ensures) c.in-Ok.ensures.read) in
    copy_comes AcceptedLegacy HasLegacyRefusal e c.write_placed.result
    (came_copied bytes c.in-Ok.placed.file.now (text_in c.in-Ok.placed) AcceptedLegacy HasLegacyRefusal _ _ _ _ found c.write_placed.result c.write_placed.ensures.done c.write_placed.ensures.part c.write_placed.ensures.answers)
    c.write_placed.ensures.answers (subst (λ (n : ℕ). InputRises (status_of c.write_placed.result) n (failed_in c.write_placed.new.input)) c.in-Ok.ensures.faults c.write_placed.ensures.read) c.write_placed.ensures.write

pub returns-in-Ok-clause-part : goal.returns-in-Ok-clause-part
returns-in-Ok-clause-part g c =
    let bytes = g.P.PageFile.bytes in
    let found = subst (λ (l : Option (List ℕ)). FindsAll bytes c.in-Ok.placed.file.now (text_in c.in-Ok.placed) AcceptedLegacy (left_in bytes c.args.input.now) l) (sym c.write_placed.ensures.left)
    (found_legacy bytes c.in-Ok.placed _ _ (told_bytes_of bytes c.args.input.now _ c.file.ensures c.has_bytes.ensures) c.in-Ok.ensures.read) in
    λ failed. inr (part_copied bytes c.in-Ok.placed.file.now (text_in c.in-Ok.placed) AcceptedLegacy HasLegacyRefusal _ _ _ _ found c.write_placed.result (c.write_placed.ensures.part (inr failed)))

pub returns-in-Err-clause-came : goal.returns-in-Err-clause-came
returns-in-Err-clause-came g c =
    let e : Effects = effects (input_effect (left_in g.P.PageFile.bytes) failed_in c.args.input.now c.place_legacy.new.src) (sink_effect g.K.Sink.written g.K.Sink.faults c.args.out.now c.args.out.now) unreached in
    unread_comes (IsPlacedLegacy g.P.PageFile.bytes) legacy_at refusals.Legacy convert_file_promise (λ _ _ _ _ h. h) e c.in-Err.answer c.unconverted.result c.unconverted.ensures c.in-Err.ensures.read c.in-Err.ensures.faults (record { untouched = refl; quiet = refl })
