use Rattle.mig_placing.proofs.Common.{Some, None, Option, cond, ap, sym, ◌∙◌, is_same_frame, some_frame, FrameOf, frames_in_file}
use Rattle.std.specs.FinMap as maps
use Rattle.mig_placing.proofs.Compared.{none_alike, turned}
use Rattle.mig_placing.proofs.compares.Comparing.has_frame.Goals as goal

pub returns-in-Some : goal.returns-in-Some
returns-in-Some g c =
    turned c.has_cell.result _ _
    (λ same h all told. h all told ∙ ap (λ (o : Option FrameOf). is_same_frame o (some_frame c.args.kind (cond c.args.some (Some c.args.page.now) None))) (sym (c.in-Some.ensures.some (Some all)))) c.has_cell.ensures

pub returns-in-None : goal.returns-in-None
returns-in-None g c =
    λ all told. none_alike c.args.kind (cond c.args.some (Some c.args.page.now) None) (maps.get (frames_in_file (Some all) c.args.self.now.placing.places) c.args.pfn) c.is_no_frame.result (c.in-None.ensures.none (Some all)) (c.is_no_frame.ensures _)
