use Rattle.mig_placing.proofs.Common.{◌∙◌, ap, subst, left_at, outline_frames, ArePlaced, both_compared}
use Rattle.std.specs.FinMap as maps
use Rattle.mig_placing.proofs.Compared.{begun_told}
use Rattle.mig_placing.proofs.comparison.compare_image_rest.Goals as goal

pub returns-clause-read : goal.returns-clause-read
returns-clause-read g c =
    let bytes = g.P.PageFile.bytes in let comparing = c.new-comparing.result in let src = c.args.src.now in
    c.comparison_of.ensures.read _ _ _
    (both_compared outline_frames (λ keeper all left frames. ArePlaced (bytes keeper.placing.file.now) keeper.placing.places all left frames) comparing _ _ _ c.take_image_rest.result
    (begun_told (bytes src.file.now) src.at (λ all left. ArePlaced (bytes comparing.placing.file.now) comparing.placing.places all left maps.empty)
    (λ all told. subst (λ file. ArePlaced (bytes comparing.placing.file.now) comparing.placing.places all (left_at (bytes file) src.at) maps.empty) c.file.ensures (c.new-comparing.ensures.begun all src.at (ap bytes c.file.ensures ∙ told))))
    c.take_image_rest.ensures.read c.take_image_rest.ensures.compared)

pub returns-clause-faults : goal.returns-clause-faults
returns-clause-faults g c = c.comparison_of.ensures.faults _ _ c.take_image_rest.ensures.faults
