use Rattle.std.proofs.Common.{arith, length, ◌∙◌, ◌≡◌}
use Rattle.std.proofs.lemmas.List.{length-take, take-append-le, take_all}
use Rattle.mig_localised.proofs.Over.{read_page}
use Rattle.mig_localised.proofs.frames.put_placed.Goals as goal

pub returns-in-Ok-clause-bytes : goal.returns-in-Ok-clause-bytes
returns-in-Ok-clause-bytes g c = λ all told.
    let put = c.read_at.new.buf in
    let size : length put ≡ 4096 = omega (arith, c.read_at.ensures.room, length-take 4096 c.args.buffer.now, c.requires.room) in
    take-append-le 4096 put _ (omega (arith, size)) ∙ take_all 4096 put (omega (arith, size))
    ∙ read_page (g.P.PageFile.bytes c.args.file.now) c.args.place put c.requires.some size c.in-Ok.ensures.bytes all told
