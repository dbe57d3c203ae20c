use Rattle.mig_pagestore_index.proofs.Common.{◌-◌, ◌++◌, ◌<◌, length, replicate, slice_index, vec_len, ap, ◌∙◌, arith}
use Rattle.std.proofs.lemmas.List.{take_all}
use Rattle.mig_pagestore_index.proofs.Fans.{widened}
use Rattle.mig_pagestore_index.proofs.directory.widen.Goals as goal

pub returns-in_ok-resize-clause-same : goal.returns-in_ok-resize-clause-same
returns-in_ok-resize-clause-same c i =
    let old = c.args.near.now.items in
    let few : length old < 4096 = omega (arith, c.if-len-lt-NEAR.true, c.len.ensures, c.args.near.now.ok.0) in
    ap (λ l. slice_index l i) (c.in_ok-resize.ensures.items ∙ ap (λ l. l ++ replicate (4096 - vec_len c.args.near.now) 0) (take_all 4096 old (omega (arith, few)))) ∙ widened old (4096 - vec_len c.args.near.now) i
