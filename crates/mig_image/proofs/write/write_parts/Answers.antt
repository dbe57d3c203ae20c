use Rattle.mig_image.proofs.Common.{sym, ◌∙◌, ℕ, List, rules, PartKey, part_text}
use Rattle.std.specs.FinMap as maps
use Rattle.mig_image.proofs.Writers.{drop_next, walk_on, walk_stop}
use Rattle.mig_image.proofs.write.write_parts.Goals as goal

pub returns-in_err-write_part-in-Some-clause-bytes : goal.returns-in_err-write_part-in-Some-clause-bytes
returns-in_err-write_part-in-Some-clause-bytes g c =
    let all = maps.entries c.args.parts.now in
    let e : PartKey × List ℕ = (c.in-Some.key, c.in-Some.bytes.now) in
    walk_stop part_text all c.loop.counter e _ _ _ _ _ _ c.from_residual.result
    (sym c.loop.invariant.at ∙ c.in-Some.ensures) c.loop.invariant.bytes c.from_residual.ensures.1 c.in_err-write_part-in-Some.ensures.bytes

pub loop-preserved : goal.loop-preserved
loop-preserved g c =
    let all = maps.entries c.args.parts.now in
    let e : PartKey × List ℕ = (c.in-Some.key, c.in-Some.bytes.now) in
    let here = sym c.loop.invariant.at ∙ c.in-Some.ensures in
    record {
      at = sym (drop_next c.loop.counter all _ e here);
      bytes = walk_on part_text all c.loop.counter e _ _ _ _ here c.loop.invariant.bytes c.in_ok-write_part-in-Some.ensures.bytes;
      quiet = search rules;
    }
