use Rattle.mig_image.proofs.Common.{ap, flat_map, little_bytes, part_text, puts_same, puts_stop, puts_then, sym, ◌++◌}
use Rattle.std.specs.FinMap as maps
use Rattle.mig_image.proofs.write.write_behind.Goals as goal

pub returns-in_err-write_count-clause-bytes : goal.returns-in_err-write_count-clause-bytes
returns-in_err-write_count-clause-bytes g c =
    let r = c.from_residual.result in
    puts_same _ _ _ _ r (ap (λ n. little_bytes 8 n ++ flat_map part_text (maps.entries c.args.parts.now)) (sym c.count_parts-count.ensures))
    (puts_stop _ _ _ _ _ _ r c.from_residual.ensures.1 c.in_err-write_count.ensures.bytes)

pub returns-clause-bytes : goal.returns-clause-bytes
returns-clause-bytes g c =
    let r = c.write_parts.result in
    puts_same _ _ _ _ r (ap (λ n. little_bytes 8 n ++ flat_map part_text (maps.entries c.args.parts.now)) (sym c.count_parts-count.ensures))
    (puts_then _ _ _ _ _ r c.in_ok-write_count.ensures.bytes c.write_parts.ensures.bytes)
