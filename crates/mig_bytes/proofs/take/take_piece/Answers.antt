use Rattle.mig_bytes.proofs.Common.{◌≡◌, ◌<◌, ◌+◌, ◌-◌, length, take, rules, arith, ap, ◌∙◌, subst, length-take-le, Taken, vec_len}
use Rattle.mig_bytes.proofs.Vectors.{tail_written, first_items}
use Rattle.mig_bytes.proofs.take.take_piece.Goals as goal

pub returns-in-Ok-Short-clause-bytes : goal.returns-in-Ok-Short-clause-bytes
returns-in-Ok-Short-clause-bytes g c =
    let taken = subst (Taken _ _ _) c.in-Ok-Short.field-0-is c.in-Ok-Short.ensures.bytes in
    let fits : length c.take_exact.new.buf ≡ length c.deref_mut.result.now - c.len-before.result = search rules in
    let all : length c.resize.new.self.items ≡ c.len-before.result + c.args.n = search rules in
    let whole = tail_written c.args.to.now.items c.resize.new.self.items c.deref_mut.result.now c.take_exact.new.buf c.len-before.result c.args.n ((c.len-before.result + c.args.n) - vec_len c.args.to.now) c.resize.new.self.len (length c.deref_mut.result.now - c.len-before.result) (search rules) (search rules) (search rules) all fits (search rules) (search rules) in
    let less : c.in-Ok-Short.count < length c.take_exact.new.buf = taken.0 in
    let size : length c.take_exact.new.buf ≡ c.args.n = search rules in (
      take c.in-Ok-Short.count c.take_exact.new.buf,
      length-take-le c.in-Ok-Short.count c.take_exact.new.buf (omega arith),
      omega arith,
      c.truncate.ensures.items ∙ ap (take (c.len-before.result + c.in-Ok-Short.count)) whole ∙ first_items c.args.to.now.items c.take_exact.new.buf c.len-before.result c.in-Ok-Short.count (search rules),
      taken.1,
      taken.2,
    )
