use Rattle.mig_records.proofs.Common.{◌≡◌, ◌+◌, [], ◌∷◌, take, drop, refl, code_number, key_in, sole_key, named_parts}
use Rattle.mig_records.proofs.Reading.{named_all, others_kept}
use Rattle.mig_records.proofs.read.read_body.Goals as goal

pub returns-in-Single-clause-others : goal.returns-in-Single-clause-others
returns-in-Single-clause-others c =
    others_kept c.args.code ((sole_key c.args.code, take c.in-Single.len c.args.body.now) ∷ []) (refl, tt) c.args.guest.now c.read_single.new.guest c.read_single.result c.read_single.ensures.ok c.read_single.ensures.err

pub returns-in-Named-clause-others : goal.returns-in-Named-clause-others
returns-in-Named-clause-others c =
    let n = c.in-Named in let body = c.args.body.now in
    let key = key_in c.args.code 4 n.second body in let bytes = drop (4 + n.second + n.ignored) body in
    others_kept c.args.code (named_parts n.skips key bytes) (named_all (λ p. p.0.code ≡ code_number c.args.code) n.skips key bytes refl) c.args.guest.now c.read_named.new.guest c.read_named.result c.read_named.ensures.ok c.read_named.ensures.err
