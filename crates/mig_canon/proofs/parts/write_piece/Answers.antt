use Rattle.mig_canon.proofs.Common.{◌≤◌, ◌^◌, subst, IsShortPart}
use Rattle.mig_canon.proofs.Spelling.{named_len}
use Rattle.mig_canon.proofs.parts.write_piece.Goals as goal

pub write_named-requires-clause-short : goal.write_named-requires-clause-short
write_named-requires-clause-short g c =
    subst (λ n. n ≤ 2 ^ 27) (named_len c.args.key.key1 c.args.key.key2 c.in-Named.second c.in-Named.ignored c.args.value.now)
    (subst (λ s. IsShortPart s (c.args.key, c.args.value.now)) c.in-Named.is c.requires.short)
