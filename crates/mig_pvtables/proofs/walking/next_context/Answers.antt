use Rattle.mig_pvtables.proofs.Common.{Part}
use Rattle.mig_pvtables.proofs.Walks.{context_there}
use Rattle.mig_pvtables.proofs.walking.next_context.Goals as goal

pub unwrap-requires : goal.unwrap-requires
unwrap-requires c =
    let e : Part = (c.in_ok-key.key, c.in_ok-key.bytes.now) in
    let there = context_there c.args.parts.now c.args.after e c.in_ok-key.ensures in
    c.as_array.ensures.variant.1 (c.requires.contexts e.0 e.1 there.1 there.0)

pub returns-clause-code : goal.returns-clause-code
returns-clause-code c = (context_there c.args.parts.now c.args.after (c.in_ok-key.key, c.in_ok-key.bytes.now) c.in_ok-key.ensures).0
