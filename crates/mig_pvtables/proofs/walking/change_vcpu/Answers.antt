use Rattle.mig_pvtables.proofs.Common.{ap, ◌∙◌}
use Rattle.mig_pvtables.proofs.BlankParts.{no_part, part_put}
use Rattle.mig_pvtables.proofs.Walks.{taken}
use Rattle.mig_pvtables.proofs.walking.change_vcpu.Goals as goal

pub returns-in_default : goal.returns-in_default
returns-in_default g c = no_part c.args.guest.now c.args.key (g.S.ContextStep.contexts c.args.step.now c.args.key.key1) c.in_default.ensures

pub returns : goal.returns
returns g c =
    let h = g.S.ContextStep.contexts c.args.step.now c.args.key.key1 in
    part_put c.args.guest.now c.args.key h 5168 c.in-Some.ensures c.requires.long c.change_context.array_long (c.change_context.ensures ∙ ap h (taken c.in-Some.bytes.now 5168 c.unwrap.ensures c.as_array.ensures.cases)) c.write_part.ensures
