use Rattle.mig_dirtysave.proofs.Common.{ap, ◌∙◌, pfn_in, is_used_somewhere, renamed_context, taken}
use Rattle.mig_pvtables.proofs.BlankParts.{no_part}
use Rattle.mig_host_view.proofs.LocaliseGuests.{part_put}
use Rattle.mig_dirtysave.proofs.contexts.rename_vcpu.Goals as goal

pub returns-in_default-clause-renamed : goal.returns-in_default-clause-renamed
returns-in_default-clause-renamed g c none =
    no_part c.args.guest.now c.args.key (renamed_context is_used_somewhere (pfn_in (g.M.Machine.state c.args.machine.now).host.frames) c.args.key.key1) c.in_default.ensures

pub returns-then-is_none-clause-renamed : goal.returns-then-is_none-clause-renamed
returns-then-is_none-clause-renamed g c none =
    let h = renamed_context is_used_somewhere (pfn_in (g.M.Machine.state c.args.machine.now).host.frames) c.args.key.key1 in
    part_put c.args.guest.now c.args.key h 5168 c.in-Some.ensures c.requires.long c.rename_context.array_long
    (c.in_ok-ill.ensures.renamed none ∙ ap h (taken c.in-Some.bytes.now 5168 c.unwrap.ensures c.as_array.ensures.cases)) c.write_part.ensures
