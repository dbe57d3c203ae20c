use Rattle.mig_restore.proofs.Common.{◌≡◌, rules, Some, None, fault_of_count, fault_of_list, list_refused}
use Rattle.mig_restore.proofs.body.take_list.Goals as goal

pub returns-in-Some-list_fault-clause-read : goal.returns-in-Some-list_fault-clause-read
returns-in-Some-list_fault-clause-read g c =
    let counted : fault_of_count c.args.len c.u32_le-count.result ≡ None = search rules in
    let bad : fault_of_list c.args.kind c.args.top c.args.len c.in_ok-list.list.items ≡ Some c.in-Some-list_fault.cause = search rules in
    list_refused (λ v. v.items) _ _ _ c.args.kind c.args.top c.args.len c.u32_le-count.result _ c.take_part.new.buf c.in_ok-list.list c.in-Some-list_fault.cause (search rules)
    c.in_ok-take_part.ensures.read c.u32_le-count.ensures counted c.in_ok-list.ensures.read bad
