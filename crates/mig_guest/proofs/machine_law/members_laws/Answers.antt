use Rattle.mig_guest.proofs.Members.{inside, are_members, ascending}
use Rattle.mig_guest.proofs.machine_law.members_laws.Goals as goal

pub returns-clause-are : goal.returns-clause-are
returns-clause-are c = λ width pfn set. (inside width pfn set, are_members width pfn set)

pub returns-clause-ascend : goal.returns-clause-ascend
returns-clause-ascend c = ascending
