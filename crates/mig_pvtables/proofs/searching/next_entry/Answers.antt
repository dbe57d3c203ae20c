use Rattle.std.specs.Option.{option_copied}
use Rattle.mig_guest.proofs.NextEntries.{next_entry}
use Rattle.mig_pvtables.proofs.searching.next_entry.Goals as goal

pub returns-clause-next : goal.returns-clause-next
returns-clause-next c = next_entry c.args.frames.now.frames c.args.from (λ e. e.0) (λ e. record { type = e.1; page = option_copied e.2 }) c.next.result c.next.ensures.none c.next.ensures.there c.next.ensures.least
