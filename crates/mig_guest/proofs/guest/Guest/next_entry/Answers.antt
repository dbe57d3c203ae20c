use Rattle.mig_guest.proofs.Common.{option_copied}
use Rattle.mig_guest.proofs.NextEntries.{next_entry}
use Rattle.mig_guest.proofs.guest.Guest.next_entry.Goals as goal

pub returns-clause-next : goal.returns-clause-next
returns-clause-next c =
    rw (← c.self.view_is) (next_entry c.self.inside.frames.frames c.args.from (λ e. e.0) (λ e. record { type = e.1; page = option_copied e.2 }) c.next.result c.next.ensures.none c.next.ensures.there c.next.ensures.least)
