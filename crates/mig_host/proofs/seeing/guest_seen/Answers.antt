use Rattle.mig_host.proofs.Common.{sym, subst, ◌∙◌, GuestOf, pfn_in, IsOfBytes, normalised_bytes}
use Rattle.mig_host.proofs.SeenGuests.{contexts_long, page_long, page_sole, pfns_fit, hvm_seen, pv_seen}
use Rattle.mig_host.proofs.seeing.guest_seen.Goals.{in-Pv, in-Hvm}
use Rattle.mig_host.proofs.seeing.guest_seen.Goals as goal

pub normalise_guest-requires-clause-contexts : goal.normalise_guest-requires-clause-contexts
normalise_guest-requires-clause-contexts c = contexts_long c.args.host.now.host c.in_ok-guest.guest c.in_ok-guest.ensures.guest c.in_ok-guest.ensures.valid (sym c.in-Pv.ensures)

pub normalise_guest-requires-clause-shared : goal.normalise_guest-requires-clause-shared
normalise_guest-requires-clause-shared c = page_long c.args.host.now.host c.in_ok-guest.guest c.in_ok-guest.ensures.guest c.in_ok-guest.ensures.valid (sym c.in-Pv.ensures)

pub normalise_guest-requires-clause-sole : goal.normalise_guest-requires-clause-sole
normalise_guest-requires-clause-sole c = page_sole c.args.host.now.host c.in_ok-guest.guest c.in_ok-guest.ensures.guest c.in_ok-guest.ensures.valid (sym c.in-Pv.ensures)

pub normalise_guest-requires-clause-names : goal.normalise_guest-requires-clause-names
normalise_guest-requires-clause-names c = pfns_fit c.args.host.now.host c.in_ok-guest.ensures.valid (sym c.in-Pv.ensures)

pub returns-clause-guest : goal.returns-clause-guest
returns-clause-guest c = elim c.match-kind.branch [
  | in-Pv w ↦ w.guest-is ∙ pv_seen c.args.host.now.host c.in_ok-guest.guest c.in_ok-guest.ensures.guest c.in_ok-guest.ensures.valid (sym w.in-Pv.ensures) w.normalise_guest.new.guest w.normalise_guest.ensures
  | in-Hvm w ↦ w.guest-is ∙ hvm_seen c.args.host.now.host c.in_ok-guest.guest c.in_ok-guest.ensures.guest (sym w.in-Hvm.ensures)
]

pub returns-clause-bytes : goal.returns-clause-bytes
returns-clause-bytes c = elim c.match-kind.branch [
  | in-Pv w ↦ subst (λ (g : GuestOf). IsOfBytes g) (sym (w.guest-is ∙ w.normalise_guest.ensures)) (normalised_bytes (pfn_in c.args.host.now.host.frames) c.in_ok-guest.guest c.in_ok-guest.ensures.bytes)
  | in-Hvm w ↦ subst (λ (g : GuestOf). IsOfBytes g) (sym w.guest-is) c.in_ok-guest.ensures.bytes
]
