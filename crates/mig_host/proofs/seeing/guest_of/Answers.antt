use Rattle.mig_host.proofs.Common.{sym, subst, ap, ◌∙◌, GuestOf, blank, IsWhole}
use Rattle.mig_host_view.proofs.ViewedGuests.{viewed_whole, viewed_blank}
use Rattle.mig_host.proofs.seeing.guest_of.Goals as goal

pub returns-in-Ok-clause-streamed : goal.returns-in-Ok-clause-streamed
returns-in-Ok-clause-streamed c = record {
  whole = subst (λ (g : GuestOf). IsWhole g) (sym c.in-Ok.ensures.guest) (viewed_whole c.args.host.now.host c.in-Ok.ensures.valid c.in_ok-sound.ensures.ok);
  blank = ap blank c.in-Ok.ensures.guest ∙ viewed_blank c.args.host.now.host c.in-Ok.ensures.valid c.in_ok-sound.ensures.ok ∙ sym c.in-Ok.ensures.guest;
  bytes = c.in-Ok.ensures.bytes;
}
