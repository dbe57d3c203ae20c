use Rattle.mig_host.proofs.Common.{refl, sym, ap, subst, ◌∙◌, GuestOf, IsOfBytes}
use Rattle.mig_host.proofs.SeenBytes.{none_of_bytes}
use Rattle.mig_host.proofs.seeing.copy_guest.Goals as goal

pub returns-clause-guest : goal.returns-clause-guest
returns-clause-guest c =
    rw (c.in_ok-copy_parts.ensures.parts, c.in_ok-copy_frames.ensures.frames, c.set_top.ensures, c.new-guest.ensures, c.top_for-top.ensures, c.kind-kind.ensures, c.width.ensures.value) refl

pub copy_frames-requires-clause-bytes : goal.copy_frames-requires-clause-bytes
copy_frames-requires-clause-bytes c = subst (λ (g : GuestOf). IsOfBytes g) (sym (c.set_top.ensures ∙ ap (λ (g : GuestOf). record g { top = c.top_for-top.result }) c.new-guest.ensures)) (none_of_bytes c.kind-kind.result c.top_for-top.result)
