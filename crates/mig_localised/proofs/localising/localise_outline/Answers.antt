use Rattle.std.proofs.Common.{ap, subst, sym, ◌∙◌}
use Rattle.std.proofs.lemmas.Result.{on_ok_weaker}
use Rattle.mig_guest.specs.Formed.{IsFormed}
use Rattle.mig_guest.specs.Guests.{GuestOf}
use Rattle.mig_host.specs.Hosted.{mfn_in}
use Rattle.mig_host_view.specs.Localised.{localised}
use Rattle.mig_localised.proofs.Seated.{seated_formed}
use Rattle.mig_localised.specs.Over.{seated}
use Rattle.mig_localised.proofs.localising.localise_outline.Goals as goal

pub localise_counted-requires : goal.localise_counted-requires
localise_counted-requires c = record { formed = subst IsFormed (sym c.in-Ok-seat_marked.ensures) (seated_formed _ _ c.blank_outline.ensures.formed) }

pub returns : goal.returns
returns c =
    on_ok_weaker c.localise_counted.result
    (λ is. record {
      marks = c.in-Ok.marks.values;
      listed = c.in-Ok.ensures.marks;
      is = is ∙ ap (λ (s : GuestOf). localised (mfn_in s.frames c.args.base) s) (c.in-Ok-seat_marked.ensures ∙ ap (seated c.in-Ok.marks.values) c.in-Ok.ensures.blank);
    }) c.localise_counted.ensures.localised
