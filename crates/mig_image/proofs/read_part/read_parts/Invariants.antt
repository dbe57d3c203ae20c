use Rattle.mig_image.proofs.Common.{◌≡◌, Ok, TakesBytes, AgreesWithJudging, HostOf, Counts, Part, host_part_form, steps_at}
use Rattle.mig_image.proofs.read_part.read_parts.Given as goal

abbrev pub invariant-loop-i : goal.invariant-loop-i
invariant-loop-i g l = record {
  read : AgreesWithJudging {X = HostOf} (λ v h. v ≡ h) (g.S.Source.left l.fn.src) (g.S.Source.left l.src) (steps_at Part host_part_form l.i l.fn.host.host) (Ok l.host.host);
  width : l.host.host.width ≡ l.fn.host.host.width;
  counted : Counts l.entries l.host.host.parts;
  taken : TakesBytes (g.S.Source.left l.fn.src) (g.S.Source.left l.src);
  quiet : g.S.Source.faults l.src ≡ g.S.Source.faults l.fn.src;
}
