use Rattle.mig_image.proofs.Common.{◌≡◌, length, Ok, TakesBytes, AgreesWithJudging, HostOf, Frame, host_frame_form, steps_at, EndsAt}
use Rattle.std.specs.FinMap as maps
use Rattle.mig_image.proofs.read.read_frames.Given as goal

abbrev pub invariant-loop-i : goal.invariant-loop-i
invariant-loop-i g l = record {
  read : AgreesWithJudging {X = HostOf} (λ v h. v ≡ h) (g.S.Source.left l.fn.src) (g.S.Source.left l.src) (steps_at Frame (host_frame_form l.version) l.i l.fn.host.host) (Ok l.host.host);
  counted : length (maps.entries l.host.host.frames) ≡ l.i;
  ends : EndsAt l.host.host l.next;
  parts : l.host.host.parts ≡ l.fn.host.host.parts;
  width : l.host.host.width ≡ l.fn.host.host.width;
  taken : TakesBytes (g.S.Source.left l.fn.src) (g.S.Source.left l.src);
  quiet : g.S.Source.faults l.src ≡ g.S.Source.faults l.fn.src;
}
