use Rattle.mig_image.proofs.Common.{◌≡◌, ◌∙◌, ◌+◌, ap, subst, rules, refl, Ok, AgreesWithJudging, takes_none, takes_more, told, one_more, one_stops, Frame, HostOf, judged_as, host_frame_form, steps_at, steps_read, known, begins}
use Rattle.mig_image.proofs.Frames.{ends_at_none}
use Rattle.mig_image.proofs.read.read_frames.Goals as goal

pub loop-i-init : goal.loop-i-init
loop-i-init g c = record {
  read = begins (λ (v h : HostOf). v ≡ h) _ c.args.host.now.host c.args.host.now.host _ refl;
  counted = c.requires.none;
  ends = ends_at_none c.args.host.now.host c.requires.none;
  parts = refl;
  width = refl;
  taken = takes_none _;
  quiet = search rules;
}

pub returns-in-Err-clause-read : goal.returns-in-Err-clause-read
returns-in-Err-clause-read g c =
    steps_read _ Frame (host_frame_form c.args.version) _ _ c.args.count c.args.host.now.host _
    (one_stops Frame (λ h. judged_as (host_frame_form c.args.version h)) _ _ _ _ _ c.loop-i.i c.args.count c.args.host.now.host c.loop-i.host.host c.in-Err.stop c.at.result (search rules) c.loop-i.invariant.read c.in-Err.ensures.read c.at.ensures)

pub loop-i-preserved : goal.loop-i-preserved
loop-i-preserved g c = record {
  read = one_more Frame (λ h. judged_as (host_frame_form c.args.version h)) _ _ _ c.loop-i.i c.args.host.now.host c.loop-i.host.host c.read_frame.new.host.host _ c.loop-i.invariant.read (told _ _ _ _ tt (known _ _ _ _ _ c.in-Ok.ensures.read));
  ends = c.in-Ok.ensures.ends;
  counted = c.in-Ok.ensures.counted ∙ ap (λ n. n + 1) c.loop-i.invariant.counted;
  parts = c.in-Ok.ensures.parts ∙ c.loop-i.invariant.parts;
  width = c.in-Ok.ensures.width ∙ c.loop-i.invariant.width;
  taken = takes_more _ _ _ c.loop-i.invariant.taken c.in-Ok.ensures.taken;
  quiet = search rules;
}

pub returns-clause-read : goal.returns-clause-read
returns-clause-read g c =
    let all : c.loop-i.i ≡ c.args.count = search rules in
    let frames = steps_at Frame (host_frame_form c.args.version) in
    steps_read _ Frame (host_frame_form c.args.version) _ _ c.args.count c.args.host.now.host _
    (told _ _ (frames c.args.count c.args.host.now.host) c.loop-i.host.host tt (subst (λ n. AgreesWithJudging {X = HostOf} (λ v h. v ≡ h) (g.S.Source.left c.args.src.now) (g.S.Source.left c.loop-i.src) (frames n c.args.host.now.host) (Ok c.loop-i.host.host)) all c.loop-i.invariant.read))
