use Rattle.mig_image.proofs.Common.{◌≡◌, ◌∙◌, subst, rules, refl, Ok, AgreesWithJudging, takes_none, takes_more, told, one_more, one_stops, Part, HostOf, judged_as, host_part_form, steps_at, steps_read, begins}
use Rattle.mig_image.proofs.Parts.{counts_none}
use Rattle.mig_image.proofs.read_part.read_parts.Goals as goal

pub loop-i-init : goal.loop-i-init
loop-i-init g c = record {
  read = begins (λ (v h : HostOf). v ≡ h) _ c.args.host.now.host c.args.host.now.host _ refl;
  counted = counts_none _ _ c.requires refl refl;
  width = refl;
  taken = takes_none _;
  quiet = search rules;
}

pub returns-in-Err-clause-read : goal.returns-in-Err-clause-read
returns-in-Err-clause-read g c =
    steps_read _ Part host_part_form _ _ c.args.count c.args.host.now.host _
    (one_stops Part (λ h. judged_as (host_part_form h)) _ _ _ _ _ c.loop-i.i c.args.count c.args.host.now.host c.loop-i.host.host c.in-Err.stop c.at.result (search rules) c.loop-i.invariant.read c.in-Err.ensures.read c.at.ensures)

pub loop-i-preserved : goal.loop-i-preserved
loop-i-preserved g c = record {
  read = one_more Part (λ h. judged_as (host_part_form h)) _ _ _ c.loop-i.i c.args.host.now.host c.loop-i.host.host c.read_part.new.host.host _ c.loop-i.invariant.read c.in_default.ensures.read;
  counted = c.in_default.ensures.counted;
  width = c.in_default.ensures.width ∙ c.loop-i.invariant.width;
  taken = takes_more _ _ _ c.loop-i.invariant.taken c.in_default.ensures.taken;
  quiet = search rules;
}

pub returns-clause-read : goal.returns-clause-read
returns-clause-read g c =
    let all : c.loop-i.i ≡ c.args.count = search rules in
    let parts = steps_at Part host_part_form in
    steps_read _ Part host_part_form _ _ c.args.count c.args.host.now.host _
    (told _ _ (parts c.args.count c.args.host.now.host) c.loop-i.host.host tt (subst (λ n. AgreesWithJudging {X = HostOf} (λ v h. v ≡ h) (g.S.Source.left c.args.src.now) (g.S.Source.left c.loop-i.src) (parts n c.args.host.now.host) (Ok c.loop-i.host.host)) all c.loop-i.invariant.read))
