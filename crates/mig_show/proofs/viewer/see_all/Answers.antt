use Rattle.mig_show.proofs.Common.{refl, sym, subst, ◌∙◌, ◌≡◌, None, Ok, IfOk, Cause, Place, StepSays, Shows, RisesOnShow, front_tree, Step, rules}
use Rattle.std.specs.Prelude.{Option, Result}
use Rattle.mig_show.specs.declared.viewer.ShowAnswer.{ShowAnswer}
use Rattle.mig_show.proofs.Sights.{looks_first, looks_on, shows_whole, shows_ended, rises_ended}
use Rattle.mig_relay.specs.declared.answer.Step.TheVariants as steps
use Rattle.mig_show.proofs.viewer.see_all.Goals as goal

pub loop-init : goal.loop-init
loop-init g c = record { looks = looks_first c.new-relay.result c.args.seen.now _ c.new-relay.ensures.keeps c.new-relay.ensures.empty c.requires.front c.requires.hand; reads = refl }

pub look-requires : goal.look-requires
look-requires g c = let s = c.loop.invariant.looks.stands in (s.here, s.begun, s.keeps)

pub returns-in-Err-clause-seen : goal.returns-in-Err-clause-seen
returns-in-Err-clause-seen g c =
    let l = c.loop.invariant.looks in
    subst (λ (a : Result (Option (Place × Cause)) ShowAnswer). IfOk a (λ refused. Shows (g.S.Source.left c.args.src.now) (g.S.Source.left c.look.new.src) refused (front_tree c.loop.seen.front refused))) (sym c.ended.ensures)
    (shows_ended c.loop.relay c.look.new.self c.loop.seen _ _ _ None None c.in-Err.answer l (c.in-Err.ensures.says l.bytes l.stands) c.in-Err.ensures.ident)

pub returns-in-Err-clause-faults : goal.returns-in-Err-clause-faults
returns-in-Err-clause-faults g c =
    subst (λ (a : Result (Option (Place × Cause)) ShowAnswer). RisesOnShow (g.S.Source.faults c.args.src.now) (g.S.Source.faults c.look.new.src) a) (sym c.ended.ensures)
    (rises_ended _ _ _ _ _ c.in-Err.answer c.loop.invariant.reads c.in-Err.ensures.faults)

pub returns-then-eq-clause-seen : goal.returns-then-eq-clause-seen
returns-then-eq-clause-seen g c =
    let l = c.loop.invariant.looks in
    let done : c.in-Ok.step ≡ steps.Done = search rules in
    shows_whole c.loop.relay c.look.new.self c.loop.seen _ _ _ None None l (subst (λ (s : Step). StepSays l.stands.here l.stands.begun l.bytes c.loop.relay c.look.new.self (g.S.Source.left c.loop.src) (g.S.Source.left c.look.new.src) None None (Ok s)) done (c.in-Ok.ensures.says l.bytes l.stands))

pub loop-preserved : goal.loop-preserved
loop-preserved g c =
    let l = c.loop.invariant.looks in
    record {
      looks =
          looks_on c.loop.relay c.look.new.self c.loop.seen c.take.new.self c.end.new.self _ _ _ _ _ c.in-Ok.step c.words.result.now c.is_in_record.result (search rules) l (c.in-Ok.ensures.says l.bytes l.stands)
          c.words.ensures c.take.ensures c.is_in_record.ensures c.in_default.ensures;
      reads = c.in-Ok.ensures.faults.0 ∙ c.loop.invariant.reads;
    }
