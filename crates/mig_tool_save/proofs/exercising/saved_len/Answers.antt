use Rattle.mig_tool_save.proofs.Common.{List, ℕ, length, sym, ap, subst, ◌∙◌, HostOf, unsoundness, view, canon_any}
use Rattle.mig_tool_save.proofs.ExerciseOutcomes.{Means, never_unsound, sound_now, means_now}
use Rattle.mig_tool_save.proofs.exercising.saved_len.Goals as goal

pub starved-requires : goal.starved-requires
starved-requires c = never_unsound c.args.machine.now.host c.args.machine.now.lines c.in-Err.outcome c.requires.sound c.in-Err.ensures.none

pub canonical_len-requires-clause-sound : goal.canonical_len-requires-clause-sound
canonical_len-requires-clause-sound c =
    let m = c.args.machine.now in
    ap (λ (h : HostOf). unsoundness h) c.host.ensures ∙ sound_now m.host m.lines c.save_machine.new.machine.host c.args.stream.now.bytes c.save_machine.new.out.bytes c.in-Ok.summary c.in-Ok.ensures.wrote c.requires.empty

pub canonical_len-requires-clause-means : goal.canonical_len-requires-clause-means
canonical_len-requires-clause-means c =
    let m = c.args.machine.now in
    subst (λ (l : List ℕ). Means l (view c.host.result.now.host)) (sym c.bytes.ensures) (subst (λ (h : HostOf). Means c.save_machine.new.out.bytes (view h)) (sym c.host.ensures)
    (means_now m.host m.lines c.save_machine.new.machine.host c.args.stream.now.bytes c.save_machine.new.out.bytes c.in-Ok.summary c.in-Ok.ensures.wrote c.requires.empty))

pub returns-clause-canon : goal.returns-clause-canon
returns-clause-canon c = c.in_ok-canon.ensures ∙ ap (λ (h : HostOf). length (canon_any (view h))) c.host.ensures
