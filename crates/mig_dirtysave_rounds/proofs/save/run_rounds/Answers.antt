use Rattle.mig_dirtysave_rounds.proofs.Common.{rules, arith, ℕ, ◌+◌, ◌/◌, ◌<◌, ◌≤◌, ◌^◌, ap, sym, subst, ◌∙◌, size, pfns_of_words, IsBelow, size-le, notes_of}
use Rattle.mig_dirtysave_rounds.proofs.Shapes.{stays_on, ran_stays}
use Rattle.mig_dirtysave_rounds.proofs.Steps.{on_err}
use Rattle.mig_dirtysave_rounds.proofs.Saves.{live_round, sent_round, longer, counted_more, goes_on, round_keeps, most_alike, behind_taken}
use Rattle.mig_dirtysave_rounds.proofs.save.run_rounds.Goals.{then-rounds-eq-MOST_ROUNDS-via-then-rounds-eq-MOST_ROUNDS, then-rounds-eq-MOST_ROUNDS-via-else-rounds-eq-MOST_ROUNDS+then-count-lt-LEAST_LOG}
use Rattle.mig_dirtysave_rounds.proofs.save.run_rounds.Goals as goal

pub returns-in_err-send_all-clause-behind : goal.returns-in_err-send_all-clause-behind
returns-in_err-send_all-clause-behind g c =
    let i = c.loop-machine.invariant in
    on_err c.from_residual.result (λ start before out sent.
    let (mid, now, live) = i.sent start before out sent in
    most_alike _ _ _ i.kept.shape.kind i.kept.shape.width (c.in_err-send_all.ensures.behind start c.loop-machine.rounds mid now live.order live.told))

pub returns-in_err-take_log-clause-behind : goal.returns-in_err-take_log-clause-behind
returns-in_err-take_log-clause-behind g c =
    let i = c.loop-machine.invariant in
    on_err c.from_residual-in_err-take_log.result (λ start before out sent.
    let (mid, now, live) = i.sent start before out sent in
    let (after, then, sends) = c.in_ok-send_all.ensures.sends start c.loop-machine.rounds mid now in
    most_alike _ _ _ i.kept.shape.kind i.kept.shape.width
    (behind_taken _ _ _ _ _ _ _ _ _ _ (notes_of c.send_all.new.deferred c.send_all.new.types) live c.in_ok-send_all.ensures.reads sends c.in_err-take_log.ensures.err.history then))

pub returns-then-rounds-eq-MOST_ROUNDS-clause-ended : goal.returns-then-rounds-eq-MOST_ROUNDS-clause-ended
returns-then-rounds-eq-MOST_ROUNDS-clause-ended g c =
    let i = c.loop-machine.invariant in
    let small : (g.M.Machine.state c.loop-machine.machine).host.width ≤ 2 ^ 28 = omega (arith, c.requires.narrow, i.kept.shape.width) in
    let live = live_round _ _ _ _ _ small i.below i.on i.live c.in_ok-send_all.ensures.reads c.in_ok-take_log.ensures.ok in
    let more = longer _ _ _ _ _ _ c.in_ok-send_all.ensures.reads c.in_ok-take_log.ensures.ok in
    let below : IsBelow (g.M.Machine.state c.take_log.new.self).host.width (pfns_of_words c.take_log.new.bits) =
    let P : ℕ → Type 0 = λ n. IsBelow n (pfns_of_words c.take_log.new.bits) in subst P (sym c.in_ok-take_log.ensures.ok.ran.shape.width) c.in_ok-take_log.ensures.ok.below in
    let few : c.loop-machine.rounds + 1 < 5 → size (g.M.Machine.state c.take_log.new.self).host.width (pfns_of_words c.take_log.new.bits) < 50 =
    elim c.then-rounds-eq-MOST_ROUNDS.branch [
      | then-rounds-eq-MOST_ROUNDS-via-then-rounds-eq-MOST_ROUNDS w ↦ λ h. absurd (let e = w.if-rounds-eq-MOST_ROUNDS.true in omega arith)
      | then-rounds-eq-MOST_ROUNDS-via-else-rounds-eq-MOST_ROUNDS+then-count-lt-LEAST_LOG w ↦ λ h.
          let e = w.if-count-lt-LEAST_LOG.true in let s = w.count.ensures _ below in omega arith
    ] in
    record { live = live; number = omega arith; some = omega arith; most = omega arith; few = few }

pub returns-then-rounds-eq-MOST_ROUNDS-clause-below : goal.returns-then-rounds-eq-MOST_ROUNDS-clause-below
returns-then-rounds-eq-MOST_ROUNDS-clause-below g c =
    let P : ℕ → Type 0 = λ n. IsBelow n (pfns_of_words c.take_log.new.bits) in subst P (sym c.in_ok-take_log.ensures.ok.ran.shape.width) c.in_ok-take_log.ensures.ok.below

pub returns-then-rounds-eq-MOST_ROUNDS-clause-noted : goal.returns-then-rounds-eq-MOST_ROUNDS-clause-noted
returns-then-rounds-eq-MOST_ROUNDS-clause-noted g c =
    let kept = round_keeps _ _ _ _ _ _ c.in_ok-send_all.ensures.reads c.in_ok-take_log.ensures.ok in
    let P : ℕ → Type 0 = λ n. IsBelow n (pfns_of_words c.send_all.new.deferred) in subst P (sym kept.shape.width) c.in_ok-send_all.ensures.noted

pub returns-in_err-send_all-clause-kept : goal.returns-in_err-send_all-clause-kept
returns-in_err-send_all-clause-kept g c = stays_on _ _ _ c.loop-machine.invariant.kept c.send_all.ensures.kept

pub returns-in_err-take_log-clause-kept : goal.returns-in_err-take_log-clause-kept
returns-in_err-take_log-clause-kept g c =
    stays_on _ _ _ c.loop-machine.invariant.kept (stays_on _ _ _ c.send_all.ensures.kept (ran_stays _ _ _ c.in_err-take_log.ensures.err.ran))

pub returns-then-rounds-eq-MOST_ROUNDS-clause-kept : goal.returns-then-rounds-eq-MOST_ROUNDS-clause-kept
returns-then-rounds-eq-MOST_ROUNDS-clause-kept g c =
    stays_on _ _ _ c.loop-machine.invariant.kept (stays_on _ _ _ c.send_all.ensures.kept (ran_stays _ _ _ c.in_ok-take_log.ensures.ok.ran))

pub overflow_add-entries : goal.overflow_add-entries
overflow_add-entries g c =
    let i = c.loop-machine.invariant in
    omega (arith, i.small, i.few, i.kept.shape.width, c.count-entries.ensures _ i.below, size-le (pfns_of_words c.loop-machine.set) (g.M.Machine.state c.loop-machine.machine).host.width, c.requires.narrow)

pub returns-then-rounds-eq-MOST_ROUNDS-clause-entries : goal.returns-then-rounds-eq-MOST_ROUNDS-clause-entries
returns-then-rounds-eq-MOST_ROUNDS-clause-entries g c =
    let i = c.loop-machine.invariant in
    omega (arith, i.counted, c.count-entries.ensures _ i.below, counted_more _ _ _ _ _ i.below c.in_ok-send_all.ensures.reads c.in_ok-take_log.ensures.ok)

pub returns-then-rounds-eq-MOST_ROUNDS-clause-few : goal.returns-then-rounds-eq-MOST_ROUNDS-clause-few
returns-then-rounds-eq-MOST_ROUNDS-clause-few g c =
    let i = c.loop-machine.invariant in
    omega (arith, i.small, i.few, i.kept.shape.width, c.count-entries.ensures _ i.below, size-le (pfns_of_words c.loop-machine.set) (g.M.Machine.state c.loop-machine.machine).host.width, c.requires.narrow)

pub returns-then-rounds-eq-MOST_ROUNDS-clause-sent : goal.returns-then-rounds-eq-MOST_ROUNDS-clause-sent
returns-then-rounds-eq-MOST_ROUNDS-clause-sent g c = λ start before out sent.
    let i = c.loop-machine.invariant in
    let (mid, now, live) = i.sent start before out sent in
    let (after, then, sends) = c.in_ok-send_all.ensures.sends start c.loop-machine.rounds mid now in
    (after, then, sent_round _ _ _ _ _ _ _ _ (notes_of c.send_all.new.deferred c.send_all.new.types) i.below c.in_ok-send_all.ensures.reads c.in_ok-take_log.ensures.ok live sends)

pub loop-machine-preserved : goal.loop-machine-preserved
loop-machine-preserved g c =
    let i = c.loop-machine.invariant in
    let small : (g.M.Machine.state c.loop-machine.machine).host.width ≤ 2 ^ 28 = omega (arith, c.requires.narrow, i.kept.shape.width) in
    let live = live_round _ _ _ _ _ small i.below i.on i.live c.in_ok-send_all.ensures.reads c.in_ok-take_log.ensures.ok in
    let more = longer _ _ _ _ _ _ c.in_ok-send_all.ensures.reads c.in_ok-take_log.ensures.ok in
    let kept = round_keeps _ _ _ _ _ _ c.in_ok-send_all.ensures.reads c.in_ok-take_log.ensures.ok in
    let below : IsBelow (g.M.Machine.state c.take_log.new.self).host.width (pfns_of_words c.take_log.new.bits) =
    let P : ℕ → Type 0 = λ n. IsBelow n (pfns_of_words c.take_log.new.bits) in subst P (sym c.in_ok-take_log.ensures.ok.ran.shape.width) c.in_ok-take_log.ensures.ok.below in
    record {
      live = live;
      sent = λ start before out sent.
          let (mid, now, was) = i.sent start before out sent in
          let (after, then, sends) = c.in_ok-send_all.ensures.sends start c.loop-machine.rounds mid now in
          (after, then, sent_round _ _ _ _ _ _ _ _ (notes_of c.send_all.new.deferred c.send_all.new.types) i.below c.in_ok-send_all.ensures.reads c.in_ok-take_log.ensures.ok was sends);
      on = goes_on _ _ live (let n = c.count.ensures _ below in omega arith);
      number = omega arith;
      counted = omega (arith, i.counted, c.count-entries.ensures _ i.below, counted_more _ _ _ _ _ i.below c.in_ok-send_all.ensures.reads c.in_ok-take_log.ensures.ok);
      small = omega (arith, i.small, i.kept.shape.width, c.count-entries.ensures _ i.below, size-le (pfns_of_words c.loop-machine.set) (g.M.Machine.state c.loop-machine.machine).host.width, c.requires.narrow);
      few = omega arith;
      kept = stays_on _ _ _ i.kept kept;
      words = search rules ∙ i.words ∙ ap (λ n. (n + 63) / 64) (sym kept.shape.width);
      wide = search rules;
      long = search rules ∙ i.long ∙ sym kept.shape.width;
      below = below;
      noted = let P : ℕ → Type 0 = λ n. IsBelow n (pfns_of_words c.send_all.new.deferred) in subst P (sym kept.shape.width) c.in_ok-send_all.ensures.noted;
      sized = search rules;
      empty = c.in_ok-send_all.ensures.empty;
      later = g.met.M.Machine.later_on _ _ _ (g.met.M.Machine.later_on _ _ _ i.later c.send_all.ensures.later) c.take_log.ensures.later;
      machine_quiet = c.in_ok-take_log.ensures.cause.quiet ∙ c.in_ok-send_all.ensures.faults.machine.quiet ∙ i.machine_quiet;
      sink_quiet = c.in_ok-send_all.ensures.faults.sink.quiet ∙ i.sink_quiet;
    }
