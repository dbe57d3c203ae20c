use Rattle.mig_dirtysave_rounds.proofs.Common.{rules, arith, ◌≡◌, ◌<◌, ◌^◌, length, List, [], append-nil, pfns_sent, refl, sym, ap, subst, ◌∙◌, FrameTold, IsSent, notes_of}
use Rattle.mig_dirtysave_rounds.proofs.Shapes.{stays_on, reads_stay}
use Rattle.mig_dirtysave_rounds.proofs.Parts.{members_below}
use Rattle.mig_dirtysave_rounds.proofs.Noted.{noted_below}
use Rattle.mig_dirtysave_rounds.proofs.Steps.{reads_start, reads_more, reads_jump, sends_start, sends_more, sends_jump, worst_none, worst_step, worst_jump, all_even, all_strays, most_sent, on_err}
use Rattle.mig_dirtysave_rounds.proofs.round.send_all.Goals as goal

pub members-init : goal.members-init
members-init g c = record {
  reads = reads_start _ _ c.requires.fresh;
  sends = λ start n before out. (before, subst (λ (l : List FrameTold). IsSent start (g.K.Sink.written c.args.sink.now) n l before) (sym c.requires.empty) out, sends_start _ _ _ _);
  worst = λ p. worst_none _ _;
  end = omega arith;
  wide = c.requires.wide;
  long = c.requires.long;
  noted = c.requires.noted;
  few = let none : length c.args.batch.now ≡ 0 = ap length c.requires.empty in omega arith;
  later = g.met.M.Machine.later_self _;
  machine_quiet = refl;
  sink_quiet = refl;
}

pub returns-in_err-found-clause-behind : goal.returns-in_err-found-clause-behind
returns-in_err-found-clause-behind g c =
    let i = c.members.invariant in
    let (past, inside) = c.in-Some.ensures.found in
    let reads = reads_jump _ _ _ _ _ past c.in-Some.ensures.least i.reads in
    on_err c.from_residual.result (λ start n before out order told.
    let (mid, now, front) = i.sends start n before out in
    let to = sends_jump _ _ _ _ _ _ _ _ (notes_of c.members.deferred c.members.types) past c.in-Some.ensures.least front in
    let (more, is, few) = all_strays _ _ _ _ _ _ _ _ reads to order _ inside (members_below _ _ _ c.requires.below inside) c.send_one.ensures.asked in
    most_sent _ _ 1 _ _ _ mid more (c.in_err-found.ensures.behind start n mid now) few (to.told told) is)

pub returns-in_err-flush-clause-behind : goal.returns-in_err-flush-clause-behind
returns-in_err-flush-clause-behind g c =
    on_err c.from_residual-in_err-flush.result (λ start n before out order told.
    let i = c.members.invariant in
    let (mid, now, front) = i.sends start n before out in
    let even = all_even _ _ _ _ _ _ _ _ i.reads front order i.end in
    most_sent _ (g.K.Sink.written c.flush.new.sink) 0 _ _ _ mid [] (c.in_err-flush.ensures.behind start n mid now) (omega arith) (front.told told) (even ∙ sym (append-nil (pfns_sent mid))))

pub returns-clause-reads : goal.returns-clause-reads
returns-clause-reads g c = reads_jump _ _ _ _ _ c.members.invariant.end (λ q low high. c.in_default.ensures.none q low) c.members.invariant.reads

pub returns-clause-sends : goal.returns-clause-sends
returns-clause-sends g c = λ start n before out.
    let (mid, now, front) = c.members.invariant.sends start n before out in
    (mid, c.in_ok-flush.ensures.sent start n mid now, sends_jump _ _ _ _ _ _ _ _ (notes_of c.members.deferred c.members.types) c.members.invariant.end (λ q low high. c.in_default.ensures.none q low) front)

pub returns-clause-worst : goal.returns-clause-worst
returns-clause-worst g c = λ p. worst_jump _ _ _ _ _ c.members.invariant.end (λ q low high. c.in_default.ensures.none q low) (c.members.invariant.worst p)

pub returns-in_err-found-clause-kept : goal.returns-in_err-found-clause-kept
returns-in_err-found-clause-kept g c = stays_on _ _ _ (reads_stay _ _ _ _ c.members.invariant.reads) c.send_one.ensures.kept

pub members-preserved : goal.members-preserved
members-preserved g c =
    let i = c.members.invariant in
    let one = c.in_ok-found.ensures in
    let inside = c.in-Some.ensures.found.1 in
    let below : c.in-Some.pfn < (g.M.Machine.state c.args.machine.now).host.width = members_below _ _ _ c.requires.below inside in
    let small : c.in-Some.pfn < 2 ^ 28 = omega (arith, c.requires.narrow, below) in
    let reads = reads_jump _ _ _ _ _ c.in-Some.ensures.found.0 c.in-Some.ensures.least i.reads in
    record {
      reads = reads_more _ _ _ _ _ _ inside small reads one.reads;
      sends = λ start n before out.
          let (mid, now, front) = i.sends start n before out in
          let to = sends_jump _ _ _ _ _ _ _ _ (notes_of c.members.deferred c.members.types) c.in-Some.ensures.found.0 c.in-Some.ensures.least front in
          (_, one.sent start n mid now, sends_more _ _ _ _ _ _ _ _ _ (notes_of c.send_one.new.deferred c.send_one.new.types) _ inside below reads to one.reads one.notes);
      worst = λ p.
          worst_step _ _ _ _ _ _ _ _ _ p inside reads one.reads c.with-worst.ensures.superpage c.with-worst.ensures.lost
          (worst_jump _ _ _ _ _ c.in-Some.ensures.found.0 c.in-Some.ensures.least (i.worst p));
      end = omega (arith, below);
      wide = search rules;
      long = search rules;
      noted = noted_below _ _ _ (notes_of c.members.deferred c.members.types) (notes_of c.send_one.new.deferred c.send_one.new.types) one.notes below i.noted;
      few = c.send_one.ensures.few;
      later = g.met.M.Machine.later_on _ _ _ i.later c.send_one.ensures.later;
      machine_quiet = one.faults.machine.quiet ∙ i.machine_quiet;
      sink_quiet = one.faults.sink.quiet ∙ i.sink_quiet;
    }
