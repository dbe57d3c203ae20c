use Rattle.mig_restore.proofs.Common.{refl, rules, subst, sym, ◌∙◌, Err, AgreesWithJudging, records_at, IsTaken, opening_of, IsBegun, TakenImage, empty_begun, any_stop}
use Rattle.mig_restore.proofs.Arrivals.{state, arrived_first, arrived_next, arrived_end, arrived_noted, arrived_compared, arrived_stopped}
use Rattle.mig_restore.proofs.Kept.{none_kept}
use Rattle.mig_restore.proofs.read.take_records.Goals as goal

pub records-init : goal.records-init
records-init g c = record {
  arrived = arrived_first g.F.KeepsFrames.compares g.F.KeepsFrames.kept g.F.KeepsFrames.notes c.args.keeper.now (g.S.Source.left c.args.src.now) (opening_of c.args.version c.args.kind) c.new-seen.result c.new-guest.result _ c.new-seen.ensures.seen (c.new-guest.ensures ∙ sym (none_kept g.F.KeepsFrames.kept c.goes_on.ensures.none c.args.kind)) refl;
  kind = search rules;
  begun = subst IsBegun (sym c.new-guest.ensures) (empty_begun c.args.kind);
  few = search rules;
  counted = search rules;
  quiet = search rules;
}

pub records-preserved : goal.records-preserved
records-preserved g c = record {
  arrived = arrived_next g.F.KeepsFrames.compares g.F.KeepsFrames.kept g.F.KeepsFrames.notes c.args.keeper.now (g.S.Source.left c.args.src.now) (opening_of c.args.version c.args.kind) _ _ (state c.records.seen c.records.guest c.records.differs c.records.keeper (g.S.Source.left c.records.src)) (state c.read_next.new.seen c.read_next.new.guest c.read_next.new.differs c.read_next.new.keeper (g.S.Source.left c.read_next.new.src)) c.in-Ok.over c.if-over.false c.records.invariant.arrived (c.in-Ok.ensures.read (opening_of c.args.version c.args.kind)) (c.in-Ok.ensures.noted (opening_of c.args.version c.args.kind)) (c.in-Ok.ensures.compared (opening_of c.args.version c.args.kind));
  kind = c.read_next.ensures.kind ∙ c.records.invariant.kind ∙ sym c.in-Ok.ensures.grown.kind;
  begun = c.in-Ok.ensures.grown.kept c.records.invariant.begun;
  few = search rules;
  counted = search rules;
  quiet = search rules;
}

pub returns-then-over-clause-read : goal.returns-then-over-clause-read
returns-then-over-clause-read g c =
    arrived_end g.F.KeepsFrames.compares g.F.KeepsFrames.kept g.F.KeepsFrames.notes c.args.keeper.now (g.S.Source.left c.args.src.now) (opening_of c.args.version c.args.kind) _ _ (state c.records.seen c.records.guest c.records.differs c.records.keeper (g.S.Source.left c.records.src)) (state c.read_next.new.seen c.read_next.new.guest c.read_next.new.differs c.read_next.new.keeper (g.S.Source.left c.read_next.new.src)) _ c.in-Ok.over c.if-over.true refl refl refl refl c.records.invariant.arrived (c.in-Ok.ensures.read (opening_of c.args.version c.args.kind)) (c.in-Ok.ensures.noted (opening_of c.args.version c.args.kind)) (c.in-Ok.ensures.compared (opening_of c.args.version c.args.kind))

pub returns-then-over-clause-faultless : goal.returns-then-over-clause-faultless
returns-then-over-clause-faultless g c = c.in-Ok.ensures.faultless c.if-over.true

pub returns-in-Err-clause-read : goal.returns-in-Err-clause-read
returns-in-Err-clause-read g c =
    subst (λ s. AgreesWithJudging {X = TakenImage} (IsTaken g.F.KeepsFrames.kept) (g.S.Source.left c.args.src.now) (g.S.Source.left c.read_next.new.src) (records_at (opening_of c.args.version c.args.kind)) (Err s)) (sym c.at.ensures)
    (arrived_stopped g.F.KeepsFrames.compares g.F.KeepsFrames.kept g.F.KeepsFrames.notes c.args.keeper.now (g.S.Source.left c.args.src.now) (opening_of c.args.version c.args.kind) _ _ (state c.records.seen c.records.guest c.records.differs c.records.keeper (g.S.Source.left c.records.src)) (state c.read_next.new.seen c.read_next.new.guest c.read_next.new.differs c.read_next.new.keeper (g.S.Source.left c.read_next.new.src)) c.in-Err.stop _ (search rules) c.records.invariant.arrived (c.in-Err.ensures.read (opening_of c.args.version c.args.kind)))

pub returns-then-over-clause-noted : goal.returns-then-over-clause-noted
returns-then-over-clause-noted g c =
    arrived_noted g.F.KeepsFrames.compares g.F.KeepsFrames.kept g.F.KeepsFrames.notes c.args.keeper.now (g.S.Source.left c.args.src.now) (opening_of c.args.version c.args.kind) _ _ (state c.records.seen c.records.guest c.records.differs c.records.keeper (g.S.Source.left c.records.src)) (state c.read_next.new.seen c.read_next.new.guest c.read_next.new.differs c.read_next.new.keeper (g.S.Source.left c.read_next.new.src)) _ c.in-Ok.over c.if-over.true c.records.invariant.arrived (c.in-Ok.ensures.read (opening_of c.args.version c.args.kind)) (c.in-Ok.ensures.noted (opening_of c.args.version c.args.kind)) (c.in-Ok.ensures.compared (opening_of c.args.version c.args.kind))

pub returns-in-Err-clause-noted : goal.returns-in-Err-clause-noted
returns-in-Err-clause-noted g c = any_stop _ _ _ _ _ _ (returns-in-Err-clause-read g c)

pub returns-then-over-clause-compared : goal.returns-then-over-clause-compared
returns-then-over-clause-compared g c =
    arrived_compared g.F.KeepsFrames.compares g.F.KeepsFrames.kept g.F.KeepsFrames.notes c.args.keeper.now (g.S.Source.left c.args.src.now) (opening_of c.args.version c.args.kind) _ _ (state c.records.seen c.records.guest c.records.differs c.records.keeper (g.S.Source.left c.records.src)) (state c.read_next.new.seen c.read_next.new.guest c.read_next.new.differs c.read_next.new.keeper (g.S.Source.left c.read_next.new.src)) _ c.in-Ok.over c.if-over.true refl c.records.invariant.arrived (c.in-Ok.ensures.read (opening_of c.args.version c.args.kind)) (c.in-Ok.ensures.noted (opening_of c.args.version c.args.kind)) (c.in-Ok.ensures.compared (opening_of c.args.version c.args.kind))

pub returns-in-Err-clause-compared : goal.returns-in-Err-clause-compared
returns-in-Err-clause-compared g c = any_stop _ _ _ _ _ _ (returns-in-Err-clause-read g c)
