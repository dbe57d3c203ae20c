use Rattle.mig_legacy.proofs.Common.{arith, refl, rules, subst, sym, Err, AgreesWithJudging, IsLegacySeen, chunks_at, ChunksSeen, any_stop}
use Rattle.mig_legacy.proofs.Arrivals.{state, arrived_first, arrived_next, arrived_end, arrived_noted, arrived_stopped}
use Rattle.mig_legacy.proofs.read.take_chunks.Goals as goal

pub chunks-init : goal.chunks-init
chunks-init g c = record {
  arrived = arrived_first g.F.KeepsFrames.kept g.F.KeepsFrames.notes c.args.keeper.now (g.S.Source.left c.args.src.now) c.new-seen.result c.new-seen.ensures.seen refl;
  begun = c.new-seen.ensures.begun;
  few = omega (arith, c.new-seen.ensures.seen.count);
  quiet = search rules;
}

pub chunks-preserved : goal.chunks-preserved
chunks-preserved g c = record {
  arrived = arrived_next g.F.KeepsFrames.kept g.F.KeepsFrames.notes c.args.keeper.now (g.S.Source.left c.args.src.now) _ _ (state c.chunks.seen c.chunks.keeper (g.S.Source.left c.chunks.src)) (state c.take_chunk.new.self c.take_chunk.new.keeper (g.S.Source.left c.take_chunk.new.src)) c.chunks.invariant.arrived _ (search rules) c.in-Ok-false.ensures.read c.in-Ok-false.ensures.noted;
  begun = c.in-Ok-false.ensures.begun;
  few = search rules;
  quiet = search rules;
}

pub returns-in-Ok-true-clause-read : goal.returns-in-Ok-true-clause-read
returns-in-Ok-true-clause-read g c = arrived_end g.F.KeepsFrames.kept g.F.KeepsFrames.notes c.args.keeper.now (g.S.Source.left c.args.src.now) _ _ (state c.chunks.seen c.chunks.keeper (g.S.Source.left c.chunks.src)) (state c.take_chunk.new.self c.take_chunk.new.keeper (g.S.Source.left c.take_chunk.new.src)) c.chunks.invariant.arrived _ (search rules) c.in-Ok-true.ensures.read c.in-Ok-true.ensures.noted

pub returns-in-Err-clause-read : goal.returns-in-Err-clause-read
returns-in-Err-clause-read g c =
    subst (λ s. AgreesWithJudging {X = ChunksSeen} (IsLegacySeen g.F.KeepsFrames.kept) (g.S.Source.left c.args.src.now) (g.S.Source.left c.take_chunk.new.src) chunks_at (Err s)) (sym c.at.ensures)
    (arrived_stopped g.F.KeepsFrames.kept g.F.KeepsFrames.notes c.args.keeper.now (g.S.Source.left c.args.src.now) _ _ (state c.chunks.seen c.chunks.keeper (g.S.Source.left c.chunks.src)) (state c.take_chunk.new.self c.take_chunk.new.keeper (g.S.Source.left c.take_chunk.new.src)) c.chunks.invariant.arrived c.in-Err.stop _ (search rules) c.in-Err.ensures.read)

pub returns-in-Ok-true-clause-noted : goal.returns-in-Ok-true-clause-noted
returns-in-Ok-true-clause-noted g c = arrived_noted g.F.KeepsFrames.kept g.F.KeepsFrames.notes c.args.keeper.now (g.S.Source.left c.args.src.now) _ _ (state c.chunks.seen c.chunks.keeper (g.S.Source.left c.chunks.src)) (state c.take_chunk.new.self c.take_chunk.new.keeper (g.S.Source.left c.take_chunk.new.src)) c.chunks.invariant.arrived _ (search rules) c.in-Ok-true.ensures.read c.in-Ok-true.ensures.noted

pub returns-in-Err-clause-noted : goal.returns-in-Err-clause-noted
returns-in-Err-clause-noted g c = any_stop _ _ _ _ _ _ (returns-in-Err-clause-read g c)
