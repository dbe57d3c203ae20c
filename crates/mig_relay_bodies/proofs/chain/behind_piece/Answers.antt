use Rattle.mig_relay_bodies.proofs.Common.{subst, sym, ◌∙◌, IsBegunContext, Chain}
use Rattle.mig_relay_bodies.proofs.ContextChain.{head_known, room_for}
use Rattle.mig_relay_bodies.proofs.chain.behind_piece.Goals as goal

pub returns-then-piece-eq8 : goal.returns-then-piece-eq8
returns-then-piece-eq8 c = λ begun taken known.
    head_known c.behind_head.result begun c.args.piece.now c.in-Entry.at c.args.len (c.if-at-taken.true ∙ sym taken) c.if-piece-eq8.true
    (room_for c.args.chain c.in-Entry.at c.args.taken c.args.len _ c.in-Entry.is c.if-at-taken.true c.requires.whole c.if-piece-eq8.true)
    c.behind_head.ensures.ahead
    (λ bytes len chain code size. c.behind_head.ensures.says bytes len chain (c.u16_le.ensures ∙ code) (c.u32_le.ensures ∙ size))
    (subst (λ (k : Chain). IsBegunContext k c.args.len begun) c.in-Entry.is known)
