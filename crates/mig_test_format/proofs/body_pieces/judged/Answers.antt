use Rattle.std.proofs.Common.{◌≡◌, ℕ, ◌+◌, ◌≤◌, List, ◌++◌, length, take, drop, ap, subst, sym, ◌∙◌, arith, length-drop, length-take-le, rules}
use Rattle.std.proofs.Math.Seq.{take-add}
use Rattle.std.proofs.lemmas.List.{take_all}
use Rattle.mig_relay_bodies.specs.Begun.{IsBegunBody}
use Rattle.mig_test_format.proofs.body_pieces.judged.Goals as goal

-- the next piece behind the first bytes
joined : (body : List ℕ) (t w taken : ℕ) → t + w ≤ length body → taken ≡ t + length (take w (drop t body)) → take t body ++ take w (drop t body) ≡ take taken body
joined body t w taken within is =
    sym (ap (λ k. take k body) (let e : taken ≡ t + w = omega (arith, is, length-take-le w (drop t body) (omega (arith, length-drop t body, within))) in e) ∙ take-add t w body)

pub loop-known-preserved : goal.loop-known-preserved
loop-known-preserved c = record {
  len = omega (arith, c.pass.ensures.len, c.loop-known.invariant.len);
  within = search rules;
  begun = λ fault first.
      subst (λ l. IsBegunBody c.pass.new.self fault l) (joined c.args.body.now c.loop-known.known.taken _ c.pass.new.self.taken (omega (arith, c.next_piece.ensures.within, c.loop-known.invariant.len)) c.pass.ensures.taken)
      (c.pass.ensures.begun fault (take c.loop-known.known.taken c.args.body.now) (c.loop-known.invariant.begun fault first));
}

pub returns : goal.returns
returns c = λ fault first.
    let t = c.loop-known.known.taken in
    c.fault.ensures fault c.args.body.now
    (subst (λ l. IsBegunBody c.loop-known.known fault l) (take_all t c.args.body.now (omega (arith, c.loop-known-test.false, c.loop-known.invariant.len))) (c.loop-known.invariant.begun fault first))
