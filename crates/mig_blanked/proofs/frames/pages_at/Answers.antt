use Rattle.std.proofs.Common.{arith, refl}
use Rattle.mig_placed.proofs.Seen.{page_len}
use Rattle.mig_blanked.proofs.frames.pages_at.Goals as goal

pub returns-then-place-eq0-clause-size : goal.returns-then-place-eq0-clause-size
returns-then-place-eq0-clause-size c = λ file. page_len file c.args.place 0 (λ _. refl) (λ some. absurd (omega (arith, some, c.if-place-eq0.true)))

pub returns-else-place-eq0-clause-size : goal.returns-else-place-eq0-clause-size
returns-else-place-eq0-clause-size c = λ file. page_len file c.args.place 1 (λ none. absurd (c.if-place-eq0.false none)) (λ _. refl)
