use Rattle.mig_relay.proofs.Common.{arith, refl, sym, ap, subst, ◌∙◌, [], List, ℕ, length, Option, Ok, Err, AgreesWithJudging, part, Truncated, AtVersion, Alone, AtLibxlHeader, InImage, IsNotRefused, RelayAnswer, wrapper_opens, image_opens}
use Rattle.mig_relay.proofs.Openings.{wrapped_form, bare_form, none_behind, begun_long, whole_not_short, ident_is_fine}
use Rattle.mig_relay.proofs.SpotParts.{start_is}
use Rattle.mig_relay.proofs.Moves.{Buffered, not_taken, not_allowed, not_written, went}
use Rattle.mig_relay.proofs.state.Relay.pass_start.Goals as goal

pub returns-in-Err-clause-moved : goal.returns-in-Err-clause-moved
returns-in-Err-clause-moved g c = not_taken start_is _ _ _ _ _ _ c.take_part.new.buf c.take_part.auto.buf (omega (arith, c.take_part.auto.buf)) c.in-Err.stop _ c.answer.ensures refl c.in-Err.ensures.read c.in-Err.ensures.few refl

pub returns-in-Some-clause-moved : goal.returns-in-Some-clause-moved
returns-in-Some-clause-moved g c = not_allowed start_is _ _ _ _ _ _ c.take_part.new.buf c.take_part.auto.buf (omega (arith, c.take_part.auto.buf)) _ c.in-Some.cause _ refl c.in-Some.ensures refl c.in_default.ensures.read refl

pub returns-in-Err-put-clause-moved : goal.returns-in-Err-put-clause-moved
returns-in-Err-put-clause-moved g c = not_written start_is _ _ _ _ _ _ c.take_part.new.buf c.take_part.auto.buf (omega (arith, c.take_part.auto.buf)) _ c.in_default.ensures.read c.in-Err-put.ensures.bytes

pub returns-then-wrapped-clause-moved : goal.returns-then-wrapped-clause-moved
returns-then-wrapped-clause-moved g c =
    let b = c.take_part.new.buf in
    record {
      is =
          went start_is _ _ _ _ _ _ b c.take_part.auto.buf (omega (arith, c.take_part.auto.buf)) _ AtLibxlHeader [] _ c.in_default-start_fault.ensures c.in_default.ensures.read c.in_default-put.ensures.bytes
          (wrapped_form b (sym (c.is_ident-wrapped.ensures) ∙ c.if-wrapped.true)) (refl, none_behind _ refl, refl) (ap (λ r. r.passed) c.in_default-put.ensures.kept) c.is_ident-wrapped.ensures (λ e. cc) (wrapper_opens b c.take_part.auto.buf (sym (c.is_ident-wrapped.ensures) ∙ c.if-wrapped.true));
    }

pub returns-else-wrapped-clause-moved : goal.returns-else-wrapped-clause-moved
returns-else-wrapped-clause-moved g c =
    let b = c.take_part.new.buf in
    record {
      is =
          went start_is _ _ _ _ _ _ b c.take_part.auto.buf (omega (arith, c.take_part.auto.buf)) _ (InImage Alone AtVersion) [] _ c.in_default-start_fault.ensures c.in_default.ensures.read c.in_default-put.ensures.bytes
          (bare_form b (sym (c.is_ident-wrapped.ensures) ∙ c.if-wrapped.false)) (ap (λ r. r.wrapper) c.in_default-put.ensures.kept ∙ c.requires, (refl, refl)) (ap (λ r. r.passed) c.in_default-put.ensures.kept) c.is_ident-wrapped.ensures (λ e. cc) (image_opens b c.take_part.auto.buf (sym (c.is_ident-wrapped.ensures) ∙ c.if-wrapped.false));
    }

pub returns-in-Err-clause-ident : goal.returns-in-Err-clause-ident
returns-in-Err-clause-ident g c left is begins =
    subst (λ (a : RelayAnswer). IsNotRefused (Err a)) (sym c.answer.ensures) (whole_not_short c.take_part.new.buf c.in-Err.stop left _ (omega (arith, c.take_part.auto.buf, begun_long left begins)) (subst (λ (o : Option (List ℕ)). AgreesWithJudging (Buffered c.take_part.new.buf) o (g.S.Source.left c.take_part.new.src) (part Truncated (length c.take_part.new.buf)) (Err c.in-Err.stop)) is c.in-Err.ensures.read))

pub returns-in-Some-clause-ident : goal.returns-in-Some-clause-ident
returns-in-Some-clause-ident g c left is begins =
    absurd (ident_is_fine c.take_part.new.buf left _ c.in-Some.cause c.take_part.auto.buf begins (subst (λ (o : Option (List ℕ)). AgreesWithJudging (Buffered c.take_part.new.buf) o (g.S.Source.left c.take_part.new.src) (part Truncated (length c.take_part.new.buf)) (Ok tt)) is c.in_default.ensures.read) c.in-Some.ensures)
