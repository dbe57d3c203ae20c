use Rattle.mig_relay.proofs.Common.{◌≡◌, refl, [], ap, ◌∙◌, arith, length, common_steps, Record, Relay, answer_of, counted, Piece, RecordHead, InImage, carry, whole, image_next, AtHead, AtPadding, record_with}
use Rattle.mig_relay.proofs.Unrolls.{padding_is, with}
use Rattle.mig_relay.proofs.SpotParts.{lifted}
use Rattle.mig_relay.proofs.Kept.{this_number, records_same, records_more, outer_same}
use Rattle.mig_relay.proofs.Moves.{not_taken, not_written, went}
use Rattle.mig_relay.proofs.state.Relay.pass_padding.Goals as goal

pub returns-in-Err-clause-moved : goal.returns-in-Err-clause-moved
returns-in-Err-clause-moved g c outer o records content around kept other =
    not_taken (lifted (carry outer) (padding_is o records c.args.head content c.requires.some)) _ _ _ _ _ _ c.take_part.new.buf (c.take_part.auto.buf ∙ grind (arith, common_steps, c.pad_len.ensures.value, c.pad_len.ensures.small)) (grind (arith, common_steps, c.take_part.auto.buf, c.pad_len.ensures.small)) c.in-Err.stop _
    (c.answer.ensures ∙ ap (λ n. answer_of (Record n) c.in-Err.stop) (c.from.ensures ∙ this_number _ o records _ kept.seen)) refl c.in-Err.ensures.read c.in-Err.ensures.few refl

pub returns-in-Err-put-clause-moved : goal.returns-in-Err-put-clause-moved
returns-in-Err-put-clause-moved g c outer o records content around kept other =
    not_written (lifted (carry outer) (padding_is o records c.args.head content c.requires.some)) _ _ _ _ _ _ c.take_part.new.buf (c.take_part.auto.buf ∙ grind (arith, common_steps, c.pad_len.ensures.value, c.pad_len.ensures.small)) (grind (arith, common_steps, c.take_part.auto.buf, c.pad_len.ensures.small)) _
    c.in_default.ensures.read c.in-Err-put.ensures.bytes

pub returns-clause-moved : goal.returns-clause-moved
returns-clause-moved g c outer o records content around kept other = record {
  is =
      went (lifted (carry outer) (padding_is o records head content c.requires.some)) c.args.self.now _ _ _ _ _ c.take_part.new.buf (c.take_part.auto.buf ∙ grind (arith, common_steps, c.pad_len.ensures.value, c.pad_len.ensures.small)) (grind (arith, common_steps, c.take_part.auto.buf, c.pad_len.ensures.small)) _
      (InImage outer (AtHead o (with o records head content))) [] Piece refl c.in_default.ensures.read c.in_default-put.ensures.bytes (λ more. refl) (
        outer_same c.args.self.now _ outer (ap (λ (r : Relay). r.wrapper) same) around,
        (
          refl,
          records_more _ o records head content _ (records_same c.args.self.now _ o records _ _ (ap (λ (r : Relay). r.seen) same) (ap (λ (r : Relay). r.top) same) kept) other,
          refl,
        ),
      )
      (ap (λ (r : Relay). r.passed) same) (refl, grind (arith, common_steps, c.take_part.auto.buf, c.pad_len.ensures.small)) (λ _. ap (λ (r : Relay). r.words.items) same)
      (whole (InImage outer (AtPadding o records head content)) _ [] c.take_part.new.buf head refl (λ e. cc) tt (grind (arith, common_steps, c.take_part.auto.buf, c.pad_len.ensures.value, c.pad_len.ensures.small)) (image_next outer o records (record_with records head content) head.kind other));
}
  where
    head : RecordHead
    head = c.args.head

    same : c.put.new.self ≡ record c.args.self.now { passed = counted c.args.self.now.passed (length c.take_part.new.buf) }
    same = c.in_default-put.ensures.kept
