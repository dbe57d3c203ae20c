use Rattle.mig_relay.proofs.Common.{◌≡◌, Some, refl, [], ap, ◌∙◌, arith, length, common_steps, Relay, answer_of, counted, Piece, RecordHead, with_one, whole, libxl_next, AtLibxlHead, AtLibxlPadding}
use Rattle.mig_headers.specs.declared.fault.Place.TheVariants.{LibxlRecord as AtRecord}
use Rattle.mig_relay.proofs.SpotParts.{libxl_padding_is, with_libxl}
use Rattle.mig_relay.proofs.Kept.{libxl_number, wrapped_more}
use Rattle.mig_relay.proofs.Moves.{not_taken, not_written, went}
use Rattle.mig_relay.specs.declared.state.Coming.TheVariants as comes
use Rattle.mig_relay.proofs.state.Relay.pass_libxl_padding.Goals as goal

pub returns-in-Err-clause-moved : goal.returns-in-Err-clause-moved
returns-in-Err-clause-moved g c records content kept bodied none =
    not_taken (libxl_padding_is records c.args.head content c.requires.some) _ _ _ _ _ _ c.take_part.new.buf (c.take_part.auto.buf ∙ grind (arith, common_steps, c.pad_len.ensures.value, c.pad_len.ensures.small)) (grind (arith, common_steps, c.take_part.auto.buf, c.pad_len.ensures.small)) c.in-Err.stop _
    (c.answer.ensures ∙ ap (λ n. answer_of (AtRecord n) c.in-Err.stop) (c.from.ensures ∙ libxl_number c.args.self.now records c.in-Some.behind kept.0 c.in-Some.is)) refl c.in-Err.ensures.read c.in-Err.ensures.few refl

pub returns-in-Err-put-clause-moved : goal.returns-in-Err-put-clause-moved
returns-in-Err-put-clause-moved g c records content kept bodied none =
    not_written (libxl_padding_is records c.args.head content c.requires.some) _ _ _ _ _ _ c.take_part.new.buf (c.take_part.auto.buf ∙ grind (arith, common_steps, c.pad_len.ensures.value, c.pad_len.ensures.small)) (grind (arith, common_steps, c.take_part.auto.buf, c.pad_len.ensures.small)) _
    c.in_default-take_part.ensures.read c.in-Err-put.ensures.bytes

pub returns-clause-moved : goal.returns-clause-moved
returns-clause-moved g c records content kept bodied none = record {
  is =
      went (libxl_padding_is records head content c.requires.some) c.args.self.now _ _ _ _ _ c.take_part.new.buf (c.take_part.auto.buf ∙ grind (arith, common_steps, c.pad_len.ensures.value, c.pad_len.ensures.small)) (grind (arith, common_steps, c.take_part.auto.buf, c.pad_len.ensures.small)) _
      (AtLibxlHead (with_libxl records head content)) [] Piece refl c.in_default-take_part.ensures.read c.in_default-put.ensures.bytes (λ more. refl) (
        ap (λ (r : Relay). r.coming) behind,
        wrapped_more records (record { type = head.kind; content = content }) c.args.self.now _ c.in-Some.behind kept.0 c.in-Some.is (ap (λ (r : Relay). r.wrapper) behind) (ap (λ (r : Relay). r.seen) behind ∙ ap (λ (r : Relay). r.seen) same) none bodied.0,
        refl,
      )
      (ap (λ (r : Relay). r.passed) behind ∙ ap (λ (r : Relay). r.passed) same) (refl, grind (arith, common_steps, c.take_part.auto.buf, c.pad_len.ensures.small)) (λ _. ap (λ (r : Relay). r.words.items) behind ∙ ap (λ (r : Relay). r.words.items) same)
      (whole (AtLibxlPadding records head content) _ [] c.take_part.new.buf head refl (λ e. cc) tt (grind (arith, common_steps, c.take_part.auto.buf, c.pad_len.ensures.value, c.pad_len.ensures.small)) (libxl_next records (record { type = head.kind; content = content }) head.kind bodied.0 bodied.1 none));
}
  where
    head : RecordHead
    head = c.args.head

    same : c.put.new.self ≡ record c.args.self.now { passed = counted c.args.self.now.passed (length c.take_part.new.buf) }
    same = c.in_default-put.ensures.kept

    behind : c.end_libxl_record.new.self ≡ record c.put.new.self { coming = comes.LibxlHead; wrapper = Some (with_one head.kind c.in-Some.behind) }
    behind = c.end_libxl_record.ensures
