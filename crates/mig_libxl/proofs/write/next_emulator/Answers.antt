use Rattle.mig_libxl.proofs.Common.{sym, ◌∙◌}
use Rattle.mig_libxl.proofs.EmulatorParts.{context_alone, context_before, pairs_alone, pairs_before}
use Rattle.mig_libxl.proofs.write.next_emulator.Goals as goal

pub returns-then-stands_before : goal.returns-then-stands_before
returns-then-stands_before c = record {
  next = context_before c.args.guest.now.parts c.args.pairs c.args.context (c.in-Some.key, c.in-Some.bytes.now) (c.in-Some-next_of_code.other, c.in-Some-next_of_code.content.now)
      c.in-Some.ensures.next c.in-Some-next_of_code.ensures.next (sym c.stands_before.ensures ∙ c.if-stands_before.true);
}

pub returns-else-stands_before : goal.returns-else-stands_before
returns-else-stands_before c = record {
  next = pairs_before c.args.guest.now.parts c.args.pairs c.args.context (c.in-Some.key, c.in-Some.bytes.now) (c.in-Some-next_of_code.other, c.in-Some-next_of_code.content.now)
      c.in-Some.ensures.next c.in-Some-next_of_code.ensures.next (sym c.stands_before.ensures ∙ c.if-stands_before.false);
}

pub returns-in-None-next_of_code : goal.returns-in-None-next_of_code
returns-in-None-next_of_code c = record { next = pairs_alone c.args.guest.now.parts c.args.pairs c.args.context (c.in-Some.key, c.in-Some.bytes.now) c.in-Some.ensures.next c.in-None-next_of_code.ensures.next }

pub returns-in-None : goal.returns-in-None
returns-in-None c = record { next = context_alone c.args.guest.now.parts c.args.pairs c.args.context _ c.in-None.ensures.next c.next_of_code-in-None.ensures.next }
