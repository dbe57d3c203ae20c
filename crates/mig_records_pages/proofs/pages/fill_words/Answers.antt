use Rattle.mig_records_pages.proofs.Common.{◌≡◌, sym, ◌∙◌, ap, arith, Frame}
use Rattle.mig_pagetypes.specs.FrameWords.{word_of}
use Rattle.mig_records_pages.proofs.ListSteps.{drop_next, not_ended}
use Rattle.mig_records_pages.proofs.PageTexts.{pages_next, words_put}
use Rattle.mig_records_pages.proofs.pages.fill_words.Goals as goal

pub returns-in-None-clause-pages : goal.returns-in-None-clause-pages
returns-in-None-clause-pages g c =
    absurd (not_ended c.loop-i.i c.args.count (g.F.FrameSequence.frames_from c.args.frames.now c.args.start) (sym c.loop-i.invariant.at ∙ c.in-None.ensures.none) c.loop-i-test.true c.requires.has)

pub returns-in-None-clause-words : goal.returns-in-None-clause-words
returns-in-None-clause-words g c =
    absurd (not_ended c.loop-i.i c.args.count (g.F.FrameSequence.frames_from c.args.frames.now c.args.start) (sym c.loop-i.invariant.at ∙ c.in-None.ensures.none) c.loop-i-test.true c.requires.has)

pub loop-i-preserved : goal.loop-i-preserved
loop-i-preserved g c =
    let all = g.F.FrameSequence.frames_from c.args.frames.now c.args.start in
    let first = c.in-Some.ensures.some in
    let e : Frame = (c.in-Some.word.pfn, first.frame) in
    let here = sym c.loop-i.invariant.at ∙ first.is in
    let word : word_of c.in-Some.word ≡ word_of (record { pfn = e.0; kind = first.frame.type }) = ap (λ t. word_of (record { pfn = e.0; kind = t })) (sym first.type) in
    record {
      at = sym (drop_next c.loop-i.i all _ e here);
      words = words_put c.loop-i.i all _ e c.loop-i.words c.put_u64_le.new.bytes here (omega arith) c.loop-i.invariant.words (rw (c.encode_word.ensures ∙ word) at c.put_u64_le.ensures);
      pages = pages_next c.loop-i.i all _ e c.loop-i.pages c.in-Some.some here c.loop-i.invariant.pages first.size;
      few = omega (arith, first.few);
    }
