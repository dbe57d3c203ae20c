use Rattle.mig_records_pages.proofs.PageTexts.{some_short}
use Rattle.mig_records_pages.proofs.Copying.{part_same, part_front, copies_then, copies_same, record_parts}
use Rattle.mig_records_pages.proofs.pages.write_page_data.Goals as goal

pub returns-in_default-clause-bytes : goal.returns-in_default-clause-bytes
returns-in_default-clause-bytes g c = λ told.
    let fs = g.F.FrameSequence.frames_from c.args.frames.now c.args.start in let filled = c.fill_words-pages.ensures in
    part_same _ _ _ _ (record_parts fs c.args.count c.fill_words-pages.result c.requires.has filled.pages) (part_front _ _ _ _ (rw filled.words at c.in_default.ensures.bytes))

pub returns-in_default-clause-short : goal.returns-in_default-clause-short
returns-in_default-clause-short g c =
    some_short (g.F.FrameSequence.frames_from c.args.frames.now c.args.start) c.args.count c.fill_words-pages.result c.requires.has c.fill_words-pages.ensures.pages c.fill_words-pages.ensures.few

pub returns-clause-bytes : goal.returns-clause-bytes
returns-clause-bytes g c = λ told.
    let fs = g.F.FrameSequence.frames_from c.args.frames.now c.args.start in let filled = c.fill_words-pages.ensures in let r = c.write_pages.result in
    copies_same _ _ _ _ r (record_parts fs c.args.count c.fill_words-pages.result c.requires.has filled.pages)
    (copies_then _ _ _ _ _ r (rw filled.words at c.in-Ok.ensures.bytes) (c.write_pages.ensures.bytes told))

pub returns-clause-short : goal.returns-clause-short
returns-clause-short g c =
    some_short (g.F.FrameSequence.frames_from c.args.frames.now c.args.start) c.args.count c.fill_words-pages.result c.requires.has c.fill_words-pages.ensures.pages c.fill_words-pages.ensures.few
