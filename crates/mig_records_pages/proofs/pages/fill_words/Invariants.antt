use Rattle.mig_records_pages.proofs.Common.{◌≡◌, ◌*◌, ◌≤◌, length, take, drop, words_of, pages_of}
use Rattle.mig_records_pages.proofs.pages.fill_words.Given as goal

abbrev pub invariant-loop-i : goal.invariant-loop-i
invariant-loop-i g l = record {
  at : g.F.FrameSequence.frames_from l.frames l.place ≡ drop l.i (g.F.FrameSequence.frames_from l.frames l.start);
  words : take (8 * l.i) l.words ≡ words_of (take l.i (g.F.FrameSequence.frames_from l.frames l.start));
  pages : length (pages_of (take l.i (g.F.FrameSequence.frames_from l.frames l.start))) ≡ 4096 * l.pages;
  few : l.pages ≤ l.i;
}
