use Rattle.mig_records_pages.proofs.Common.{◌≡◌, ◌*◌, ◌-◌, ◌≤◌, true, length, take, drop, pages_of}
use Rattle.mig_records_pages.proofs.pages.gather_pages.Given as goal

abbrev pub invariant-loop-done : goal.invariant-loop-done
invariant-loop-done g l = record {
  at : g.F.FrameSequence.frames_from l.frames l.place ≡ drop l.done (g.F.FrameSequence.frames_from l.frames l.start);
  bytes : g.F.FrameSequence.told l.frames ≡ true → take (4096 * l.pages) l.buffer ≡ pages_of (take l.done (g.F.FrameSequence.frames_from l.frames l.start));
  within : l.done ≤ l.count;
  few : l.pages ≤ l.done;
  room : length l.buffer ≡ length l.fn.buffer;
}

abbrev pub decreases-loop-done : goal.decreases-loop-done
decreases-loop-done g l = l.count - l.done
