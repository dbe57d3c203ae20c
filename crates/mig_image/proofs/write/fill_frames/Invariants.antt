use Rattle.mig_image.proofs.Common.{◌≡◌, ◌≤◌, ◌*◌, length, take, drop, flat_map, entries_from, frame_text, Two}
use Rattle.std.specs.FinMap as maps
use Rattle.mig_image.proofs.write.fill_frames.Given as goal

abbrev pub invariant-loop-i : goal.invariant-loop-i
invariant-loop-i l = record {
  at : entries_from l.from (maps.entries l.host.host.frames) ≡ drop l.i (entries_from l.start (maps.entries l.host.host.frames));
  bytes : take l.used l.buffer ≡ flat_map (frame_text Two) (take l.i (entries_from l.start (maps.entries l.host.host.frames)));
  few : l.used ≤ 4112 * l.i;
  room : length l.buffer ≡ length l.fn.buffer;
}
