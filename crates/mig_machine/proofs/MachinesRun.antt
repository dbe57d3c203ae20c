-- A machine that runs lines, and what it is at.
use Rattle.mig_machine.proofs.Common.{◌≡◌, false, refl, arith, Ran, ran, after, MachineSeen, calls_of, is_paused, log_of, machine_state, course_of, IsLaterMachine, LinesRan, from_start}

-- lines ran
pub ran_lines : (a b : MachineSeen) → LinesRan a.host b.host (log_of a) (log_of b) → is_paused a ≡ false → Ran (machine_state a) (machine_state b) (log_of b)
ran_lines a b r live = record {
  shape = r.shape;
  honest = refl;
  grown = r.grown;
  quiet = λ honest. r.quiet;
  stopped = λ is. cc;
}

-- ---- what a machine is at

-- the host of a machine that is later than one of which nothing was asked
pub from_first : (first now : MachineSeen) → calls_of first ≡ 0 → IsLaterMachine first now → now.host ≡ after first.host (ran first.lines now.runs)
from_first first now none later = from_start (course_of first) (course_of now) none (omega arith) later.course
