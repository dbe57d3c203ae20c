-- What the fields of a machine are seen as, and what is true of them.
use Rattle.std.specs.Prelude.{◌≡◌, ℕ, ◌+◌, ◌/◌, ◌≤◌, length, drop, false}
use Rattle.mig_machine.specs.Common.{most_saved_width, pfns_of_words, lines_up_to, room_for}
use Rattle.mig_machine.specs.MachineSeen.{MachineSeen}
use Rattle.mig_machine.specs.Noted.{noted_in}
use Rattle.mig_machine.specs.declared.machine.ScriptMachine.TheInside.{Inside}

abbrev pub machine_seen : Inside → MachineSeen
machine_seen m = record { lines = m.script; runs = m.runs; behind = m.behind; host = m.host.host; log = m.log.items; noted = noted_in m.notes }

pub record IsMachine (m : Inside) : Type 0 where
  pub narrow : m.host.host.width ≤ most_saved_width
  -- a word for each 64 frame numbers
  pub log_size : length m.log.items ≡ (m.host.host.width + 63) / 64
  pub notes_size : length m.notes.read.items ≡ (m.host.host.width + 63) / 64
  pub log_below : (pfn : ℕ) → m.host.host.width ≤ pfn → pfns_of_words m.log.items pfn ≡ false
  -- the lines up to here were run, and the others have room
  pub left : m.at ≡ lines_up_to m.script m.runs
  pub room : room_for (drop m.at m.script) ≤ m.host.spare
