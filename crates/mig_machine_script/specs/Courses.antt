-- How far the guest of a machine has run a script, and what it is to be later.
use Rattle.std.specs.Prelude.{◌≡◌, ℕ, ◌≤◌, List}
use Rattle.mig_machine_script.specs.Common.{HostOf}
use Rattle.mig_machine_script.specs.ScriptLines.{LineOf}
use Rattle.mig_machine_script.specs.Groups.{ran_between}
use Rattle.mig_machine_script.specs.HostLines.{after}

-- the script, how many calls were made and how many of them up to the pause, and the host
pub record Course : Type 0 where
  pub lines : List LineOf
  pub calls : ℕ
  pub runs : ℕ
  pub host : HostOf

-- the second is the first one later on
pub record IsLaterCourse (a b : Course) : Type 0 where
  pub script : b.lines ≡ a.lines
  -- no fewer calls were made
  pub calls : a.calls ≤ b.calls
  pub runs : a.runs ≤ b.runs
  -- the host is what the lines run between make of the earlier one
  pub host : b.host ≡ after a.host (ran_between a.lines a.runs b.runs)
