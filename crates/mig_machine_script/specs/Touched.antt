-- What the lines of a script log between two calls.
use Rattle.std.specs.Prelude.{ℕ, List}
use Rattle.mig_machine_script.specs.Common.{HostOf, Pfns, no_pfns}
use Rattle.mig_machine_script.specs.ScriptLines.{LineOf}
use Rattle.mig_machine_script.specs.Groups.{ran, ran_between}
use Rattle.mig_machine_script.specs.HostLines.{after, logged_after}

-- the frame numbers that the lines behind the a-th dot and before the b-th log, when the script runs on this host in order
abbrev pub touched : HostOf → List LineOf → ℕ → ℕ → Pfns
touched h lines a b = logged_after (after h (ran lines a)) (ran_between lines a b) no_pfns
