-- A machine whose guest never runs: its host stays, its log is empty, and the calls that it answered Ok are its history.
use Rattle.std.specs.Prelude.{Bool, true, false, List}
use Rattle.std.specs.List.{fold}
use Rattle.mig_test_machine.specs.Common.{HostOf, History, no_history, after_peek, after_call, after_log, no_pfns}
use Rattle.mig_guest.specs.MachineStates.{MachineState}
use Rattle.mig_test_machine.specs.declared.standing.Call.{Call}
use Rattle.mig_test_machine.specs.declared.standing.Call.TheVariants as calls

pub record Asked : Type 0 where
  pub paused : Bool
  pub history : History

abbrev pub nothing_yet : Asked
nothing_yet = record { paused = false; history = no_history }

abbrev pub and_then : Asked → Call → Asked
and_then a (calls.Peek p) = record { paused = a.paused; history = after_peek p a.history }
and_then a calls.LookUp = record { paused = a.paused; history = after_call a.history }
and_then a calls.Log = record { paused = a.paused; history = after_log a.paused no_pfns a.history }
and_then a calls.Pause = record { paused = true; history = after_call a.history }

-- what these calls make, one after another
abbrev pub asked : List Call → Asked
asked cs = fold and_then nothing_yet cs

abbrev pub standing : HostOf → Asked → MachineState
standing host a = record { host = host; log = no_pfns; paused = a.paused; honest = true; history = a.history }
