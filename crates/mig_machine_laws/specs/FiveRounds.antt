-- A history of five rounds, worked through.
use Rattle.std.specs.Prelude.{false, [], ◌∷◌}
use Rattle.mig_machine_laws.specs.Common.{History, LogTook, all_below, no_pfns}

-- a round that reads 50 frame numbers, a call each, and takes a log that names them all
abbrev pub full_round : LogTook
full_round = record { asked = record { read = all_below 50; twice = false; calls = 51 }; log = all_below 50 }

-- the log that is taken behind the pause, which names none
abbrev pub last_log : LogTook
last_log = record { asked = record { read = no_pfns; twice = false; calls = 2 }; log = no_pfns }

-- five such rounds, the pause, its log, and then what the fifth log names
abbrev pub five_rounds : History
five_rounds = record {
  taken = last_log ∷ full_round ∷ full_round ∷ full_round ∷ full_round ∷ full_round ∷ [];
  since = record { read = all_below 50; twice = false; calls = 50 };
  live = 5;
}
