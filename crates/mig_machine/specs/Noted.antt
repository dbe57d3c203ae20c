-- The history as a machine keeps it: the first `taken` of the logs that were made beforehand.
use Rattle.std.specs.Prelude.{ℕ, zero, suc, List, [], ◌∷◌, Option, Some, None, slice_get, false}
use Rattle.mig_machine.specs.Common.{History, LogTook}
use Rattle.mig_machine.specs.MachineSeen.{LogNoted, HistoryNoted, log_told, history_told}
use Rattle.mig_machine.specs.declared.notes.KeptLog.{KeptLog}
use Rattle.mig_machine.specs.declared.notes.Notes.{Notes}

abbrev pub log_noted : Option KeptLog → LogNoted
log_noted None = record { asked = record { read = []; twice = false; calls = 0 }; log = [] }
log_noted (Some l) = record { asked = record { read = l.read.items; twice = l.twice; calls = l.calls }; log = l.log.items }

-- the latest first
abbrev pub logs_before : List KeptLog → ℕ → List LogNoted
logs_before logs zero = []
logs_before logs (suc n) = log_noted (slice_get logs n) ∷ logs_before logs n

abbrev pub noted_in : Notes → HistoryNoted
noted_in n =
    record {
      taken = logs_before n.logs.items n.taken;
      since = record { read = n.read.items; twice = n.twice; calls = n.calls };
      live = n.live;
    }

-- ---- what these tell

abbrev pub log_in : KeptLog → LogTook
log_in l = log_told (log_noted (Some l))

abbrev pub history_in : Notes → History
history_in n = history_told (noted_in n)
