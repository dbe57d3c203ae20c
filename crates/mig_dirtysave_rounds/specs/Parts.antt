-- Parts of a set of frame numbers (PFN), and how much was read.
use Rattle.std.specs.Prelude.{ℕ, ◌+◌, List, [], ◌∷◌, nat_lt, nat_le, ◌&&◌}
use Rattle.mig_dirtysave_rounds.specs.Common.{Pfns, size, LogTook, History}

-- those of a set below i
abbrev pub front : ℕ → Pfns → Pfns
front i set p = nat_lt p i && set p

-- and those from i on
abbrev pub rest : ℕ → Pfns → Pfns
rest i set p = nat_le i p && set p

-- how many PFNs were read before these logs, each log's counted apart
abbrev pub entries_read_before : ℕ → List LogTook → ℕ
entries_read_before width [] = 0
entries_read_before width (last ∷ before) = entries_read_before width before + size width last.asked.read

-- and with those read since the last log
abbrev pub entries_read : ℕ → History → ℕ
entries_read width h = entries_read_before width h.taken + size width h.since.read
