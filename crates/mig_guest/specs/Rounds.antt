-- The rounds of a save, in a history. L1 to Ln are the logs taken before the pause, M is the log taken after it. Ri is what
-- was read before Li and since the log before it, F is what was read after M.
use Rattle.std.specs.Prelude.{◌≡◌, ℕ, ◌+◌, ◌*◌, ◌≤◌, ◌<◌, ◌⊎◌, List, [], ◌∷◌, ◌++◌, length, true, false, ⊤}
use Rattle.mig_guest.specs.Common.{Kind, Pv, Hvm}
use Rattle.mig_guest.specs.Pfns.{Pfns, no_pfns, all_below, joined, members, size}
use Rattle.mig_guest.specs.History.{LogTook, History}

-- the most rounds before the pause
abbrev pub most_rounds : ℕ
most_rounds = 5

-- the fewest PFNs that a log names behind which another round comes
abbrev pub least_log : ℕ
least_log = 50

-- P holds of each of these logs, which stand the latest first, and of those before it
abbrev pub OfEachLog : (List LogTook → LogTook → Type 0) → List LogTook → Type 0
OfEachLog P [] = ⊤
OfEachLog P (log ∷ before) = OfEachLog P before × P before log

-- what the round behind these logs has to read: what the last one names, or at first every PFN below the width
abbrev pub to_read : ℕ → List LogTook → Pfns
to_read width [] = all_below width
to_read width (last ∷ before) = last.log

-- a log behind which another round comes names `least_log` PFNs or more
abbrev pub GoesOn : ℕ → List LogTook → Type 0
GoesOn width [] = ⊤
GoesOn width (last ∷ before) = least_log ≤ size width last.log

-- how many calls a round makes that reads so many PFNs, with the one that takes its log: a table has 512 entries to look up
abbrev pub AreCalls : Kind → ℕ → ℕ → Type 0
AreCalls Pv read calls = (read + 1 ≤ calls) × (calls ≤ 513 * read + 1)
AreCalls Hvm read calls = calls ≡ read + 1

pub record Rounds (kind : Kind) (width : ℕ) (h : History) : Type 0 where
  -- Ln to L1, and M, which are all logs that were taken
  pub live : List LogTook
  pub last : LogTook
  pub logs : h.taken ≡ last ∷ live
  pub before_pause : length live ≡ h.live
  -- n is from 1 to `most_rounds`
  pub number : (1 ≤ length live) × (length live ≤ most_rounds)
  -- the first round reads all PFNs below the width, and each further one those that the log before it names
  pub reads : OfEachLog (λ before log. log.asked.read ≡ to_read width before) live
  -- each log before Ln names `least_log` PFNs or more; Ln names fewer, or n is `most_rounds`
  pub sizes : OfEachLog (λ before log. GoesOn width before) live × ((size width (to_read width live) < least_log) ⊎ (length live ≡ most_rounds))
  -- how many calls there were since the log before Li, up to and with Li
  pub calls : OfEachLog (λ before log. AreCalls kind (size width log.asked.read) log.asked.calls) live
  -- behind Ln the pause and M are the next two calls, so nothing is read between Ln and M
  pub stopped : (last.asked.read ≡ no_pfns) × (last.asked.calls ≡ 2)
  -- F includes Ln and M
  pub rest : (p : ℕ) → joined (to_read width live) last.log p ≡ true → h.since.read p ≡ true
  -- in no Ri and not in F a PFN was read twice
  pub once : OfEachLog (λ before log. log.asked.twice ≡ false) live × (h.since.twice ≡ false)

-- F is Ln and M, and nothing else
pub record Tight (kind : Kind) (width : ℕ) (h : History) : Type 0 where
  pub rounds : Rounds kind width h
  pub exact : h.since.read ≡ joined (to_read width rounds.live) rounds.last.log

-- ---- in which order

-- what was read before these logs, round by round, each ascending
abbrev pub rounds_read : ℕ → List LogTook → List ℕ
rounds_read width [] = []
rounds_read width (last ∷ before) = rounds_read width before ++ members width last.asked.read

-- and what was read since the last log
abbrev pub all_read : ℕ → History → List ℕ
all_read width h = rounds_read width h.taken ++ members width h.since.read
