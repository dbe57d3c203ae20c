-- The rounds of a live save as a host and a script alone tell them.
use Rattle.std.specs.Prelude.{◌≡◌, ℕ, ◌+◌, ◌-◌, ◌≤◌, ◌<◌, ◌⊎◌, List, [], ◌∷◌, ◌++◌, length, ⊤}
use Rattle.mig_headers.specs.declared.kind.Kind.{Kind}
use Rattle.mig_machine.specs.Common.{HostOf, LineOf, touched, LogTook, Pfns, all_below, joined, members, size, AreCalls, Rounds, least_log, most_rounds}
use Rattle.mig_machine.specs.MachineSeen.{MachineSeen, history_of}
use Rattle.mig_machine.specs.Exact.{asked_before}

-- the end of a round: the number of the call that took the log, and the log
pub record Pace : Type 0 where
  pub calls : ℕ
  pub log : Pfns

-- where the round behind these begins, which stand the latest first: at the start all below the width is to be read
abbrev pub pace_before : ℕ → List Pace → Pace
pace_before width [] = record { calls = 0; log = all_below width }
pace_before width (last ∷ before) = last

-- a log behind which another round comes names `least_log` frame numbers or more
abbrev pub GoesOnFrom : ℕ → List Pace → Type 0
GoesOnFrom width [] = ⊤
GoesOnFrom width (last ∷ before) = least_log ≤ size width last.log

-- The round from the first to the second makes as many calls as what it has to read allows, and its log is what the lines
-- touch between.
pub record IsPace (touches : ℕ → ℕ → Pfns) (kind : Kind) (width : ℕ) (from to : Pace) : Type 0 where
  pub calls : AreCalls kind (size width from.log) (to.calls - from.calls)
  pub log : to.log ≡ touches from.calls to.calls

abbrev pub ArePaces : (ℕ → ℕ → Pfns) → Kind → ℕ → List Pace → Type 0
ArePaces touches kind width [] = ⊤
ArePaces touches kind width (last ∷ before) = ArePaces touches kind width before × GoesOnFrom width before × IsPace touches kind width (pace_before width before) last

-- the sizes of these logs
abbrev pub sizes : ℕ → List Pace → ℕ
sizes width [] = 0
sizes width (last ∷ before) = sizes width before + size width last.log

-- the sizes of those behind which another round comes: all but the last
abbrev pub sent_again : ℕ → List Pace → ℕ
sent_again width [] = 0
sent_again width (last ∷ before) = sizes width before

-- A save of this host while a script of these lines runs: n rounds, the pause at call number c, and e frame numbers that are
-- read beside those of the first round.
pub record Paced (h : HostOf) (lines : List LineOf) (n c e : ℕ) : Type 0 where
  pub paces : List Pace  -- the latest first
  pub last : Pfns  -- the log that is taken behind the pause
  pub number : length paces ≡ n
  pub bounds : (1 ≤ n) × (n ≤ most_rounds)
  pub are : ArePaces (touched h lines) h.kind h.width paces
  -- the last of them names fewer than `least_log`, or there are `most_rounds`
  pub ended : (size h.width (pace_before h.width paces).log < least_log) ⊎ (n ≡ most_rounds)
  pub pause : c ≡ (pace_before h.width paces).calls + 1
  pub is_last : last ≡ touched h lines (pace_before h.width paces).calls c
  pub entries : e ≡ sent_again h.width paces + size h.width (joined (pace_before h.width paces).log last)

-- what these rounds read, round by round, each ascending
abbrev pub read_in : ℕ → List Pace → List ℕ
read_in width [] = []
read_in width (last ∷ before) = read_in width before ++ members width (pace_before width before).log

-- what a save reads, in that order: all below the width, what each log but the last names, and what the last two name
abbrev pub pfns_paced : {h : HostOf} {lines : List LineOf} {n c e : ℕ} → Paced h lines n c e → List ℕ
pfns_paced {h} p = read_in h.width p.paces ++ members h.width (joined (pace_before h.width p.paces).log p.last)

-- ---- the paces of a machine

-- the calls that took these logs, and the logs
abbrev pub paces_of : List LogTook → List Pace
paces_of [] = []
paces_of (last ∷ before) = record { calls = asked_before before + last.asked.calls; log = last.log } ∷ paces_of before

-- the machine was saved in these rounds, as its script and its first host tell
pub record HasPaces (h : HostOf) (m : MachineSeen) (r : Rounds h.kind h.width (history_of m)) : Type 0 where
  pub entries : ℕ
  pub paced : Paced h m.lines (history_of m).live m.runs entries
  pub paces : paced.paces ≡ paces_of r.live
  pub last : paced.last ≡ r.last.log
