-- A machine as contracts see it. It is data: a set of frame numbers is words of 64 bits, of which bit p mod 64 of word p / 64
-- is that of p.
use Rattle.std.specs.Prelude.{ℕ, ◌+◌, Bool, true, List, map, Option, is_some, unwrap_or, refl}
use Rattle.mig_machine.specs.Common.{Coded, code_by, coded×, coded_ℕ, coded_bool, coded_list, coded_option, HostOf, host_code, History, LogTook, Since, MachineState, Pfns, pfns_of_words, LineOf, line_code, Course}

-- what was asked since a log was taken, or from the start on
pub record SinceNoted : Type 0 where
  pub read : List ℕ  -- the frame numbers that were peeked
  pub twice : Bool  -- one of them was peeked twice
  pub calls : ℕ

-- a log that was taken, and what was asked since the one before it
pub record LogNoted : Type 0 where
  pub asked : SinceNoted
  pub log : List ℕ

pub record HistoryNoted : Type 0 where
  pub taken : List LogNoted  -- the latest first
  pub since : SinceNoted
  pub live : ℕ  -- how many logs were taken before the pause

pub record MachineSeen : Type 0 where
  pub lines : List LineOf  -- the script
  pub runs : ℕ  -- how many calls were made up to the pause
  pub behind : Option ℕ  -- and how many behind it; none while it isn't paused
  pub host : HostOf
  pub log : List ℕ  -- what may have changed since the log was taken last
  pub noted : HistoryNoted

-- how many calls were made
abbrev pub calls_of : MachineSeen → ℕ
calls_of m = m.runs + unwrap_or m.behind 0

abbrev pub is_paused : MachineSeen → Bool
is_paused m = is_some m.behind

abbrev pub log_of : MachineSeen → Pfns
log_of m = pfns_of_words m.log

-- ---- what was asked of a machine

abbrev pub since_told : SinceNoted → Since
since_told s = record { read = pfns_of_words s.read; twice = s.twice; calls = s.calls }

abbrev pub log_told : LogNoted → LogTook
log_told l = record { asked = since_told l.asked; log = pfns_of_words l.log }

abbrev pub history_told : HistoryNoted → History
history_told h = record { taken = map log_told h.taken; since = since_told h.since; live = h.live }

abbrev pub history_of : MachineSeen → History
history_of m = history_told m.noted

-- the state that calls speak of: a machine is honest
abbrev pub machine_state : MachineSeen → MachineState
machine_state m = record { host = m.host; log = log_of m; paused = is_paused m; honest = true; history = history_of m }

-- how far its guest has run its script
abbrev pub course_of : MachineSeen → Course
course_of m = record { lines = m.lines; calls = calls_of m; runs = m.runs; host = m.host }

-- ---- the code of a machine, by which proofs tell its values apart

abbrev pub since_code : Coded SinceNoted
since_code = code_by (List ℕ × (Bool × ℕ)) (coded× (coded_list coded_ℕ) (coded× coded_bool coded_ℕ)) (λ s. (s.read, (s.twice, s.calls))) (λ p. record { read = p.0; twice = p.1.0; calls = p.1.1 }) (λ _. refl)

abbrev pub log_code : Coded LogNoted
log_code = code_by (SinceNoted × List ℕ) (coded× since_code (coded_list coded_ℕ)) (λ l. (l.asked, l.log)) (λ p. record { asked = p.0; log = p.1 }) (λ _. refl)

abbrev pub history_code : Coded HistoryNoted
history_code = code_by (List LogNoted × (SinceNoted × ℕ)) (coded× (coded_list log_code) (coded× since_code coded_ℕ)) (λ h. (h.taken, (h.since, h.live))) (λ p. record { taken = p.0; since = p.1.0; live = p.1.1 }) (λ _. refl)

abbrev pub machine_code : Coded MachineSeen
machine_code =
    code_by (List LineOf × (ℕ × (Option ℕ × (HostOf × (List ℕ × HistoryNoted)))))
    (coded× (coded_list line_code) (coded× coded_ℕ (coded× (coded_option coded_ℕ) (coded× host_code (coded× (coded_list coded_ℕ) history_code)))))
    (λ m. (m.lines, (m.runs, (m.behind, (m.host, (m.log, m.noted))))))
    (λ p. record { lines = p.0; runs = p.1.0; behind = p.1.1.0; host = p.1.1.1.0; log = p.1.1.1.1.0; noted = p.1.1.1.1.1 }) (λ _. refl)
