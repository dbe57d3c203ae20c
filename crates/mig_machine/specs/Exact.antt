-- What a machine has logged, log by log, as its script alone says it; and what it is to be a machine later on.
use Rattle.std.specs.Prelude.{◌≡◌, ℕ, ◌+◌, ◌-◌, ◌^◌, ◌≤◌, ◌<◌, min, List, [], ◌∷◌, length, true, false, if◌then◌else◌}
use Rattle.std.specs.Option.{option_map}
use Rattle.mig_machine.specs.Common.{HostOf, LogTook, History, one_more, Pfns, OfEachLog, IsLaterCourse, ran, ran_between, after, logged_after, touched}
use Rattle.mig_machine.specs.Histories.{IsLaterHistory}
use Rattle.mig_machine.specs.MachineSeen.{MachineSeen, calls_of, is_paused, log_of, history_of, course_of}

-- how many calls were made up to and with the last of these logs, which stand the latest first
abbrev pub asked_before : List LogTook → ℕ
asked_before [] = 0
asked_before (last ∷ before) = asked_before before + last.asked.calls

-- how many calls a history counts
abbrev pub asked_in : History → ℕ
asked_in k = asked_before k.taken + k.since.calls

-- no number of calls is at the last value of a counter of 64 bits
abbrev pub HasRoomToCount : ℕ → Type 0
HasRoomToCount calls = calls < 2 ^ 64 - 1

-- Each of these logs is what was touched since the log before it, up to and with the call that took it. The calls beyond the
-- first `runs` run no lines.
abbrev pub AreExact : (ℕ → ℕ → Pfns) → ℕ → List LogTook → Type 0
AreExact touched runs logs = OfEachLog (λ before log. log.log ≡ touched (min (asked_before before) runs) (min (asked_before before + log.asked.calls) runs)) logs

-- where call number `runs` is the pause, the first `live` logs were taken before it, and each other one behind it
abbrev pub StandAroundPause : ℕ → ℕ → List LogTook → Type 0
StandAroundPause runs live logs =
    OfEachLog (λ before log. (length before < live → asked_before before + log.asked.calls < runs) × (live ≤ length before → runs < asked_before before + log.asked.calls)) logs

-- The machine came from this host, which was asked nothing, by the calls of its history k. Its host, its log, and each
-- log that was taken, are what the script makes of that host.
pub record IsExactBy (h : HostOf) (m : MachineSeen) (k : History) : Type 0 where
  pub host : m.host ≡ after h (ran m.lines m.runs)
  pub log : log_of m ≡ touched h m.lines (min (asked_before k.taken) m.runs) m.runs
  pub taken : AreExact (touched h m.lines) m.runs k.taken
  -- until it is paused each call that is counted ran lines, and no other one did
  pub running : is_paused m ≡ false → m.runs ≡ min (asked_in k) (2 ^ 64 - 1)
  pub runs : m.runs ≤ asked_in k
  pub fits : m.runs ≤ 2 ^ 64 - 1
  -- each call is counted once
  pub counted : HasRoomToCount (asked_in k) → calls_of m ≡ asked_in k
  -- which logs were taken before the pause
  pub live : is_paused m ≡ false → k.live ≡ length k.taken
  pub most : k.live ≤ length k.taken
  pub stopped : is_paused m ≡ true → HasRoomToCount (asked_before k.taken) → StandAroundPause m.runs k.live k.taken

abbrev pub IsExactFrom : HostOf → MachineSeen → Type 0
IsExactFrom h m = IsExactBy h m (history_of m)

-- what the lines of one call do, before the call answers: none run where the machine is paused
pub record RunsOn (a b : MachineSeen) : Type 0 where
  pub course : IsLaterCourse (course_of a) (course_of b)
  pub runs : b.runs ≡ (if is_paused a then a.runs else one_more a.runs)
  pub behind : b.behind ≡ option_map one_more a.behind
  pub log : log_of b ≡ logged_after a.host (ran_between a.lines a.runs b.runs) (log_of a)

-- Calls up to the pause run lines: where the pause was made between, it is one of those that did, and behind it none does.
pub record RunsTillPaused (a b : MachineSeen) : Type 0 where
  pub pause : is_paused a ≡ false → is_paused b ≡ true → one_more a.runs ≤ b.runs
  pub behind : is_paused a ≡ true → (is_paused b ≡ true) × (b.runs ≡ a.runs)

-- The second is the first one later on. It has the same script, and no fewer calls were made. Its host is what the
-- lines run between make of the host of the first, and its history goes on from that of the first. Where the first was
-- exact, it is too.
pub record IsLaterMachine (a b : MachineSeen) : Type 0 where
  pub course : IsLaterCourse (course_of a) (course_of b)
  pub history : IsLaterHistory (history_of a) (history_of b)
  pub calls : RunsTillPaused a b
  pub exact : (h : HostOf) → IsExactFrom h a → IsExactFrom h b
