-- What each call answers, and does to a machine and its history.
use Rattle.std.specs.Prelude.{◌≡◌, ℕ, ◌≤◌, true, false, Option, Some, None, unwrap_or, List}
use Rattle.std.specs.FinMap as maps
use Rattle.mig_guest.specs.Hosts.{HostFrame, HostFrames}
use Rattle.mig_guest.specs.declared.mig_machine_api.Seen.{Seen}
use Rattle.mig_guest.specs.declared.mig_machine_api.Seen.TheVariants as seen
use Rattle.mig_guest.specs.Pfns.{Pfns, no_pfns}
use Rattle.mig_guest.specs.History.{after_peek, after_call, after_log}
use Rattle.mig_guest.specs.MachineStates.{MachineState, Ran}

abbrev pub seen_of : Option HostFrame → Seen
seen_of None = seen.Absent
seen_of (Some f) = seen.Frame f.type

-- the raw page, or without one what was there
abbrev pub page_of : Option HostFrame → List ℕ → List ℕ
page_of None old = old
page_of (Some f) old = unwrap_or f.page old

abbrev pub seen_at : HostFrames → ℕ → Seen
seen_at frames p = seen_of (maps.get frames p)

-- what a page that is handed in holds then
abbrev pub page_peeked : HostFrames → ℕ → List ℕ → List ℕ
page_peeked frames p old = page_of (maps.get frames p) old

-- from s to t this frame number was looked at
pub record Peeked (p : ℕ) (s t : MachineState) : Type 0 where
  pub ran : Ran s t t.log
  pub history : t.history ≡ after_peek p s.history
  pub paused : t.paused ≡ s.paused

-- from s to t a machine frame was looked up
pub record LookedUp (s t : MachineState) : Type 0 where
  pub ran : Ran s t t.log
  pub history : t.history ≡ after_call s.history
  pub paused : t.paused ≡ s.paused

-- from s to t this log was taken, and is empty then
pub record LogTaken (log : Pfns) (s t : MachineState) : Type 0 where
  pub ran : Ran s t log
  pub below : (p : ℕ) → s.host.width ≤ p → log p ≡ false
  pub empty : t.log ≡ no_pfns
  pub history : t.history ≡ after_log s.paused log s.history
  pub paused : t.paused ≡ s.paused

-- from s to t the guest was stopped
pub record Paused (s t : MachineState) : Type 0 where
  pub ran : Ran s t t.log
  pub history : t.history ≡ after_call s.history
  pub paused : t.paused ≡ true
