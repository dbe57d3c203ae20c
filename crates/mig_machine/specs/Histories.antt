-- What it is for a history to go on from an earlier one.
use Rattle.std.specs.Prelude.{◌≡◌, ℕ, ◌+◌, ◌-◌, ◌^◌, ◌≤◌, min, List, [], ◌∷◌, ◌++◌, length, true}
use Rattle.mig_machine.specs.Common.{History, LogTook, Since}

-- More was asked, or as much. Nothing that was read is forgotten. No fewer calls are counted, but for a number of calls
-- that stays at the last value of a counter of 64 bits.
pub record AsksOn (s t : Since) : Type 0 where
  pub read : (p : ℕ) → s.read p ≡ true → t.read p ≡ true
  pub twice : s.twice ≡ true → t.twice ≡ true
  pub calls : min s.calls (2 ^ 64 - 1) ≤ t.calls

-- what was asked goes on up to the first of these logs, which stand the latest first, and without one up to `last`
abbrev pub AsksOnTo : Since → List LogTook → Since → Type 0
AsksOnTo s [] last = AsksOn s last
AsksOnTo s (log ∷ before) last = AsksOnTo s before log.asked

-- the second goes on from the first: further logs were taken, and each of them before the pause or behind it
pub record IsLaterHistory (h k : History) : Type 0 where
  pub more : List LogTook
  pub taken : k.taken ≡ more ++ h.taken
  pub asked : AsksOnTo h.since more k.since
  pub live : (h.live ≤ k.live) × (k.live ≤ h.live + length more)
