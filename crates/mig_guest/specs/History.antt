-- What was asked of a machine. Only calls that answered Ok count: of `peek`, `pfn_of`, `take_log` and `pause`.
use Rattle.std.specs.Prelude.{ℕ, ◌+◌, ◌-◌, ◌^◌, min, List, [], ◌∷◌, Bool, false, ◌||◌, if◌then◌else◌}
use Rattle.mig_guest.specs.Pfns.{Pfns, no_pfns, with_pfn}

-- since a log was taken, or from the start on
pub record Since : Type 0 where
  pub read : Pfns  -- the frame numbers that were peeked
  pub twice : Bool  -- one of them was peeked twice
  pub calls : ℕ

-- a log that was taken, and what was asked since the one before it, up to and with the call that took it
pub record LogTook : Type 0 where
  pub asked : Since
  pub log : Pfns

pub record History : Type 0 where
  pub taken : List LogTook  -- the latest first
  pub since : Since
  pub live : ℕ  -- how many logs were taken before the pause

-- a number of calls stays at the last value of a counter of 64 bits
abbrev pub one_more : ℕ → ℕ
one_more calls = min (calls + 1) (2 ^ 64 - 1)

abbrev pub nothing_asked : Since
nothing_asked = record { read = no_pfns; twice = false; calls = 0 }

abbrev pub no_history : History
no_history = record { taken = []; since = nothing_asked; live = 0 }

abbrev pub and_call : Since → Since
and_call s = record { read = s.read; twice = s.twice; calls = one_more s.calls }

abbrev pub and_read : ℕ → Since → Since
and_read p s = record { read = with_pfn p s.read; twice = s.twice || s.read p; calls = one_more s.calls }

-- with one call of `peek` more
abbrev pub after_peek : ℕ → History → History
after_peek p h = record { taken = h.taken; since = and_read p h.since; live = h.live }

-- with one call of `pfn_of` or of `pause` more
abbrev pub after_call : History → History
after_call h = record { taken = h.taken; since = and_call h.since; live = h.live }

-- with this log taken, of a machine that is paused or isn't
abbrev pub after_log : Bool → Pfns → History → History
after_log paused log h = record {
  taken = record { asked = and_call h.since; log = log } ∷ h.taken;
  since = nothing_asked;
  live = if paused then h.live else h.live + 1;
}
