-- Laws of what a relay stands for.
use Rattle.std.specs.Prelude.{◌≡◌, ℕ, false, List}
use Rattle.mig_relay.specs.Streams.{open_stream_at}
use Rattle.mig_relay.specs.Standing.{StandsForBytes, is_at_end}
use Rattle.mig_relay.specs.Steps.{EndsInside}
use Rattle.mig_relay.specs.declared.state.Relay.{Relay}

-- A list that a relay stands for, and that isn't passable, is a faultless front, or one and the first bytes of the next part.
abbrev pub ListsAreFronts : Type 0
ListsAreFronts = (r : Relay) (bytes : List ℕ) → StandsForBytes r bytes → is_at_end r.coming ≡ false → EndsInside (open_stream_at bytes)
