-- What waits to be written: how many bytes may, before and behind the next part.
use Rattle.std.specs.Prelude.{ℕ, ◌≤◌, ◌+◌, ◌*◌, List, length}
use Rattle.mig_relay.specs.Spots.{Spot, number_of_words}
use Rattle.mig_relay.specs.declared.state.Coming.{Coming}
use Rattle.mig_relay.specs.declared.state.Coming.TheVariants as comes
use Rattle.mig_relay.specs.declared.state.Relay.{Relay}

-- the bytes that wait to be written, and how often no memory was found for more
pub record HeldState : Type 0 where
  pub bytes : List ℕ
  pub faults : ℕ

-- How many bytes may wait where this comes next: 512, and 8 for each of the words in hand where one of their pages comes.
abbrev pub may_wait : Coming → ℕ → ℕ
may_wait (comes.Page head) words = 8 * words + 512
may_wait _ words = 512

-- no more waits than may wait in front of what comes next
abbrev pub Fits : Relay → List ℕ → Type 0
Fits r waiting = length waiting ≤ may_wait r.coming (length r.words.items)

-- How many bytes, of the part that comes next and in front of it, may have been taken and not written: 8 for each word of
-- its PAGE_DATA, and 4608.
abbrev pub most_waiting : Spot → ℕ
most_waiting here = 8 * number_of_words here + 4608
