use Rattle.mig_relay.proofs.Common.{length, ◌-◌, ◌≡◌, ◌<◌, ◌≤◌, ℕ, false, slice_index, word_has_data}
use Rattle.mig_relay.proofs.pages.next_page.Given as goal

-- every word from the first place up to this one has no page
abbrev pub invariant-loop-place : goal.invariant-loop-place
invariant-loop-place l = (l.from ≤ l.place) × (l.place ≤ length l.words) × ((place : ℕ) → l.from ≤ place → place < l.place → word_has_data (slice_index l.words place) ≡ false)

abbrev pub decreases-loop-place : goal.decreases-loop-place
decreases-loop-place l = length l.words - l.place
