-- The number of each chunk that is one.
use Rattle.mig_legacy.proofs.ChunkCommon.{◌≡◌, ℕ, Ok, arith, common_steps, kind_of, IsNumberOf, ChunkKind}

pub kinds_have_numbers : (n : ℕ) (kind : ChunkKind) → kind_of n ≡ Ok kind → IsNumberOf kind n
unfolding kind_of
kinds_have_numbers n kind h = grind (arith, common_steps, h)
