-- The numbers of the exercise, each a step from the one before it (a linear congruential generator of 64 bits, with the
-- constants of Knuth's MMIX).
use Rattle.std.specs.Prelude.{ℕ, zero, suc, ◌+◌, ◌*◌, ◌%◌, ◌^◌}

abbrev pub next_number : ℕ → ℕ
next_number x = (x * 6364136223846793005 + 1442695040888963407) % 2 ^ 64

-- number i behind the seed, counted from 0
unfoldable pub number : ℕ → ℕ → ℕ
number seed zero = next_number seed
number seed (suc i) = next_number (number seed i)
