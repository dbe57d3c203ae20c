-- Sets of frame numbers (PFN).
use Rattle.std.specs.Prelude.{ℕ, ◌/◌, ◌%◌, ◌==◌, ◌||◌, List, length, Bool, false, filter, nat_lt, get_or}
use Rattle.mig_guest.specs.Common.{range_with_len, bit_at}

-- says of each number whether it is in the set
abbrev pub Pfns : Type 0
Pfns = ℕ → Bool

abbrev pub no_pfns : Pfns
no_pfns p = false

-- all below the width
abbrev pub all_below : ℕ → Pfns
all_below width p = nat_lt p width

-- the set and q
abbrev pub with_pfn : ℕ → Pfns → Pfns
with_pfn q set p = (p == q) || set p

-- what is in one of the two, or in both
abbrev pub joined : Pfns → Pfns → Pfns
joined a b p = a p || b p

-- its members below the width, ascending
abbrev pub members : ℕ → Pfns → List ℕ
members width set = filter set (range_with_len 0 width)

-- how many these are
abbrev pub size : ℕ → Pfns → ℕ
size width set = length (members width set)

-- bit p mod 64 of word p / 64 is that of p
abbrev pub pfns_of_words : List ℕ → Pfns
pfns_of_words words p = bit_at (get_or words (p / 64) 0) (p % 64) == 1
