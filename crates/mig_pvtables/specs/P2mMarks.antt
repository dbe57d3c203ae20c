-- What is kept of each PFN while the list of the P2M frames is walked: where it was listed, whether one of the ranges that it
-- was listed for has a frame.
use Rattle.std.specs.Prelude.{Bool, false, Option, Some, None, ◌||◌}

-- a PFN of this mark can't be listed again, for a range that has a frame or hasn't
abbrev pub clashes : Option Bool → Bool → Bool
clashes None needed = false
clashes (Some mark) needed = mark || needed
