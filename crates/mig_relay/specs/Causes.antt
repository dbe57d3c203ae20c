-- The causes that ask for more than the parts up to the faulty one.
use Rattle.std.specs.Prelude.{Bool, true, false}
use Rattle.mig_relay.specs.Common.{Cause, Missing, P2mFrame, TargetAbsent, VcpuFrame, TooManyFrames, TooManyPairs}

-- what END asks of the whole guest, and how many bytes all pairs of an emulator spell
abbrev pub is_unasked : Cause → Bool
is_unasked (Missing _) = true
is_unasked (P2mFrame _) = true
is_unasked (TargetAbsent _ _) = true
is_unasked (VcpuFrame _ _) = true
is_unasked TooManyFrames = true
is_unasked TooManyPairs = true
is_unasked _ = false
