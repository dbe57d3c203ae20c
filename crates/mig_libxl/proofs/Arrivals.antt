-- The front of a libxl stream that the reader has behind it.
use Rattle.mig_libxl.proofs.Common.{ℕ, Bool, List, Option, nat_eq, LibxlRecord, ImageOf, is_libxl_ended, IsLibxlSeen, WrapperSeen, libxl_record_at}
use Rattle.mig_bytes.proofs.Arrivals as fronts

abbrev pub is_last : LibxlRecord → Bool
is_last r = nat_eq r.type 0

-- what the reader knows between two records
abbrev pub Arrived : {I : Type 0} → (I → ImageOf → Type 0) → Option (List ℕ) → Option (List ℕ) → WrapperSeen I → Type 0
Arrived is_of first now seen = fronts.Arrived is_libxl_ended libxl_record_at (IsLibxlSeen is_of) first now seen
