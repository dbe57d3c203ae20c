-- The P2M frames of a PV guest (libxc migration stream, "X86_PV_P2M_FRAMES"): NOTAB frames, numbered from 0, that hold
-- for each frame number (PFN) its machine frame (MFN), 512 in each.
use Rattle.std.specs.Prelude.{ℕ, ◌/◌, List, length, Option, Some, None, ◌==◌, nat_lt, find, if◌then◌else◌}
use Rattle.mig_pvtables.specs.Common.{range_with_len, long_at, PartMap, p2m_key}
use Rattle.std.specs.FinMap as maps

-- how many P2M frames are listed
abbrev pub count_in : Option (List ℕ) → ℕ
count_in None = 0
count_in (Some bytes) = length bytes / 8

-- the PFN listed at index k, where there is one
abbrev pub listed_in : Option (List ℕ) → ℕ → Option ℕ
listed_in None k = None
listed_in (Some bytes) k = if nat_lt k (length bytes / 8) then Some (long_at bytes k) else None

abbrev pub listed : PartMap → ℕ → Option ℕ
listed parts k = listed_in (maps.get parts p2m_key) k

-- the least index at which a PFN is listed
unfoldable pub place_in : Option (List ℕ) → ℕ → Option ℕ
place_in None pfn = None
place_in (Some bytes) pfn = find (λ k. long_at bytes k == pfn) (range_with_len 0 (length bytes / 8))

abbrev pub place_of : PartMap → ℕ → Option ℕ
place_of parts pfn = place_in (maps.get parts p2m_key) pfn
