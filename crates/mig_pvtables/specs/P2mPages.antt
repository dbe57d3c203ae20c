-- The page of a P2M frame in a machine.
use Rattle.std.specs.Prelude.{ℕ, ◌+◌, ◌-◌, ◌*◌, ◌^◌, List, Option, unwrap_or}
use Rattle.mig_pvtables.specs.Common.{longs}

-- P2M frame k: slot s holds what mfn_of gives for frame number 512k + s, or all ones
abbrev pub p2m_page : (ℕ → Option ℕ) → ℕ → List ℕ
p2m_page mfn_of k = longs 512 (λ slot. unwrap_or (mfn_of (512 * k + slot)) (2 ^ 64 - 1))
