-- An HVM context that comes in pieces: what is known of it behind its first bytes.
use Rattle.std.specs.Prelude.{◌≡◌, ◌≢◌, ◌≤◌, ◌<◌, ◌⊎◌, ℕ, ◌+◌, ◌-◌, min, List, ◌++◌, length, Option, Some, None, Result, Ok, Err, nat_lt, if◌then◌else◌}
use Rattle.mig_relay_bodies.specs.Common.{ChainTo, scan, ContextFault}
use Rattle.mig_headers.specs.declared.fault.ContextFault.TheVariants.{NoHeader, HeaderSize}
use Rattle.mig_relay_bodies.specs.declared.chain.Chain.{Chain}
use Rattle.mig_relay_bodies.specs.declared.chain.Chain.TheVariants.{Entry, Judged}

-- the fault that a scan found
abbrev pub fault_of_scanned : Result ℕ ContextFault → Option ContextFault
fault_of_scanned (Ok end) = None
fault_of_scanned (Err fault) = Some fault

-- of these bytes: whole entries stand up to here, or this is what is wrong with them
abbrev pub ChainSays : Chain → List ℕ → Type 0
ChainSays (Entry at) bytes = ChainTo bytes at
ChainSays (Judged fault) bytes = fault_of_scanned (scan bytes) ≡ fault

-- Where the next entry begins: not before the bytes that were taken, or its head isn't whole and all bytes were taken.
abbrev pub IsAhead : Chain → ℕ → ℕ → Type 0
IsAhead (Entry at) taken len = (at ≤ len) × ((taken ≤ at) ⊎ ((taken ≡ len) × (len < at + 8)))
IsAhead (Judged fault) taken len = taken ≤ len

-- the first entry isn't a header
pub data IsHeaderFault (at typecode size : ℕ) : ContextFault → Type 0 where
  not_header : at ≡ 0 → typecode ≢ 1 → IsHeaderFault at typecode size NoHeader
  not_sized : at ≡ 0 → typecode ≡ 1 → size ≢ 24 → IsHeaderFault at typecode size (HeaderSize size)

-- a context of so many bytes that begins with these, however it goes on
pub record IsBegunContext (chain : Chain) (len : ℕ) (begun : List ℕ) : Type 0 where
  pub says : (more : List ℕ) → length (begun ++ more) ≡ len → ChainSays chain (begun ++ more)
  pub ahead : IsAhead chain (length begun) len

-- how many bytes the next piece has: those before the next entry, or its head
abbrev pub chain_piece : Chain → ℕ → ℕ → ℕ
chain_piece (Entry at) taken len = if nat_lt taken at then min (min (at - taken) (len - taken)) 4096 else min (len - taken) 8
chain_piece (Judged fault) taken len = min (len - taken) 4096
