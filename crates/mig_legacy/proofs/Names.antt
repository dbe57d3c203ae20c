-- The first byte that passes a test, and what stands from it on.
use Rattle.mig_policy.proofs.TextSteps.{at_no, somewhere}
use Rattle.mig_legacy.proofs.ChunkCommon.{◌≡◌, ℕ, ◌+◌, ◌-◌, ◌<◌, ◌≤◌, Bool, not, List, length, drop, nat_eq, Some, None, sym, ap, arith, position, position_or_len, common_steps, is_name, entry_fault, entry_len, without_zeros}

at_first : (p : ℕ → Bool) (bytes : List ℕ) (i : ℕ) → Some i ≡ position p bytes → (i < length bytes) × (position_or_len p bytes ≡ i)
at_first p bytes i h =
    let (less, at) = somewhere (position_or_len p bytes) (length bytes) i (sym h) in
    (omega (arith, less, at), at)

pub name_ends : (bytes : List ℕ) (end : ℕ) → Some end ≡ position (λ b. nat_eq b 0) bytes → nat_eq (end + 1) (length bytes) ≡ is_name bytes
name_ends bytes end h = let (less, at) = at_first (λ b. nat_eq b 0) bytes end h in grind (arith, common_steps, less, at)

pub no_name_ends : (bytes : List ℕ) → None ≡ position (λ b. nat_eq b 0) bytes → nat_eq (length bytes) 0 ≡ is_name bytes
no_name_ends bytes h = let at = at_no (λ b. nat_eq b 0) bytes h in grind (arith, common_steps, at)

pub from_first : (digits : List ℕ) (first : ℕ) → Some first ≡ position (λ d. not (nat_eq d 48)) digits → drop first digits ≡ without_zeros digits
from_first digits first h =
    let (less, at) = at_first (λ d. not (nat_eq d 48)) digits first h in
    ap (λ n. drop n digits) (grind (arith, common_steps, less, at))

pub from_last : (digits : List ℕ) → None ≡ position (λ d. not (nat_eq d 48)) digits → drop (length digits - 1) digits ≡ without_zeros digits
from_last digits h = let at = at_no (λ d. not (nat_eq d 48)) digits h in ap (λ n. drop n digits) (grind (arith, common_steps, at))

pub whole_entry : (bytes : List ℕ) → entry_fault bytes ≡ None → entry_len bytes ≤ length bytes
unfolding entry_fault
whole_entry bytes h = grind (arith, common_steps)
