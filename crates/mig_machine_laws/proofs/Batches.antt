-- How many frames stand in each batch of a canonical stream.
use Rattle.std.proofs.Common.{◌≡◌, ◌≤◌, ◌<◌, ℕ, ◌+◌, ◌-◌, ◌*◌, List, length, drop, min, ap, ◌∙◌, arith, length-drop, length-take}
use Rattle.mig_canon.specs.Canon.{batch, batches}
use Rattle.mig_records_pages.specs.PageData.{Frame}

counted : (fs : List Frame) (k : ℕ) → length (batch fs k) ≡ min 1024 (length fs - 1024 * k)
counted fs k = length-take 1024 (drop (1024 * k) fs) ∙ ap (min 1024) (length-drop (1024 * k) fs)

pub full : (fs : List Frame) (k : ℕ) → k + 1 < batches fs → length (batch fs k) ≡ 1024
full fs k lt = let n = counted fs k in omega (arith, n, lt)

pub last : (fs : List Frame) (k : ℕ) → k + 1 ≡ batches fs → (1 ≤ length (batch fs k)) × (length (batch fs k) ≤ 1024)
last fs k is = let n = counted fs k in (omega (arith, n, is), omega (arith, n))

pub two : (fs : List Frame) → length fs ≡ 1025 → batches fs ≡ 2
two fs is = omega (arith, is)
