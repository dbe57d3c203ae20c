-- Fields of bytes of which others follow.
use Rattle.mig_legacy.proofs.Common.{byte_in, in32}
use Rattle.mig_legacy.proofs.ChunkCommon.{◌≡◌, ℕ, ◌+◌, ◌≤◌, List, ◌++◌, length, take, drop, refl, sym, ap, ◌∙◌, arith, length-take-le, take-append-drop, le32, le64}

pub in64 : (head xs : List ℕ) (k : ℕ) → k + 8 ≤ length head → le64 (head ++ xs) k ≡ le64 head k
unfolding le64
in64 head xs k less =
    rw (byte_in head xs k 0 (omega arith), byte_in head xs k 1 (omega arith), byte_in head xs k 2 (omega arith), byte_in head xs k 3 (omega arith), byte_in head xs k 4 (omega arith), byte_in head xs k 5 (omega arith), byte_in head xs k 6 (omega arith), byte_in head xs k 7 (omega arith)) refl

pub first32 : (xs : List ℕ) (n k : ℕ) → k + 4 ≤ n → n ≤ length xs → le32 (take n xs) k ≡ le32 xs k
first32 xs n k less fits = sym (in32 (take n xs) (drop n xs) k (omega (arith, length-take-le n xs fits, less))) ∙ ap (λ l. le32 l k) (take-append-drop n xs)

pub first64 : (xs : List ℕ) (n k : ℕ) → k + 8 ≤ n → n ≤ length xs → le64 (take n xs) k ≡ le64 xs k
first64 xs n k less fits = sym (in64 (take n xs) (drop n xs) k (omega (arith, length-take-le n xs fits, less))) ∙ ap (λ l. le64 l k) (take-append-drop n xs)
