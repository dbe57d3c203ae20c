-- A field written in place.
use Rattle.mig_bytes.proofs.Common.{◌≡◌, ℕ, ◌+◌, ◌-◌, List, [], ◌++◌, length, take, drop, ap, ◌∙◌, arith, append-nil, length-drop, drop-drop, take_all, drop_all, put_mid, mid_of}
use Rattle.mig_bytes.specs.Fields.{with_field}

-- the bytes from `at` on were written anew: a field, and then what stood behind it
pub put_field : (bytes field written : List ℕ) (at n k : ℕ) → length field ≡ n → k ≡ length bytes - at → written ≡ field ++ drop n (mid_of at k bytes) → put_mid at k bytes written ≡ with_field bytes at field
put_field bytes field written at n k size is wrote =
    let whole : take k (drop at bytes) ≡ drop at bytes = take_all k (drop at bytes) (omega (arith, length-drop at bytes)) in
    let none : drop k (drop at bytes) ≡ [] = drop_all k (drop at bytes) (omega (arith, length-drop at bytes)) in
    let after : drop n (take k (drop at bytes)) ≡ drop (at + length field) bytes = ap (drop n) whole ∙ drop-drop n at bytes ∙ ap (λ m. drop m bytes) (let e : at + n ≡ at + length field = omega (arith, size) in e) in
    ap (λ l. take at bytes ++ (l ++ drop k (drop at bytes))) wrote
    ∙ ap (λ l. take at bytes ++ ((field ++ drop n (take k (drop at bytes))) ++ l)) none
    ∙ ap (λ l. take at bytes ++ l) (append-nil (field ++ drop n (take k (drop at bytes))) ∙ ap (λ l. field ++ l) after)
