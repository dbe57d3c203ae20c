-- A vector that grew, and whose new part was written.
use Rattle.mig_bytes.proofs.Common.{◌≡◌, ℕ, ◌+◌, ◌-◌, List, [], ◌++◌, length, take, drop, sym, ap, ◌∙◌, arith, append-nil, length-append, length-drop, take_all, drop_all, take-append-add, take-append-le, take-append_seam, post_of, replicate}

front_kept : (items grown : List ℕ) (before n m : ℕ) → length items ≡ before → grown ≡ take (before + n) items ++ replicate m 0 → take before grown ≡ items
front_kept items grown before n m size is =
    let whole : take (before + n) items ≡ items = take_all (before + n) items (omega arith) in
    ap (take before) (is ∙ ap (λ l. l ++ replicate m 0) whole)
    ∙ take-append-le before items (replicate m 0) (omega arith)
    ∙ take_all before items (omega arith)

-- the first items stay, and the written part stands behind them
pub tail_written : (items grown seen part : List ℕ) (before n m len k : ℕ) → length items ≡ before → grown ≡ take (before + n) items ++ replicate m 0 → seen ≡ grown → length grown ≡ before + n
    → length part ≡ k → k ≡ length seen - before → len ≡ before + n
    → take len (take before seen ++ (part ++ post_of before k seen) ++ drop (length (take before seen ++ (part ++ post_of before k seen))) grown) ≡ items ++ part
tail_written items grown seen part before n m len k size is same all fits whole end =
    let seen_all : length seen ≡ before + n = ap length same ∙ all in
    let head : take before seen ≡ items = ap (take before) same ∙ front_kept items grown before n m size is in
    let none : post_of before k seen ≡ [] = drop_all k (drop before seen) (omega (arith, length-drop before seen)) in
    let body : take before seen ++ (part ++ post_of before k seen) ≡ items ++ part =
    ap (λ l. l ++ (part ++ post_of before k seen)) head ∙ ap (λ l. items ++ (part ++ l)) none ∙ ap (λ l. items ++ l) (append-nil part) in
    let long : length (items ++ part) ≡ len = omega (arith, length-append items part) in
    ap (λ l. take len (l ++ drop (length l) grown)) body
    ∙ take-append-le len (items ++ part) (drop (length (items ++ part)) grown) (omega arith)
    ∙ take_all len (items ++ part) (omega arith)

-- cut behind some of the written part
pub first_items : (items part : List ℕ) (before n : ℕ) → length items ≡ before → take (before + n) (items ++ part) ≡ items ++ take n part
first_items items part before n size = ap (λ m. take (m + n) (items ++ part)) (sym size) ∙ take-append-add items part n

-- the vector stayed as it was, and more was taken
pub kept_first : (old grown new gone more : List ℕ) → new ≡ grown → grown ≡ old ++ gone → new ≡ old ++ take (length gone) (gone ++ more)
kept_first old grown new gone more same is = same ∙ is ∙ ap (λ l. old ++ l) (sym (take-append_seam gone more))
