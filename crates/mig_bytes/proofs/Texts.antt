-- How what writers append joins.
use Rattle.mig_bytes.proofs.Common.{◌≡◌, ℕ, ◌+◌, ◌-◌, ◌≤◌, List, ◌∷◌, ◌++◌, length, take, drop, Option, Result, Ok, Err, refl, sym, ap, subst, ◌∙◌, arith, append_assoc, length-append, IsErrAnd, take-append-add, take-append-le, Appends-trans, Appends, IsErr, flat_map, AppendsPart, Puts}
use Rattle.std.proofs.lemmas.Grind.{flat_map-append}
use Rattle.std.proofs.Math.Seq.{take-add, take-length}
use Rattle.mig_bytes.specs.declared.failure.WriteFailed.{WriteFailed}

module _ {X : Type 0} where
  -- a text, and then another
  pub puts_then : (first second : List ℕ) (a b c : Option (List ℕ)) (r : Result X WriteFailed) → Appends a b first → Puts second b c r → Puts (first ++ second) a c r
  puts_then first second a b c (Ok x) p q = Appends-trans a b c first second p q
  puts_then first second a b c (Err e) p (n, less, q) =
      (length first + n, omega (arith, length-append first second), subst (Appends a c) (sym (take-append-add first second n)) (Appends-trans a b c first (take n second) p q))

  pub puts_same : (text other : List ℕ) (a b : Option (List ℕ)) (r : Result X WriteFailed) → text ≡ other → Puts other a b r → Puts text a b r
  puts_same text other a b r is p = subst (λ t. Puts t a b r) (sym is) p

-- a text whose writing failed, and nothing after it
pub puts_stop : {X : Type 0} (first second : List ℕ) (a b : Option (List ℕ)) (e d : WriteFailed) (r : Result X WriteFailed) → IsErrAnd r (λ x. x ≡ d) → AppendsPart a b first → Puts (first ++ second) a b r
puts_stop first second a b e d (Ok x) is p = absurd is
puts_stop first second a b e d (Err x) is (n, less, p) =
    (n, omega (arith, length-append first second), subst (Appends a b) (sym (take-append-le n first second (omega arith))) p)

-- the same, where all that is known of the answer is that it's an error
pub puts_part : {X : Type 0} (first second : List ℕ) (a b : Option (List ℕ)) (r : Result X WriteFailed) → IsErr r → AppendsPart a b first → Puts (first ++ second) a b r
puts_part {X} first second a b (Ok x) is p = absurd (cc)
puts_part {X} first second a b (Err e) is p = puts_stop {X = X} first second a b e e (Err e) refl p

-- the same, behind a first byte
pub puts_part_behind : {X : Type 0} (byte : ℕ) (first second : List ℕ) (a b : Option (List ℕ)) (r : Result X WriteFailed) → IsErr r → AppendsPart a b (byte ∷ first) → Puts (byte ∷ (first ++ second)) a b r
puts_part_behind byte first second = puts_part (byte ∷ first) second

-- ---- the texts of the elements of a list, some at a time

module _ {X : Type 0} (F : X → List ℕ) where
  -- n more
  pub flat_more : (i n : ℕ) (xs : List X) → flat_map F (take (i + n) xs) ≡ flat_map F (take i xs) ++ flat_map F (take n (drop i xs))
  flat_more i n xs = ap (flat_map F) (take-add i n xs) ∙ flat_map-append F (take i xs) (take n (drop i xs))

  -- and those behind them
  pub flat_parted : (i n count : ℕ) (xs : List X) → i + n ≤ count
      → flat_map F (take count xs) ≡ flat_map F (take i xs) ++ (flat_map F (take n (drop i xs)) ++ flat_map F (take (count - (i + n)) (drop (i + n) xs)))
  flat_parted i n count xs le =
      let behind = flat_map F (take (count - (i + n)) (drop (i + n) xs)) in
      ap (λ m. flat_map F (take m xs)) (let e : count ≡ (i + n) + (count - (i + n)) = omega (arith, le) in e) ∙ flat_more (i + n) (count - (i + n)) xs
      ∙ ap (λ l. l ++ behind) (flat_more i n xs) ∙ append_assoc (flat_map F (take i xs)) (flat_map F (take n (drop i xs))) behind

  pub all_parted : (i n : ℕ) (xs : List X) → i + n ≤ length xs → flat_map F xs ≡ flat_map F (take i xs) ++ (flat_map F (take n (drop i xs)) ++ flat_map F (take (length xs - (i + n)) (drop (i + n) xs)))
  all_parted i n xs le = ap (flat_map F) (sym (take-length xs)) ∙ flat_parted i n (length xs) xs le
