-- What stands in a file behind which another stands.
use Rattle.mig_placed.proofs.Common.{◌≡◌, ◌≤◌, ◌<◌, ℕ, ◌+◌, ◌-◌, ◌^◌, List, ◌++◌, length, take, drop, Bool, true, false, Option, Some, None, IfSome, refl, sym, ap, subst, ◌∙◌, arith, append-nil, [], ◌∷◌, length-drop, take-append-le, take_all, IsThere, drop-append-le, joined_bytes}
use Rattle.std.proofs.Common.{min, cond, nat_lt, length-append}
use Rattle.std.proofs.lemmas.Bool.{ltb-true}
use Rattle.std.proofs.Math.Seq.{drop-append-add, take-append-add}
use Rattle.std.proofs.lemmas.List.Elements.{All-append}
use Rattle.mig_bytes.specs.Bytes.{AreBytes}

module _ (all more : List ℕ) where
  there_inside : (at : ℕ) (b : List ℕ) → IsThere all at b → IsThere (all ++ more) at b
  there_inside at b (fits, is) = (
    omega (arith, fits, length-append all more),
    ap (take (length b)) (drop-append-le at all more (omega (arith, fits))) ∙ take-append-le (length b) (drop at all) more (omega (arith, fits, length-drop at all)) ∙ is,
  )

  there_behind : (at : ℕ) (b : List ℕ) → length all ≤ at → IsThere more (at - length all) b → IsThere (all ++ more) at b
  there_behind at b le (fits, is) = (
    omega (arith, fits, le, length-append all more),
    ap (take (length b)) (ap (λ n. drop n (all ++ more)) (let e : at ≡ length all + (at - length all) = omega (arith, le) in e) ∙ drop-append-add all more (at - length all)) ∙ is,
  )

  there_across : (at : ℕ) (a b : List ℕ) → at ≤ length all → length a ≡ length all - at → IsThere all at a → IsThere more 0 b → IsThere (all ++ more) at (a ++ b)
  there_across at a b le size (fits, is) (fits', is') =
      let whole : drop at all ≡ a = sym (take_all (length a) (drop at all) (omega (arith, size, length-drop at all))) ∙ is in (
        omega (arith, fits, fits', le, size, length-append a b, length-append all more),
        ap (take (length (a ++ b))) (drop-append-le at all more le ∙ ap (λ l. l ++ more) whole) ∙ ap (λ n. take n (a ++ more)) (length-append a b) ∙ take-append-add a more (length b) ∙ ap (λ l. a ++ l) is',
      )

told_by : (all more : List ℕ) (P : List ℕ → Type 0) (b : Bool) → (b ≡ true → P (all ++ more)) → IfSome (cond b (Some (all ++ more)) None) P
told_by all more P true h = h refl
told_by all more P false h = tt

-- what holds of all the bytes, where they are told
told : (o p : Option (List ℕ)) (P : List ℕ → Type 0) → ((all more : List ℕ) → o ≡ Some all → p ≡ Some more → length all + length more < 2 ^ 64 → P (all ++ more)) → IfSome (joined_bytes o p) P
told None p P h = tt
told (Some all) None P h = tt
told (Some all) (Some more) P h = told_by all more P (nat_lt (length all + length more) (2 ^ 64)) (λ is. h all more refl refl (ltb-true _ _ is))

-- of one file
of : (o : Option (List ℕ)) (all : List ℕ) (Q : List ℕ → Type 0) → o ≡ Some all → IfSome o Q → Q all
of o all Q some h = subst (λ x. IfSome x Q) some h

pub size_is : (o p : Option (List ℕ)) (n m size : ℕ) → IfSome o (λ all. n ≡ length all) → IfSome p (λ more. m ≡ length more) → size ≡ min (n + m) (2 ^ 64 - 1) → IfSome (joined_bytes o p) (λ all. size ≡ length all)
size_is o p n m size first second is = told o p (λ all. size ≡ length all)
    (λ all more some too small. omega (arith, is, of o all (λ all. n ≡ length all) some first, of p more (λ more. m ≡ length more) too second, small, length-append all more))

module _ (o p : Option (List ℕ)) (n at : ℕ) (size : IfSome o (λ all. n ≡ length all)) where
  size_at : (all : List ℕ) → o ≡ Some all → n ≡ length all
  size_at all some = of o all (λ all. n ≡ length all) some size

  pub read_inside : (b : List ℕ) → IfSome o (λ all. IsThere all at b) → IfSome (joined_bytes o p) (λ all. IsThere all at b)
  read_inside b there = told o p (λ all. IsThere all at b) (λ all more some too small. there_inside all more at b (of o all (λ all. IsThere all at b) some there))

  pub read_behind : (b : List ℕ) → n ≤ at → IfSome p (λ more. IsThere more (at - n) b) → IfSome (joined_bytes o p) (λ all. IsThere all at b)
  read_behind b le there = told o p (λ all. IsThere all at b)
      (λ all more some too small. let e : n ≡ length all = size_at all some in
      there_behind all more at b (omega (arith, e, le)) (subst (λ m. IsThere more (at - m) b) e (of p more (λ more. IsThere more (at - n) b) too there)))

  pub read_across : (a b : List ℕ) → at ≤ n → length a ≡ n - at → IfSome o (λ all. IsThere all at a) → IfSome p (λ more. IsThere more 0 b) → IfSome (joined_bytes o p) (λ all. IsThere all at (a ++ b))
  read_across a b le len there then = told o p (λ all. IsThere all at (a ++ b))
      (λ all more some too small. let e : n ≡ length all = size_at all some in
      there_across all more at a b (omega (arith, e, le)) (omega (arith, e, len)) (of o all (λ all. IsThere all at a) some there) (of p more (λ more. IsThere more 0 b) too then))

none_left : (xs : List ℕ) (n : ℕ) → length xs ≤ n → drop n xs ≡ []
none_left xs n le = empty (drop n xs) (omega (arith, le, length-drop n xs))
  where
    empty : (ys : List ℕ) → length ys ≡ 0 → ys ≡ []
    empty [] e = refl
    empty (y ∷ ys) e = absurd (omega (arith, e))

-- a buffer of which the front was filled, and then all behind it
pub filled : (f : ℕ) (a b buf : List ℕ) → length a ≡ f → take f (a ++ drop f buf) ++ (b ++ drop (length (a ++ drop f buf) - f) (drop f (a ++ drop f buf))) ≡ a ++ b
filled f a b buf size =
    let whole = a ++ drop f buf in
    let front : take f whole ≡ a = take-append-le f a (drop f buf) (omega (arith, size)) ∙ take_all f a (omega (arith, size)) in
    let behind : drop (length whole - f) (drop f whole) ≡ [] = none_left (drop f whole) (length whole - f) (omega (arith, length-drop f whole)) in
    (λ i. front i ++ (b ++ behind i)) ∙ ap (λ l. a ++ l) (append-nil b)

pub both_bytes : (o p : Option (List ℕ)) → IfSome o AreBytes → IfSome p AreBytes → IfSome (joined_bytes o p) AreBytes
both_bytes o p first second = told o p AreBytes (λ all more some too small. All-append (λ b. b < 256) all more (of o all AreBytes some first) (of p more AreBytes too second))
