-- Two judgings of which one leaves causes out: they agree, or the first refuses for such a cause.
use Rattle.mig_relay.proofs.Common.{◌≡◌, ℕ, zero, suc, ◌≤◌, Bool, true, false, List, [], ◌∷◌, ◌++◌, length, Option, refl, sym, subst, arith, le_refl, Judged, ◌>>=◌, part, tried, said_at, placed, Passes, Faulty, onward, passes_not, same_faulty, over, goes_on}
use Rattle.mig_relay.proofs.Fronts.{Shrinks}

-- the second is what the first is; or the first refuses for a cause that is left out
pub data Opens {C X : Type 0} (Left : C → Type 0) : Judged C X → Judged C X → Type 0 where
  same : (j : Judged C X) → Opens Left j j
  leaves : (c : C) (rest : List ℕ) (k : Judged C X) → Left c → Opens Left (Faulty c rest) k

module _ {C X : Type 0} (Left : C → Type 0) where
  -- what passes with those causes passes without them
  pub opens_passes : (j k : Judged C X) (x : X) (rest : List ℕ) → Opens Left j k → j ≡ Passes x rest → k ≡ Passes x rest
  opens_passes j _ x rest (same _) is = is
  opens_passes _ k x rest (leaves c after _ left) is = passes_not x rest c after (sym is)

  -- what is refused for another cause is refused so without them
  pub opens_refused : (j k : Judged C X) (c : C) (rest : List ℕ) → Opens Left j k → j ≡ Faulty c rest → (Left c → ⊥) → k ≡ Faulty c rest
  opens_refused j _ c rest (same _) is other = is
  opens_refused _ k c rest (leaves d after _ left) is other = absurd (other (subst Left (same_faulty d c after rest is).0 left))

  -- judged another way
  pub opens_as : (j k first second : Judged C X) → j ≡ first → k ≡ second → Opens Left first second → Opens Left j k
  opens_as j k first second a b o = subst (λ l. Opens Left l k) (sym a) (subst (λ l. Opens Left first l) (sym b) o)

-- what follows them agrees too
pub opens_then : {C X Y : Type 0} (Left : C → Type 0) (j k : Judged C X) (f g : X × List ℕ → Judged C Y) → Opens Left j k → ((x : X) (rest : List ℕ) → j ≡ Passes x rest → Opens Left (f (x, rest)) (g (x, rest))) → Opens Left (j >>= f) (k >>= g)
opens_then Left _ _ f g (same (Passes x rest)) next = next x rest refl
opens_then Left _ _ f g (same (Faulty c rest)) next = same (Faulty c rest)
opens_then Left _ k f g (leaves c rest _ left) next = leaves c rest (k >>= g) left

-- and at a place
pub opens_placed : {P C X : Type 0} (Left : C → Type 0) (place : P) (j k : Judged C X) → Opens Left j k → Opens (λ (at : P × C). Left at.1) (placed place j) (placed place k)
opens_placed Left place j _ (same _) = same (placed place j)
opens_placed Left place _ k (leaves c rest _ left) = leaves (place, c) rest (placed place k) left

-- a part in which fewer causes are tried
pub opens_said : {C X : Type 0} (Left : C → Type 0) (truncated : C) (f g : List ℕ → Option C) (says : List ℕ → X) (n : ℕ) (i : List ℕ) → ((body rest : List ℕ) → Opens Left (tried (f body) rest) (tried (g body) rest)) → Opens Left (said_at truncated f says n i) (said_at truncated g says n i)
opens_said Left truncated f g says n i fewer =
    opens_then Left (part truncated n i) (part truncated n i) (λ b. tried (f b.0) b.1 >>= λ _. Passes (says b.0) b.1) (λ b. tried (g b.0) b.1 >>= λ _. Passes (says b.0) b.1) (same (part truncated n i))
    (λ body rest is. opens_then Left (tried (f body) rest) (tried (g body) rest) (λ _. Passes (says body) rest) (λ _. Passes (says body) rest) (fewer body rest) (λ u after fine. same (Passes (says body) rest)))

module _ {C E : Type 0} (Left : C → Type 0) (is_ended : List E → Bool) (p q : List E → List ℕ → Judged C E) (one : (parts : List E) (i : List ℕ) → Opens Left (p parts i) (q parts i)) (shrinks : Shrinks is_ended q) where
  -- what passes with those causes takes some of the input, too
  shrinks_too : Shrinks is_ended p
  shrinks_too parts i e rest going is = shrinks parts i e rest going (opens_passes Left (p parts i) (q parts i) e rest (one parts i) is)

  -- one part, and those behind it
  step : (parts : List E) (i : List ℕ) → is_ended parts ≡ false → ((e : E) (rest : List ℕ) → p parts i ≡ Passes e rest → Opens Left (onward is_ended p (parts ++ e ∷ []) rest) (onward is_ended q (parts ++ e ∷ []) rest))
      → Opens Left (onward is_ended p parts i) (onward is_ended q parts i)
  step parts i going next =
      opens_as Left _ _ _ _ (goes_on is_ended p shrinks_too parts i going) (goes_on is_ended q shrinks parts i going)
      (opens_then Left (p parts i) (q parts i) (λ e. onward is_ended p (parts ++ e.0 ∷ []) e.1) (λ e. onward is_ended q (parts ++ e.0 ∷ []) e.1) (one parts i) next)

  opens_all : (n : ℕ) (b : Bool) (parts : List E) (i : List ℕ) → is_ended parts ≡ b → length i ≤ n → Opens Left (onward is_ended p parts i) (onward is_ended q parts i)
  opens_all n true parts i ended le = opens_as Left _ _ _ _ (over is_ended p parts i ended) (over is_ended q parts i ended) (same (Passes parts i))
  opens_all zero false parts i going le = step parts i going (λ e rest is. absurd (omega (arith, le, shrinks_too parts i e rest going is)))
  opens_all (suc n) false parts i going le = step parts i going (λ e rest is. opens_all n (is_ended (parts ++ e ∷ [])) (parts ++ e ∷ []) rest refl (omega (arith, le, shrinks_too parts i e rest going is)))

  -- parts one after another
  pub opens_onward : (parts : List E) (i : List ℕ) → Opens Left (onward is_ended p parts i) (onward is_ended q parts i)
  opens_onward parts i = opens_all (length i) (is_ended parts) parts i refl (le_refl _)
