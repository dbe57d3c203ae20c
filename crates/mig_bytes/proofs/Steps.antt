-- Steps one after another, and how readers of them join.
use Rattle.mig_bytes.proofs.Common.{◌≡◌, ℕ, zero, suc, ◌+◌, ◌-◌, ◌≤◌, ◌<◌, List, Option, Some, None, Ok, Err, refl, sym, ap, subst, ◌∙◌, arith, Stop, Refused, ReadFault, Memory, Judged, ◌>>=◌, AgreesWithJudging, Passes, Faulty}
use Rattle.mig_bytes.specs.Judged.{steps}

module _ {C X : Type 0} (step : ℕ → X → List ℕ → Judged C X) where
  -- the steps behind the first ones
  abbrev pub onward : ℕ → ℕ → X × List ℕ → Judged C X
  onward m k a = steps step m k a.0 a.1

  joined : (m n k : ℕ) (j : Judged C X) → ((x : X) (i : List ℕ) → steps step (n + m) (k + 1) x i ≡ (steps step n (k + 1) x i >>= onward m (k + suc n)))
      → (j >>= onward (n + m) (k + 1)) ≡ ((j >>= onward n (k + 1)) >>= onward m (k + suc n))
  joined m n k (Passes x rest) same = same x rest
  joined m n k (Faulty c rest) same = refl

  pub steps_add : (n m k : ℕ) (x : X) (i : List ℕ) → steps step (n + m) k x i ≡ (steps step n k x i >>= onward m (k + n))
  unfolding steps
  steps_add zero m k x i =
      let none : 0 + m ≡ m = omega arith in
      let same : k + 0 ≡ k = omega arith in
      ap (λ n. steps step n k x i) none ∙ ap (λ l. steps step m l x i) (sym same)
  steps_add (suc n) m k x i =
      let first : suc n + m ≡ suc (n + m) = omega arith in
      let same : (k + 1) + n ≡ k + suc n = omega arith in
      ap (λ l. steps step l k x i) first ∙ joined m n k (step k x i) (λ y j. steps_add n m (k + 1) y j ∙ ap (λ l. steps step n (k + 1) y j >>= onward m l) same)

  one : (k : ℕ) (x : X) (i : List ℕ) → steps step 1 k x i ≡ step k x i
  unfolding steps
  one k x i = unit (step k x i)
    where
      unit : (j : Judged C X) → (j >>= λ y. Passes y.0 y.1) ≡ j
      unit (Passes y rest) = refl
      unit (Faulty c rest) = refl

  -- the steps up to k, and then that of k
  pub steps_more : (k : ℕ) (x : X) (i : List ℕ) → steps step (k + 1) 0 x i ≡ (steps step k 0 x i >>= λ a. step k a.0 a.1)
  steps_more k x i =
      let same : 0 + k ≡ k = omega arith in
      steps_add k 1 0 x i ∙ ap (λ l. steps step k 0 x i >>= onward 1 l) same ∙ last (steps step k 0 x i)
    where
      last : (j : Judged C X) → (j >>= onward 1 k) ≡ (j >>= λ a. step k a.0 a.1)
      last (Passes y rest) = one k y rest
      last (Faulty c rest) = refl

  -- a fault in the first steps
  pub steps_stop : (k n : ℕ) (x : X) (i rest : List ℕ) (c : C) → k ≤ n → steps step k 0 x i ≡ Faulty c rest → steps step n 0 x i ≡ Faulty c rest
  steps_stop k n x i rest c le h =
      ap (λ m. steps step m 0 x i) (let e : n ≡ k + (n - k) = omega (arith, le) in e) ∙ steps_add k (n - k) 0 x i ∙ ap (λ j. j >>= onward (n - k) (0 + k)) h

module _ {C X V : Type 0} (R : V → X → Type 0) (step : ℕ → X → List ℕ → Judged C X) (x : X) where
  none : (v : V) (a : Option (List ℕ)) → R v x → AgreesWithJudging R a a (steps step 0 0 x) (Ok v)
  unfolding steps
  none v None r = tt
  none v (Some i) r = (x, i, refl, refl, r)

  -- no steps so far
  pub begins : (v : V) (a : Option (List ℕ)) → R v x → AgreesWithJudging R a a (steps step 0 0 x) (Ok v)
  begins v a r = none v a r

  -- one step more
  pub goes_on : (a b c : Option (List ℕ)) (k : ℕ) (v w : V) → AgreesWithJudging R a b (steps step k 0 x) (Ok v) → ((y : X) → R v y → AgreesWithJudging R b c (step k y) (Ok w)) → AgreesWithJudging R a c (steps step (k + 1) 0 x) (Ok w)
  goes_on None b c k v w h next = tt
  goes_on (Some i) b c k v w (y, rest, is, left, r) next =
      let (z, rest', is', left', q) = subst (λ o. AgreesWithJudging R o c (step k y) (Ok w)) left (next y r) in
      (z, rest', steps_more step k x i ∙ ap (λ j. j >>= λ a. step k a.0 a.1) is ∙ is', left', q)

  -- a step that stops
  pub ends : {U : Type 0} (Q : U → X → Type 0) (a b c : Option (List ℕ)) (k n : ℕ) (v : V) (e : Stop C) → k < n → AgreesWithJudging R a b (steps step k 0 x) (Ok v) → ((y : X) → R v y → AgreesWithJudging Q b c (step k y) (Err e)) → AgreesWithJudging Q a c (steps step n 0 x) (Err e)
  ends Q None b c k n v e less h next = tt
  ends Q (Some i) b c k n v (Refused cause) less (y, rest, is, left, r) next =
      let (rest', is', left') = subst (λ o. AgreesWithJudging Q o c (step k y) (Err (Refused cause))) left (next y r) in
      (rest', steps_stop step (k + 1) n x i rest' cause (omega (arith, less)) (steps_more step k x i ∙ ap (λ j. j >>= λ a. step k a.0 a.1) is ∙ is'), left')
  ends Q (Some i) b c k n v ReadFault less h next = tt
  ends Q (Some i) b c k n v Memory less h next = tt
