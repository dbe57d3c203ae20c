-- How readers join that tell the place of a fault.
use Rattle.mig_bytes.proofs.Common.{◌≡◌, ℕ, ◌+◌, ◌<◌, List, Option, Some, None, Result, Ok, Err, sym, ap, subst, Stop, Refused, ReadFault, Memory, Judged, ◌>>=◌, placed, AgreesWithJudging}
use Rattle.mig_bytes.specs.Judged.{steps, stop_at}
use Rattle.mig_bytes.proofs.Joins.{any_stop, seq, stop}
use Rattle.mig_bytes.proofs.Steps.{goes_on, ends}

module _ {P C X Y : Type 0} (R : X → Y → Type 0) (place : P) (a b : Option (List ℕ)) (f : List ℕ → Judged C Y) where
  -- no fault
  fine : (o : Option (List ℕ)) (x : X) → AgreesWithJudging R o b f (Ok x) → AgreesWithJudging R o b (λ i. placed place (f i)) (Ok x)
  fine None x h = tt
  fine (Some i) x (y, rest, is, left, r) = (y, rest, ap (placed place) is, left, r)

  -- a fault, or none is known
  stopped : (o : Option (List ℕ)) (e : Stop C) → AgreesWithJudging R o b f (Err e) → AgreesWithJudging {X = X} R o b (λ i. placed place (f i)) (Err (stop_at place e))
  stopped None e h = tt
  stopped (Some i) (Refused c) (rest, is, left) = (rest, ap (placed place) is, left)
  stopped (Some i) ReadFault h = tt
  stopped (Some i) Memory h = tt

  pub placed_fine : (x : X) → AgreesWithJudging R a b f (Ok x) → AgreesWithJudging R a b (λ i. placed place (f i)) (Ok x)
  placed_fine x h = fine a x h

  pub placed_stops : (e : Stop C) (d : Stop (P × C)) → d ≡ stop_at place e → AgreesWithJudging R a b f (Err e) → AgreesWithJudging R a b (λ i. placed place (f i)) (Err d)
  placed_stops e d is h = subst (λ s. AgreesWithJudging R a b (λ i. placed place (f i)) (Err s)) (sym is) (stopped a e h)

-- what is given where only the new state is told
pub told : {C Y U : Type 0} (a b : Option (List ℕ)) (f : List ℕ → Judged C Y) (v : Y) (u : U) → AgreesWithJudging {X = Y} (λ v y. v ≡ y) a b f (Ok v) → AgreesWithJudging {X = U} (λ _ y. v ≡ y) a b f (Ok u)
told None b f v u h = tt
told (Some i) b f v u h = h

pub known : {C Y U : Type 0} (a b : Option (List ℕ)) (f : List ℕ → Judged C Y) (v : Y) (u : U) → AgreesWithJudging {X = U} (λ _ y. v ≡ y) a b f (Ok u) → AgreesWithJudging {X = Y} (λ v y. v ≡ y) a b f (Ok v)
known None b f v u h = tt
known (Some i) b f v u h = h

-- ---- numbered parts, one after another

module _ {P C H : Type 0} (place : ℕ → P) (read : H → List ℕ → Judged C H) where
  abbrev one : ℕ → H → List ℕ → Judged (P × C) H
  one i h input = placed (place i) (read h input)

  abbrev Is : H → H → Type 0
  Is v h = v ≡ h

  -- one more is read
  pub one_more : (a b c : Option (List ℕ)) (k : ℕ) (h old new : H) (u : Unit {0}) → AgreesWithJudging {X = H} Is a b (steps one k 0 h) (Ok old) → AgreesWithJudging {X = Unit {0}} (λ _ y. new ≡ y) b c (read old) (Ok u) → AgreesWithJudging {X = H} Is a c (steps one (k + 1) 0 h) (Ok new)
  one_more a b c k h old new u before now =
      goes_on Is one h a b c k old new before (λ y is. placed_fine Is (place k) b c (read y) new (subst (λ z. AgreesWithJudging {X = H} Is b c (read z) (Ok new)) is (known b c (read old) new u now)))

  -- one isn't read
  pub one_stops : {U V : Type 0} (R : U → H → Type 0) (Q : V → H → Type 0) (a b c : Option (List ℕ)) (k n : ℕ) (h old : H) (e : Stop C) (d : Stop (P × C)) → k < n
      → AgreesWithJudging {X = H} Is a b (steps one k 0 h) (Ok old) → AgreesWithJudging R b c (read old) (Err e) → d ≡ stop_at (place k) e → AgreesWithJudging Q a c (steps one n 0 h) (Err d)
  one_stops R Q a b c k n h old e d less before now is =
      ends Is one h Q a b c k n old d less before (λ y same. placed_stops Q (place k) b c (read y) e d is (subst (λ z. AgreesWithJudging Q b c (read z) (Err e)) same (any_stop R Q b c (read old) e now)))

-- ---- a placed reader, and then another

module _ {P C X Y Z V : Type 0} (R : X → Y → Type 0) (Q : V → Z → Type 0) (place : P) (f : List ℕ → Judged C Y) (k : Y × List ℕ → Judged (P × C) Z) where
  pub placed_then : (a b c : Option (List ℕ)) (x : X) (r : Result V (Stop (P × C))) → AgreesWithJudging R a b f (Ok x) → ((y : Y) → R x y → AgreesWithJudging Q b c (λ i. k (y, i)) r) → AgreesWithJudging Q a c (λ i. placed place (f i) >>= k) r
  placed_then a b c x r h next = seq R Q a b c (λ i. placed place (f i)) k x r (placed_fine R place a b f x h) next

  pub placed_ends : (a b : Option (List ℕ)) (e : Stop C) (d : Stop (P × C)) → d ≡ stop_at place e → AgreesWithJudging R a b f (Err e) → AgreesWithJudging Q a b (λ i. placed place (f i) >>= k) (Err d)
  placed_ends a b e d is h = stop R Q a b (λ i. placed place (f i)) k d (placed_stops R place a b f e d is h)
