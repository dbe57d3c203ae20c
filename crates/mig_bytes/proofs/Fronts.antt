-- Judging that passes looks at nothing behind what it takes.
use Rattle.mig_bytes.proofs.Common.{◌≡◌, ℕ, ◌+◌, List, [], ◌∷◌, ◌++◌, Option, sym, ap, ◌∙◌, append_assoc, Judged, ◌>>=◌, part, said_at, placed, Passes}
use Rattle.mig_bytes.specs.Judged.{each}
use Rattle.mig_bytes.proofs.Joins.{both_pass, part_passes, part_whole, same_passes, then_passes, placed_passes}
use Rattle.mig_bytes.proofs.Said.{said_passes, said_goes}

-- a front was taken, and it passes as well whatever follows it
pub record Front {C X : Type 0} (f : List ℕ → Judged C X) (input : List ℕ) (x : X) (rest : List ℕ) : Type 0 where
  pub front : List ℕ
  pub whole : input ≡ front ++ rest
  pub again : (more : List ℕ) → f (front ++ more) ≡ Passes x more

abbrev pub TakesFronts : {C X : Type 0} → (List ℕ → Judged C X) → Type 0
TakesFronts {C} {X} f = (input : List ℕ) (x : X) (rest : List ℕ) → f input ≡ Passes x rest → Front f input x rest

module _ {C : Type 0} where
  pub front_pass : {X : Type 0} (x : X) → TakesFronts {C = C} (Passes x)
  front_pass x input y rest is = let same = same_passes x y input rest is in record { front = []; whole = same.1; again = λ more. ap (λ z. Passes z more) same.0 }

  pub front_part : (truncated : C) (n : ℕ) → TakesFronts (part truncated n)
  front_part truncated n input x rest is =
      let taken = part_passes truncated n input x rest is in
      record { front = x; whole = taken.0; again = λ more. part_whole truncated n x more taken.1 }

  pub front_said : {X : Type 0} (truncated : C) (fault : List ℕ → Option C) (says : List ℕ → X) (n : ℕ) → TakesFronts (said_at truncated fault says n)
  front_said truncated fault says n input x rest is =
      let s = said_passes truncated fault says n input x rest is in
      record { front = s.bytes; whole = s.whole; again = λ more. said_goes truncated fault says n s.bytes more s.size s.fine ∙ ap (λ y. Passes y more) s.value }

  pub front_then : {X Y : Type 0} (f : List ℕ → Judged C X) (k : X × List ℕ → Judged C Y) → TakesFronts f → ((x : X) → TakesFronts (λ i. k (x, i))) → TakesFronts (λ i. f i >>= k)
  front_then f k first then input y rest is =
      let both = both_pass (f input) k y rest is in
      let p = first input both.x both.mid both.first in
      let q = then both.x both.mid y rest both.second in
      record {
        front = p.front ++ q.front;
        whole = p.whole ∙ ap (λ l. p.front ++ l) q.whole ∙ sym (append_assoc p.front q.front rest);
        again = λ more. ap (λ i. f i >>= k) (append_assoc p.front q.front more) ∙ then_passes (f (p.front ++ (q.front ++ more))) k both.x (q.front ++ more) (Passes y more) (p.again (q.front ++ more)) (q.again more);
      }

pub front_placed : {P C X : Type 0} (place : P) (f : List ℕ → Judged C X) → TakesFronts f → TakesFronts (λ i. placed place (f i))
front_placed place f first input x rest is =
    let p = first input x rest (placed_passes place (f input) x rest is) in
    record { front = p.front; whole = p.whole; again = λ more. ap (placed place) (p.again more) }

pub front_each : {C W X : Type 0} (f : W → List ℕ → Judged C X) → ((w : W) → TakesFronts (f w)) → (ws : List W) → TakesFronts (each f ws)
unfolding each
front_each f one [] = front_pass []
front_each f one (w ∷ ws) = front_then (f w) (λ x. each f ws x.1 >>= λ xs. Passes (x.0 ∷ xs.0) xs.1) (one w) (λ x. front_then (each f ws) (λ xs. Passes (x ∷ xs.0) xs.1) (front_each f one ws) (λ xs. front_pass (x ∷ xs)))
