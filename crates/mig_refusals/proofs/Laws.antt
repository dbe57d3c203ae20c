-- What follows where the refusals in words are those that judging gives.
use Rattle.mig_refusals.proofs.Common.{◌≡◌, ◌⊎◌, inl, inr, List, ℕ, sym, ap, ◌∙◌, Judged, Faulty, same_faulty, AreJudged, HasOneRefusal, AreAllAcceptedOrRefused, IsNeverBoth, accepted, refused}

module _ {P C X : Type 0} (judge : List ℕ → Judged (P × C) X) (Refused : List ℕ → P → C → List ℕ → Type 0) (are : AreJudged Refused (λ input place cause rest. judge input ≡ Faulty (place, cause) rest)) where
  pub one_refusal : HasOneRefusal Refused
  one_refusal = record { same = same }
    where
      same : (input : List ℕ) (p q : P) (c d : C) (i j : List ℕ) → Refused input p c i → Refused input q d j → (p ≡ q) × (c ≡ d) × (i ≡ j)
      same input p q c d i j a b =
          let e = same_faulty (p, c) (q, d) i j (sym ((are.agree input p c i).1 a) ∙ (are.agree input q d j).1 b) in
          (ap (λ (x : P × C). x.0) e.0, ap (λ (x : P × C). x.1) e.0, e.1)

  module _ {G : Type 0} (Accepted : List ℕ → G → List ℕ → Type 0) where
    pub accepted_or_refused : ((input : List ℕ) → ((x : G) × (rest : List ℕ) × Accepted input x rest) ⊎ ((place : P) × (c : C) × (rest : List ℕ) × (judge input ≡ Faulty (place, c) rest))) → AreAllAcceptedOrRefused Refused Accepted
    accepted_or_refused judged = record { all = λ input. elim (judged input) [ inl a ↦ accepted a.0 a.1 a.2 | inr r ↦ refused r.0 r.1 r.2 ((are.agree input r.0 r.1 r.2).0 r.3) ] }

    pub never_both : ((input : List ℕ) (x : G) (rest : List ℕ) (place : P) (c : C) (more : List ℕ) → Accepted input x rest → judge input ≡ Faulty (place, c) more → ⊥) → IsNeverBoth Refused Accepted
    never_both never = record { never = λ input x rest place c more a r. never input x rest place c more a ((are.agree input place c more).1 r) }
