-- What the refusals of all forms of input have in common: a part that fails behind a front; and what the laws say of them.
use Rattle.std.specs.Prelude.{◌≡◌, ◌↔◌, ℕ, List}

-- ---- what the laws say of refusals of an input at a place, for a cause, with what is left

module _ {P C : Type 0} (Refused : List ℕ → P → C → List ℕ → Type 0) where
  -- they are those that judging gives
  pub record AreJudged (IsJudged : List ℕ → P → C → List ℕ → Type 0) : Type 0 where
    pub agree : (input : List ℕ) (place : P) (cause : C) (rest : List ℕ) → IsJudged input place cause rest ↔ Refused input place cause rest

  -- an input has at most one
  pub record HasOneRefusal : Type 0 where
    pub same : (input : List ℕ) (place other_place : P) (cause other : C) (rest more : List ℕ) → Refused input place cause rest → Refused input other_place other more → (place ≡ other_place) × (cause ≡ other) × (rest ≡ more)

  -- of a front that is accepted, with what it means and what follows it
  module _ {G : Type 0} (Accepted : List ℕ → G → List ℕ → Type 0) where
    -- there is one, or a refusal
    pub data IsAcceptedOrRefused (input : List ℕ) : Type 0 where
      accepted : (meant : G) (rest : List ℕ) → Accepted input meant rest → IsAcceptedOrRefused input
      refused : (place : P) (cause : C) (rest : List ℕ) → Refused input place cause rest → IsAcceptedOrRefused input

    -- for every input
    pub record AreAllAcceptedOrRefused : Type 0 where
      pub all : (input : List ℕ) → IsAcceptedOrRefused input

    -- where there is one, there is no refusal
    pub record IsNeverBoth : Type 0 where
      pub never : (input : List ℕ) (meant : G) (rest : List ℕ) (place : P) (cause : C) (more : List ℕ) → Accepted input meant rest → Refused input place cause more → ⊥
