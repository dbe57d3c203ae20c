-- Tables of worked answers.
use Rattle.std.specs.Prelude.{◌≡◌, List, map}

-- of each row the left is answered with the right
abbrev pub Answers : {A B : Type 0} → (A → B) → List (A × B) → Type 0
Answers {A} {B} answer rows = map (λ (row : A × B). answer row.0) rows ≡ map (λ (row : A × B). row.1) rows
