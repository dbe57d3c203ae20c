-- Judging an input part by part, in byte order.
use Rattle.std.specs.Prelude.{◌≡◌, ℕ, zero, suc, ◌+◌, List, [], ◌∷◌, length, take, drop, Option, Some, None, Result, Ok, Err, ⊤, nat_lt, if◌then◌else◌}
use Rattle.mig_bytes.specs.declared.stop.Stop.{Stop}
use Rattle.mig_bytes.specs.declared.stop.Stop.TheVariants.{Refused, ReadFault, Memory}

-- The parts stand whole and no cause stands in them: what they say, and the bytes behind them. Or the first cause that
-- stands, and the bytes behind the faulty part.
pub data Judged (C X : Type 0) : Type 0 where
  Passes : X → List ℕ → Judged C X
  Faulty : C → List ℕ → Judged C X

infixl 10 ◌>>=◌
abbrev pub ◌>>=◌ : {C X Y : Type 0} → Judged C X → (X × List ℕ → Judged C Y) → Judged C Y
(Passes x rest) >>= f = f (x, rest)
(Faulty c rest) >>= f = Faulty c rest

-- a part of n bytes: without them all it is truncated, and nothing is left
abbrev pub part : {C : Type 0} → C → ℕ → List ℕ → Judged C (List ℕ)
part truncated n input = if nat_lt (length input) n then Faulty truncated [] else Passes (take n input) (drop n input)

-- no bytes: the cause that stands, if one does
abbrev pub tried : {C : Type 0} → Option C → List ℕ → Judged C (Unit {0})
tried None input = Passes tt input
tried (Some c) input = Faulty c input

-- a part of n bytes, the cause that stands in it, and what it says
abbrev pub said_at : {C X : Type 0} → C → (List ℕ → Option C) → (List ℕ → X) → ℕ → List ℕ → Judged C X
said_at truncated fault says n input = do
  bytes ← part truncated n input
  _ ← tried (fault bytes.0) bytes.1
  Passes (says bytes.0) bytes.1

-- the same where no cause can stand
abbrev pub plain_at : {C X : Type 0} → C → (List ℕ → X) → ℕ → List ℕ → Judged C X
plain_at truncated says n input = do
  bytes ← part truncated n input
  Passes (says bytes.0) bytes.1

-- one part after another, for each of a list
unfoldable pub each : {C W X : Type 0} → (W → List ℕ → Judged C X) → List W → List ℕ → Judged C (List X)
each part [] input = Passes [] input
each part (w ∷ ws) input = do
  first ← part w input
  others ← each part ws first.1
  Passes (first.0 ∷ others.0) others.1

-- n steps one after another, each behind what the one before left; they are numbered from k on
unfoldable pub steps : {C X : Type 0} → (ℕ → X → List ℕ → Judged C X) → ℕ → ℕ → X → List ℕ → Judged C X
steps step zero k x input = Passes x input
steps step (suc n) k x input = do
  y ← step k x input
  steps step n (k + 1) y.0 y.1

-- a cause, with the place where it is
abbrev pub placed : {P C X : Type 0} → P → Judged C X → Judged (P × C) X
placed place (Passes x rest) = Passes x rest
placed place (Faulty c rest) = Faulty (place, c) rest

-- a stop at this place
abbrev pub stop_at : {P C : Type 0} → P → Stop C → Stop (P × C)
stop_at place (Refused c) = Refused (place, c)
stop_at place ReadFault = ReadFault
stop_at place Memory = Memory

-- What a reader answered stands for what judging gives, and what it left in the source is what judging leaves. A fault
-- of the source and want of memory say nothing of the bytes.
abbrev pub Matches : {C X Y : Type 0} → (X → Y → Type 0) → Option (List ℕ) → Judged C Y → Result X (Stop C) → Type 0
Matches {C} {X} {Y} Stands left judged (Ok x) = (y : Y) × (rest : List ℕ) × (judged ≡ Passes y rest) × (left ≡ Some rest) × Stands x y
Matches Stands left judged (Err (Refused c)) = (rest : List ℕ) × (judged ≡ Faulty c rest) × (left ≡ Some rest)
Matches Stands left judged (Err ReadFault) = ⊤
Matches Stands left judged (Err Memory) = ⊤

-- where the source tells its bytes
abbrev pub AgreesWithJudging : {C X Y : Type 0} → (X → Y → Type 0) → Option (List ℕ) → Option (List ℕ) → (List ℕ → Judged C Y) → Result X (Stop C) → Type 0
AgreesWithJudging Stands None new judge result = ⊤
AgreesWithJudging Stands (Some input) new judge result = Matches Stands new (judge input) result
