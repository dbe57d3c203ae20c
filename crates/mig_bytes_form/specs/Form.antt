-- The form of an input as a term: its parts in byte order. Each has a size, the cause where it isn't whole, and a table of causes
-- that may stand in it; what follows it depends on its bytes.
use Rattle.std.specs.Prelude.{◌≡◌, ℕ, zero, suc, ◌+◌, ◌<◌, List, [], ◌∷◌, ◌++◌, length}
use Rattle.mig_bytes.specs.Judged.{Judged, ◌>>=◌, part, tried}
use Rattle.mig_bytes.specs.Judged.Judged.{Passes}
use Rattle.mig_bytes_form.specs.Tests.{Test, first_named, NoneHolds, NamedIn, retold_rows}

pub data FormOf (C X : Type 0) : Type 0 where
  Gives : X → FormOf C X
  Part : ℕ → C → (List ℕ → List (Test × C)) → (List ℕ → FormOf C X) → FormOf C X

-- a part by itself, which says this; or which gives its bytes
abbrev pub said_form : {C X : Type 0} → C → ℕ → (List ℕ → List (Test × C)) → (List ℕ → X) → FormOf C X
said_form truncated n rows says = Part n truncated rows (λ bytes. Gives (says bytes))

abbrev pub bytes_form : {C : Type 0} → C → ℕ → (List ℕ → List (Test × C)) → FormOf C (List ℕ)
bytes_form truncated n rows = said_form truncated n rows (λ bytes. bytes)

-- no bytes, but a cause may stand
abbrev pub asked_form : {C X : Type 0} → C → List (Test × C) → X → FormOf C X
asked_form truncated rows x = said_form truncated 0 (λ _. rows) (λ _. x)

infixl 10 ◌>>>◌
-- one form behind another
unfoldable pub ◌>>>◌ : {C X Y : Type 0} → FormOf C X → (X → FormOf C Y) → FormOf C Y
(Gives x) >>> g = g x
(Part n truncated rows next) >>> g = Part n truncated rows (λ bytes. next bytes >>> g)

-- and what both give
abbrev pub paired : {C X Y : Type 0} → FormOf C X → (X → FormOf C Y) → FormOf C (X × Y)
paired f g = f >>> λ x. g x >>> λ y. Gives (x, y)

-- n forms one behind another, each with what the one before gave; they are numbered from k on
unfoldable pub steps_form : {C X : Type 0} → (ℕ → X → FormOf C X) → ℕ → ℕ → X → FormOf C X
steps_form step zero k x = Gives x
steps_form step (suc n) k x = step k x >>> λ y. steps_form step n (k + 1) y

-- one for each of a list
unfoldable pub each_form : {C W X : Type 0} → (W → FormOf C X) → List W → FormOf C (List X)
each_form f [] = Gives []
each_form f (w ∷ ws) = f w >>> λ x. each_form f ws >>> λ xs. Gives (x ∷ xs)

-- the same form, its causes told in another way: with a place, say
unfoldable pub retold : {C D X : Type 0} → (C → D) → FormOf C X → FormOf D X
retold turn (Gives x) = Gives x
retold turn (Part n truncated rows next) = Part n (turn truncated) (λ bytes. retold_rows turn (rows bytes)) (λ bytes. retold turn (next bytes))

-- with a place
abbrev pub placed_form : {P C X : Type 0} → P → FormOf C X → FormOf (P × C) X
placed_form place f = retold (λ c. (place, c)) f

-- ---- judging

unfoldable pub judged_as : {C X : Type 0} → FormOf C X → List ℕ → Judged C X
judged_as (Gives x) input = Passes x input
judged_as (Part n truncated rows next) input = part truncated n input >>= λ p. tried (first_named (rows p.0)) p.1 >>= λ _. judged_as (next p.0) p.1

-- the same behind what was judged
abbrev pub judged_then : {C X Y : Type 0} → Judged C X → (X → FormOf C Y) → Judged C Y
judged_then judged g = judged >>= λ a. judged_as (g a.0) a.1

-- ---- in words

-- these bytes spell the form, and say x
pub data SpelledAs {C X : Type 0} : FormOf C X → List ℕ → X → Type 0 where
  nothing : (x : X) → SpelledAs (Gives x) [] x
  one_part : (n : ℕ) (truncated : C) (rows : List ℕ → List (Test × C)) (next : List ℕ → FormOf C X) (bytes more : List ℕ) (x : X) → length bytes ≡ n → NoneHolds (rows bytes) → SpelledAs (next bytes) more x → SpelledAs (Part n truncated rows next) (bytes ++ more) x

-- behind a faultless front stands a part that isn't whole, or in which this cause is named; and what is left
pub data RefusedAs {C X : Type 0} : FormOf C X → List ℕ → C → List ℕ → Type 0 where
  short : (n : ℕ) (truncated : C) (rows : List ℕ → List (Test × C)) (next : List ℕ → FormOf C X) (left : List ℕ) → length left < n → RefusedAs (Part n truncated rows next) left truncated []
  faulty : (n : ℕ) (truncated : C) (rows : List ℕ → List (Test × C)) (next : List ℕ → FormOf C X) (bytes rest : List ℕ) (c : C) → length bytes ≡ n → NamedIn (rows bytes) c → RefusedAs (Part n truncated rows next) (bytes ++ rest) c rest
  behind : (n : ℕ) (truncated : C) (rows : List ℕ → List (Test × C)) (next : List ℕ → FormOf C X) (bytes left : List ℕ) (c : C) (rest : List ℕ) → length bytes ≡ n → NoneHolds (rows bytes) → RefusedAs (next bytes) left c rest → RefusedAs (Part n truncated rows next) (bytes ++ left) c rest

-- a front of the input spells the form, and this is left
abbrev pub BeginsAs : {C X : Type 0} → FormOf C X → List ℕ → X → List ℕ → Type 0
BeginsAs f input x rest = (bytes : List ℕ) × (input ≡ bytes ++ rest) × SpelledAs f bytes x
