-- Judgings that tell no causes but some.
use Rattle.mig_relay.proofs.Common.{ℕ, Bool, true, false, cond, List, [], ◌∷◌, length, take, drop, nat_lt, Option, Some, None, ⊤, AllByRecursion, option_or, Judged, ◌>>=◌, part, tried, said_at, plain_at, placed, Passes, Faulty, first_fault, option_map}
use Rattle.mig_bytes.specs.Judged.{each}
use Rattle.mig_bytes.specs.Sequences.{Front, grown, ended_at, onward}
use Rattle.mig_bytes.specs.Walk.{walk_end}

-- no cause stands, or one of these
abbrev pub Names : {C : Type 0} → (C → Type 0) → Option C → Type 0
Names K None = ⊤
Names K (Some c) = K c

-- it passes, or it is refused for one of these
abbrev pub Tells : {C X : Type 0} → (C → Type 0) → Judged C X → Type 0
Tells K (Passes x rest) = ⊤
Tells K (Faulty c rest) = K c

module _ {C : Type 0} (K : C → Type 0) where
  -- ---- tables of faults

  pub names_rows : (rows : List (Bool × C)) → AllByRecursion (λ row. K row.1) rows → Names K (first_fault rows)
  names_rows [] these = tt
  names_rows ((true, c) ∷ rows) these = these.0
  names_rows ((false, c) ∷ rows) these = names_rows rows these.1

  -- one row, and two
  pub names_one : (b : Bool) (c : C) → K c → Names K (cond b (Some c) None)
  names_one true c these = these
  names_one false c these = tt

  pub names_two : (b : Bool) (c : C) (a : Bool) (d : C) → K c → K d → Names K (cond b (Some c) (cond a (Some d) None))
  names_two true c a d first second = first
  names_two false c a d first second = names_one a d second

  -- of two causes the first, or all that a function gives
  pub names_or : (o p : Option C) → Names K o → Names K p → Names K (option_or o p)
  names_or None p first second = second
  names_or (Some c) p first second = first

  pub names_map : {X : Type 0} (f : X → C) (o : Option X) → ((x : X) → K (f x)) → Names K (option_map f o)
  names_map f None these = tt
  names_map f (Some x) these = these x

  -- ---- parts

  -- one, and what follows it
  pub tells_then : {X Y : Type 0} (j : Judged C X) (k : X × List ℕ → Judged C Y) → Tells K j → ((x : X) (rest : List ℕ) → Tells K (k (x, rest))) → Tells K (j >>= k)
  tells_then (Passes x rest) k first next = next x rest
  tells_then (Faulty c rest) k first next = first

  -- a cause is tried in no bytes, and then judged on
  pub tells_checked : {Y : Type 0} (f : Option C) (i : List ℕ) (j : Judged C Y) → Names K f → Tells K j → Tells K (tried f i >>= λ _. j)
  tells_checked None i j names tells = tells
  tells_checked (Some c) i j names tells = names

  module _ (truncated : C) (cut : K truncated) where
    -- where a cut part is told
    pub tells_part : (n : ℕ) (i : List ℕ) → Tells K (part truncated n i)
    tells_part n i = by (nat_lt (length i) n)
      where
        by : (short : Bool) → Tells K (cond short (Faulty truncated []) (Passes (take n i) (drop n i)))
        by true = cut
        by false = tt

    pub tells_said : {X : Type 0} (fault : List ℕ → Option C) (says : List ℕ → X) (n : ℕ) (i : List ℕ) → ((bytes : List ℕ) → Names K (fault bytes)) → Tells K (said_at truncated fault says n i)
    tells_said fault says n i names =
        tells_then (part truncated n i) (λ bytes. tried (fault bytes.0) bytes.1 >>= λ _. Passes (says bytes.0) bytes.1) (tells_part n i)
        (λ bytes rest. tells_checked (fault bytes) rest (Passes (says bytes) rest) (names bytes) tt)

    pub tells_plain : {X : Type 0} (says : List ℕ → X) (n : ℕ) (i : List ℕ) → Tells K (plain_at truncated says n i)
    tells_plain says n i = tells_then (part truncated n i) (λ bytes. Passes (says bytes.0) bytes.1) (tells_part n i) (λ bytes rest. tt)

  -- one part after another: for each of a list, and up to one that ends them
  pub tells_each : {W X : Type 0} (f : W → List ℕ → Judged C X) → ((w : W) (i : List ℕ) → Tells K (f w i)) → (ws : List W) (i : List ℕ) → Tells K (each f ws i)
  unfolding each
  tells_each f one [] i = tt
  tells_each f one (w ∷ ws) i = tells_then (f w i) (λ first. each f ws first.1 >>= λ others. Passes (first.0 ∷ others.0) others.1) (one w i)
      (λ first rest. tells_then (each f ws rest) (λ others. Passes (first ∷ others.0) others.1) (tells_each f one ws rest) (λ others after. tt))

  module _ {E : Type 0} (is_ended : List E → Bool) (part_at : List E → List ℕ → Judged C E) (one : (parts : List E) (i : List ℕ) → Tells K (part_at parts i)) where
    ended : (f : Front E) → Tells K (ended_at is_ended part_at f)
    unfolding ended_at
    ended f = by (is_ended f.parts)
      where
        by : (over : Bool) → Tells K (cond over (Passes f.parts f.rest) (part_at f.parts f.rest >>= λ next. Passes f.parts next.1))
        by true = tt
        by false = tells_then (part_at f.parts f.rest) (λ next. Passes f.parts next.1) (one f.parts f.rest) (λ next rest. tt)

    pub tells_onward : (parts : List E) (i : List ℕ) → Tells K (onward is_ended part_at parts i)
    unfolding onward
    tells_onward parts i = ended (walk_end (grown is_ended part_at) (length i) (record { parts = parts; rest = i }))

-- causes at a place
pub tells_placed : {P C X : Type 0} (K : C → Type 0) (place : P) (j : Judged C X) → Tells K j → Tells (λ (at : P × C). K at.1) (placed place j)
tells_placed K place (Passes x rest) tells = tt
tells_placed K place (Faulty c rest) tells = tells
