-- Parts one after another, up to one that ends them.
use Rattle.std.specs.Prelude.{ℕ, Bool, List, [], ◌∷◌, ◌++◌, length, Option, Some, None, if◌then◌else◌}
use Rattle.mig_bytes.specs.Judged.{Judged, ◌>>=◌}
use Rattle.mig_bytes.specs.Judged.Judged.{Passes, Faulty}
use Rattle.mig_bytes.specs.Walk.{walk_end}

-- these parts, one after another, each of which may follow those before it
pub data Spells {E : Type 0} (Follows : List E → E → List ℕ → Type 0) : List ℕ → List E → Type 0 where
  no_part : Spells Follows [] []
  one_more : (bytes : List ℕ) (parts : List E) (e : E) (text : List ℕ) → Spells Follows bytes parts → Follows parts e text → Spells Follows (bytes ++ text) (parts ++ e ∷ [])

-- ---- judging

-- parts that are whole and without fault, and the bytes behind them
pub record Front (E : Type 0) : Type 0 where
  pub parts : List E
  pub rest : List ℕ

abbrev pub at_start : {E : Type 0} → List ℕ → Front E
at_start input = record { parts = []; rest = input }

abbrev pub front_with : {C E : Type 0} → List E → Judged C E → Option (Front E)
front_with parts (Passes e rest) = Some (record { parts = parts ++ e ∷ []; rest = rest })
front_with parts (Faulty c rest) = None

-- what ends the parts, and how one is judged behind others
module _ {C E : Type 0} (is_ended : List E → Bool) (part_at : List E → List ℕ → Judged C E) where
  -- one part more, up to the one that ends them
  unfoldable pub grown : Front E → Option (Front E)
  grown f = if is_ended f.parts then None else front_with f.parts (part_at f.parts f.rest)

  -- as many parts as stand whole and without fault
  unfoldable pub front_of : List ℕ → Front E
  front_of input = walk_end grown (length input) (at_start input)

  -- a front that ends is all parts; behind one that doesn't, the next part is faulty
  unfoldable pub ended_at : Front E → Judged C (List E)
  ended_at f = if is_ended f.parts then Passes f.parts f.rest else (do
    next ← part_at f.parts f.rest
    Passes f.parts next.1)

  abbrev pub sequence_at : List ℕ → Judged C (List E)
  sequence_at input = ended_at (front_of input)

  -- parts one after another behind these, up to the one that ends them
  unfoldable pub onward : List E → List ℕ → Judged C (List E)
  onward parts input = ended_at (walk_end grown (length input) (record { parts = parts; rest = input }))
