-- Parts whose judging takes a front: with a cause tried before them, without causes, and one after another up to one that ends
-- them.
use Rattle.mig_relay.proofs.Common.{◌≡◌, ℕ, zero, suc, ◌≤◌, ◌<◌, Bool, true, false, List, [], ◌∷◌, ◌++◌, length, Option, Some, None, refl, sym, ap, ◌∙◌, arith, le_refl, append_assoc, Judged, ◌>>=◌, part, tried, plain_at, Passes, onward, Front, TakesFronts, front_pass, front_part, front_then, both_pass, passes_not, same_passes, over, goes_on, then_passes}

-- a cause is tried in no bytes, and then judged on
pub front_checked : {C X : Type 0} (f : Option C) (g : List ℕ → Judged C X) → TakesFronts g → TakesFronts (λ i. tried f i >>= λ _. g i)
front_checked None g fronts = fronts
front_checked (Some c) g fronts = λ i x rest h. passes_not x rest c i (sym h)

-- a part in which no cause can stand
pub front_plain : {C X : Type 0} (truncated : C) (says : List ℕ → X) (n : ℕ) → TakesFronts (plain_at truncated says n)
front_plain truncated says n = front_then (part truncated n) (λ b. Passes (says b.0) b.1) (front_part truncated n) (λ b. front_pass (says b))

-- a front, and one of what follows it
pub joined : (i mid first others rest : List ℕ) → i ≡ first ++ mid → mid ≡ others ++ rest → i ≡ (first ++ others) ++ rest
joined i mid first others rest p q = p ∙ ap (λ l. first ++ l) q ∙ sym (append_assoc first others rest)

-- a part that passes takes some of the input
abbrev pub Shrinks : {C E : Type 0} → (List E → Bool) → (List E → List ℕ → Judged C E) → Type 0
Shrinks {C} {E} is_ended part_at = (parts : List E) (i : List ℕ) (e : E) (rest : List ℕ) → is_ended parts ≡ false → part_at parts i ≡ Passes e rest → length rest < length i

module _ {C E : Type 0} (is_ended : List E → Bool) (part_at : List E → List ℕ → Judged C E) (shrinks : Shrinks is_ended part_at) (one : (parts : List E) → TakesFronts (part_at parts)) where
  abbrev next_and_on : List E → E × List ℕ → Judged C (List E)
  next_and_on parts e = onward is_ended part_at (parts ++ e.0 ∷ []) e.1

  -- one part passes whatever follows its front, and so do those behind it
  pass_again : (parts : List E) (e : E) (x : List E) (first others more : List ℕ) → is_ended parts ≡ false → part_at parts (first ++ (others ++ more)) ≡ Passes e (others ++ more) → next_and_on parts (e, others ++ more) ≡ Passes x more
      → onward is_ended part_at parts ((first ++ others) ++ more) ≡ Passes x more
  pass_again parts e x first others more going this those =
      ap (onward is_ended part_at parts) (append_assoc first others more) ∙ goes_on is_ended part_at shrinks parts (first ++ (others ++ more)) going
      ∙ then_passes (part_at parts (first ++ (others ++ more))) (next_and_on parts) e (others ++ more) (Passes x more) this those

  -- the input has at most n bytes, and the parts are over or not
  front_of : (n : ℕ) (b : Bool) (parts : List E) (i : List ℕ) (x : List E) (rest : List ℕ) → is_ended parts ≡ b → length i ≤ n → onward is_ended part_at parts i ≡ Passes x rest → Front (onward is_ended part_at parts) i x rest
  front_of n true parts i x rest ended le h =
      let e = same_passes parts x i rest (sym (over is_ended part_at parts i ended) ∙ h) in
      record { front = []; whole = e.1; again = λ more. over is_ended part_at parts more ended ∙ ap (λ y. Passes y more) e.0 }
  front_of zero false parts i x rest going le h =
      let b = both_pass (part_at parts i) (next_and_on parts) x rest (sym (goes_on is_ended part_at shrinks parts i going) ∙ h) in
      absurd (omega (arith, le, shrinks parts i b.x b.mid going b.first))
  front_of (suc n) false parts i x rest going le h =
      let b = both_pass (part_at parts i) (next_and_on parts) x rest (sym (goes_on is_ended part_at shrinks parts i going) ∙ h) in
      let f = one parts i b.x b.mid b.first in
      let g = front_of n (is_ended (parts ++ b.x ∷ [])) (parts ++ b.x ∷ []) b.mid x rest refl (omega (arith, le, shrinks parts i b.x b.mid going b.first)) b.second in
      record {
        front = f.front ++ g.front;
        whole = joined i b.mid f.front g.front rest f.whole g.whole;
        again = λ more. pass_again parts b.x x f.front g.front more going (f.again (g.front ++ more)) (g.again more);
      }

  -- parts one after another, each of which takes a front, take one
  pub front_onward : (parts : List E) → TakesFronts (onward is_ended part_at parts)
  front_onward parts i x rest h = front_of (length i) (is_ended parts) parts i x rest refl (le_refl _) h
