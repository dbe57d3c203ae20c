-- Parts are accepted exactly where they are spelled one after another, and refused exactly where the part behind such a
-- front is.
use Rattle.mig_bytes.proofs.Common.{◌≡◌, ℕ, ◌<◌, Bool, true, false, cond, List, [], ◌∷◌, ◌++◌, length, Some, None, refl, sym, ap, subst, ◌∙◌, arith, append_assoc, le_refl, length-append, Judged, ◌>>=◌, Passes, Faulty, Front, at_start, sequence_at, Reaches, here, next}
use Rattle.std.proofs.lemmas.Option.{none-some}
use Rattle.mig_bytes.specs.Sequences.{Spells, front_with, grown, front_of, ended_at, onward}
use Rattle.mig_bytes.specs.Sequences.Spells.{no_part, one_more}
use Rattle.mig_bytes.specs.Walk.{walk_end}
use Rattle.mig_bytes.proofs.Joins.{passes_not, same_passes, only_first}
use Rattle.mig_bytes.proofs.Walks.{reached_from, walk_stops, walk_end_is, walk_end_ends, walk_end_reached}

-- a part that passes: its text, which isn't empty, and that it may follow
pub record Found {E : Type 0} (Follows : List E → E → List ℕ → Type 0) (parts : List E) (i : List ℕ) (e : E) (rest : List ℕ) : Type 0 where
  pub text : List ℕ
  pub whole : i ≡ text ++ rest
  pub some : 0 < length text
  pub follows : Follows parts e text

module _ {C E : Type 0} (is_ended : List E → Bool) (part_at : List E → List ℕ → Judged C E) where
  pub grows : (f : Front E) (e : E) (rest : List ℕ) → is_ended f.parts ≡ false → part_at f.parts f.rest ≡ Passes e rest → grown is_ended part_at f ≡ Some (record { parts = f.parts ++ e ∷ []; rest = rest })
  unfolding grown
  grows f e rest going is = rw (going, is) refl

  stops_ended : (f : Front E) → is_ended f.parts ≡ true → grown is_ended part_at f ≡ None
  unfolding grown
  stops_ended f over = rw over refl

  stops_refused : (f : Front E) (c : C) (rest : List ℕ) → is_ended f.parts ≡ false → part_at f.parts f.rest ≡ Faulty c rest → grown is_ended part_at f ≡ None
  unfolding grown
  stops_refused f c rest going is = rw (going, is) refl

  accepted : (f : Front E) → is_ended f.parts ≡ true → ended_at is_ended part_at f ≡ Passes f.parts f.rest
  unfolding ended_at
  accepted f over = rw over refl

  rejected : (f : Front E) (c : C) (rest : List ℕ) → is_ended f.parts ≡ false → part_at f.parts f.rest ≡ Faulty c rest → ended_at is_ended part_at f ≡ Faulty c rest
  unfolding ended_at
  rejected f c rest going is = rw (going, is) refl

  record Step (f t : Front E) : Type 0 where
    e : E
    rest : List ℕ
    going : is_ended f.parts ≡ false
    judged : part_at f.parts f.rest ≡ Passes e rest
    is : t ≡ record { parts = f.parts ++ e ∷ []; rest = rest }

  step_by : (f t : Front E) (b : Bool) (j : Judged C E) → is_ended f.parts ≡ b → part_at f.parts f.rest ≡ j → cond b None (front_with f.parts j) ≡ Some t → Step f t
  step_by f t true j g is h = absurd (none-some t h)
  step_by f t false (Faulty c after) g is h = absurd (none-some t h)
  step_by f t false (Passes e after) g is h = record { e = e; rest = after; going = g; judged = is; is = cc }

  step_of : (f t : Front E) → grown is_ended part_at f ≡ Some t → Step f t
  unfolding grown
  step_of f t h = step_by f t (is_ended f.parts) (part_at f.parts f.rest) refl refl h

  module _ (Follows : List E → E → List ℕ → Type 0) where
    module _ (found : (parts : List E) (i : List ℕ) (e : E) (rest : List ℕ) → is_ended parts ≡ false → part_at parts i ≡ Passes e rest → Found Follows parts i e rest) where
      falls : (f t : Front E) → grown is_ended part_at f ≡ Some t → length t.rest < length f.rest
      falls f t h =
          let s = step_of f t h in
          let g = found f.parts f.rest s.e s.rest s.going s.judged in
          omega (arith, ap (λ (x : Front E). length x.rest) s.is, ap length g.whole, length-append g.text s.rest, g.some)

      front_is : (i : List ℕ) (f : Front E) → Reaches (grown is_ended part_at) (at_start i) f → grown is_ended part_at f ≡ None → front_of is_ended part_at i ≡ f
      unfolding front_of
      front_is i f reached stops = walk_end_is (grown is_ended part_at) (λ (g : Front E). length g.rest) falls (length i) (at_start i) f (le_refl _) reached stops

      front_stops : (i : List ℕ) → grown is_ended part_at (front_of is_ended part_at i) ≡ None
      unfolding front_of
      front_stops i = walk_end_ends (grown is_ended part_at) (λ (g : Front E). length g.rest) falls (length i) (at_start i) (le_refl _)

      -- a front that was reached decides
      pub all_parts : (i : List ℕ) (f : Front E) → Reaches (grown is_ended part_at) (at_start i) f → is_ended f.parts ≡ true → sequence_at is_ended part_at i ≡ Passes f.parts f.rest
      all_parts i f reached over = ap (ended_at is_ended part_at) (front_is i f reached (stops_ended f over)) ∙ accepted f over

      pub next_refused : (i : List ℕ) (f : Front E) (c : C) (rest : List ℕ) → Reaches (grown is_ended part_at) (at_start i) f → is_ended f.parts ≡ false → part_at f.parts f.rest ≡ Faulty c rest → sequence_at is_ended part_at i ≡ Faulty c rest
      next_refused i f c rest reached going is = ap (ended_at is_ended part_at) (front_is i f reached (stops_refused f c rest going is)) ∙ rejected f c rest going is

      -- ---- what was judged is spelled

      pub record Split (i : List ℕ) (f : Front E) : Type 0 where
        pub bytes : List ℕ
        pub whole : i ≡ bytes ++ f.rest
        pub spelled : Spells Follows bytes f.parts

      split_more : (i : List ℕ) (u t : Front E) → Split i u → Step u t → Split i t
      split_more i u t s step =
          let g = found u.parts u.rest step.e step.rest step.going step.judged in
          let more : Split i (record { parts = u.parts ++ step.e ∷ []; rest = step.rest }) = record {
            bytes = s.bytes ++ g.text;
            whole = s.whole ∙ ap (λ l. s.bytes ++ l) g.whole ∙ sym (append_assoc s.bytes g.text step.rest);
            spelled = one_more s.bytes u.parts step.e g.text s.spelled g.follows;
          } in subst (Split i) (sym step.is) more

      pub split : (i : List ℕ) (f : Front E) → Reaches (grown is_ended part_at) (at_start i) f → Split i f
      split i _ here = record { bytes = []; whole = refl; spelled = no_part }
      split i _ (next u t reached goes) = split_more i u t (split i u reached) (step_of u t goes)

      front_split : (i : List ℕ) → Split i (front_of is_ended part_at i)
      unfolding front_of
      front_split i = split i _ (walk_end_reached (grown is_ended part_at) (length i) (at_start i) (at_start i) here)

      ends_as : (f : Front E) (b : Bool) (j : Judged C E) (parts : List E) (rest : List ℕ) → is_ended f.parts ≡ b → grown is_ended part_at f ≡ None → part_at f.parts f.rest ≡ j
          → cond b (Passes f.parts f.rest) (j >>= λ n. Passes f.parts n.1) ≡ Passes parts rest → (f.parts ≡ parts) × (f.rest ≡ rest) × (b ≡ true)
      ends_as f true j parts rest g stops is h = let e = same_passes {C = C} f.parts parts f.rest rest h in (e.0, e.1, refl)
      ends_as f false (Passes e after) parts rest g stops is h = absurd (none-some _ (sym stops ∙ grows f e after g is))
      ends_as f false (Faulty c after) parts rest g stops is h = passes_not parts rest c after (sym h)

      pub accepted_spelled : (i : List ℕ) (parts : List E) (rest : List ℕ) → sequence_at is_ended part_at i ≡ Passes parts rest → (bytes : List ℕ) × (i ≡ bytes ++ rest) × Spells Follows bytes parts × (is_ended parts ≡ true)
      unfolding ended_at
      accepted_spelled i parts rest h =
          let f = front_of is_ended part_at i in
          let s = front_split i in
          let e = ends_as f (is_ended f.parts) (part_at f.parts f.rest) parts rest refl (front_stops i) refl h in
          (s.bytes, s.whole ∙ ap (λ l. s.bytes ++ l) e.1, subst (Spells Follows s.bytes) e.0 s.spelled, ap is_ended (sym e.0) ∙ e.2)

      -- where parts are refused: those before, and that the next one is
      pub record Stops (i : List ℕ) (c : C) (rest : List ℕ) : Type 0 where
        pub bytes : List ℕ
        pub left : List ℕ
        pub parts : List E
        pub whole : i ≡ bytes ++ left
        pub spelled : Spells Follows bytes parts
        pub going : is_ended parts ≡ false
        pub fails : part_at parts left ≡ Faulty c rest

      stops_by : (i : List ℕ) (c : C) (rest : List ℕ) (f : Front E) (b : Bool) → Split i f → is_ended f.parts ≡ b → cond b (Passes f.parts f.rest) (part_at f.parts f.rest >>= λ n. Passes f.parts n.1) ≡ Faulty c rest → Stops i c rest
      stops_by i c rest f true s over h = passes_not f.parts f.rest c rest h
      stops_by i c rest f false s going h =
          record { bytes = s.bytes; left = f.rest; parts = f.parts; whole = s.whole; spelled = s.spelled; going = going; fails = only_first (λ _. f.parts) (part_at f.parts f.rest) c rest h }

      pub refused_stops : (i : List ℕ) (c : C) (rest : List ℕ) → sequence_at is_ended part_at i ≡ Faulty c rest → Stops i c rest
      unfolding ended_at
      refused_stops i c rest h = let f = front_of is_ended part_at i in stops_by i c rest f (is_ended f.parts) (front_split i) refl h

      -- ---- what is spelled is judged so

      module _ (goes : (parts : List E) (e : E) (text rest : List ℕ) → Follows parts e text → part_at parts (text ++ rest) ≡ Passes e rest) (going : (parts : List E) (e : E) (text : List ℕ) → Follows parts e text → is_ended parts ≡ false) where
        pub spelled_reached : (bytes : List ℕ) (parts : List E) (rest : List ℕ) → Spells Follows bytes parts → Reaches (grown is_ended part_at) (at_start (bytes ++ rest)) (record { parts = parts; rest = rest })
        spelled_reached _ _ rest no_part = here
        spelled_reached _ _ rest (one_more bytes parts e text before f) =
            next (record { parts = parts; rest = text ++ rest }) _
            (subst (λ l. Reaches (grown is_ended part_at) (at_start l) (record { parts = parts; rest = text ++ rest })) (sym (append_assoc bytes text rest)) (spelled_reached bytes parts (text ++ rest) before))
            (grows (record { parts = parts; rest = text ++ rest }) e rest (going parts e text f) (goes parts e text rest f))

        pub spelled_accepted : (bytes : List ℕ) (parts : List E) (rest : List ℕ) → Spells Follows bytes parts → is_ended parts ≡ true → sequence_at is_ended part_at (bytes ++ rest) ≡ Passes parts rest
        spelled_accepted bytes parts rest spelled over = all_parts (bytes ++ rest) (record { parts = parts; rest = rest }) (spelled_reached bytes parts rest spelled) over

        pub spelled_refused : (bytes left : List ℕ) (parts : List E) (c : C) (rest : List ℕ) → Spells Follows bytes parts → is_ended parts ≡ false → part_at parts left ≡ Faulty c rest → sequence_at is_ended part_at (bytes ++ left) ≡ Faulty c rest
        spelled_refused bytes left parts c rest spelled over is = next_refused (bytes ++ left) (record { parts = parts; rest = left }) c rest (spelled_reached bytes parts left spelled) over is

  -- ---- parts behind some that stand already: one more, or none

  pub starts : (i : List ℕ) → sequence_at is_ended part_at i ≡ onward is_ended part_at [] i
  unfolding onward front_of
  starts i = refl

  stopped : (f : Front E) → grown is_ended part_at f ≡ None → onward is_ended part_at f.parts f.rest ≡ ended_at is_ended part_at f
  unfolding onward
  stopped f none = ap (ended_at is_ended part_at) (walk_stops (grown is_ended part_at) (length f.rest) f none)

  pub over : (parts : List E) (i : List ℕ) → is_ended parts ≡ true → onward is_ended part_at parts i ≡ Passes parts i
  over parts i ended = let f : Front E = record { parts = parts; rest = i } in stopped f (stops_ended f ended) ∙ accepted f ended

  module _ (shrinks : (parts : List E) (i : List ℕ) (e : E) (rest : List ℕ) → is_ended parts ≡ false → part_at parts i ≡ Passes e rest → length rest < length i) where
    shorter : (f t : Front E) → grown is_ended part_at f ≡ Some t → length t.rest < length f.rest
    shorter f t h =
        let s = step_of f t h in
        omega (arith, ap (λ (x : Front E). length x.rest) s.is, shrinks f.parts f.rest s.e s.rest s.going s.judged)

    one_on : (parts : List E) (i : List ℕ) (e : E) (rest : List ℕ) → is_ended parts ≡ false → part_at parts i ≡ Passes e rest → onward is_ended part_at parts i ≡ onward is_ended part_at (parts ++ e ∷ []) rest
    unfolding onward
    one_on parts i e rest going is =
        let step = grown is_ended part_at in
        let size : Front E → ℕ = λ g. length g.rest in
        let f : Front E = record { parts = parts; rest = i } in
        let t : Front E = record { parts = parts ++ e ∷ []; rest = rest } in
        ap (ended_at is_ended part_at)
        (walk_end_is step size shorter (length i) f (walk_end step (length rest) t) (le_refl _)
        (reached_from step f t _ (grows f e rest going is) (walk_end_reached step (length rest) t t here))
        (walk_end_ends step size shorter (length rest) t (le_refl _)))

    on_by : (parts : List E) (i : List ℕ) (j : Judged C E) → is_ended parts ≡ false → part_at parts i ≡ j → onward is_ended part_at parts i ≡ (j >>= λ e. onward is_ended part_at (parts ++ e.0 ∷ []) e.1)
    on_by parts i (Passes e rest) going is = one_on parts i e rest going is
    on_by parts i (Faulty c rest) going is =
        let f : Front E = record { parts = parts; rest = i } in stopped f (stops_refused f c rest going is) ∙ rejected f c rest going is

    -- behind parts of which none ends them stands one more, and then others
    pub goes_on : (parts : List E) (i : List ℕ) → is_ended parts ≡ false → onward is_ended part_at parts i ≡ (part_at parts i >>= λ e. onward is_ended part_at (parts ++ e.0 ∷ []) e.1)
    goes_on parts i going = on_by parts i (part_at parts i) going refl
