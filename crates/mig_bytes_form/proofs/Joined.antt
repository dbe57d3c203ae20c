-- Forms one behind another: how they are judged, spelled and refused.
use Rattle.std.proofs.Common.{append-nil, subst, arith, ◌<◌, ◌≡◌, ◌⊎◌, inl, inr, ℕ, zero, suc, nat_lt, cond, true, false, length, take, drop, ◌+◌, List, [], ◌∷◌, Option, Some, None, refl, sym, ap, ◌∙◌}
use Rattle.std.specs.Option.{option_map}
use Rattle.mig_bytes.specs.Judged.{Judged, ◌>>=◌, part, tried, placed, steps, each}
use Rattle.mig_bytes.specs.Judged.Judged.{Passes, Faulty}
use Rattle.mig_bytes.proofs.Joins.{both_pass, bind_cases, same_passes, same_faulty, passes_not, no_bytes}
use Rattle.mig_bytes_form.specs.Tests.{Test, NoneHolds, first_named, retold_rows}
use Rattle.mig_bytes_form.specs.Form.{FormOf, ◌>>>◌, steps_form, each_form, retold, placed_form, bytes_form, asked_form, paired, judged_as, judged_then, SpelledAs, RefusedAs, BeginsAs}
use Rattle.mig_bytes_form.specs.Form.FormOf.{Gives, Part}
use Rattle.mig_bytes_form.specs.Form.SpelledAs.{nothing, one_part}
use Rattle.mig_bytes_form.proofs.Tests.{retold_is}
use Rattle.mig_bytes_form.proofs.Verdicts.{passes_is_spelled, begins_passes, refused_is, is_refused, never_both}

module _ {C X Y : Type 0} (g : X → FormOf C Y) where
  pub then_judged : (f : FormOf C X) (i : List ℕ) → judged_as (f >>> g) i ≡ judged_then (judged_as f i) g
  unfolding judged_as ◌>>>◌
  then_judged (Gives x) i = refl
  then_judged (Part n truncated rows next) i = by (part truncated n i) (λ bytes mid. then_judged (next bytes) mid)
    where
      Deeper : Type 0
      Deeper = (bytes mid : List ℕ) → judged_as (next bytes >>> g) mid ≡ (judged_as (next bytes) mid >>= λ a. judged_as (g a.0) a.1)

      tries : (o : Option C) (bytes mid : List ℕ) → Deeper → (tried o mid >>= λ _. judged_as (next bytes >>> g) mid) ≡ ((tried o mid >>= λ _. judged_as (next bytes) mid) >>= λ a. judged_as (g a.0) a.1)
      tries None bytes mid deeper = deeper bytes mid
      tries (Some c) bytes mid deeper = refl

      by : (j : Judged C (List ℕ)) → Deeper → (j >>= λ p. tried (first_named (rows p.0)) p.1 >>= λ _. judged_as (next p.0 >>> g) p.1) ≡ ((j >>= λ p. tried (first_named (rows p.0)) p.1 >>= λ _. judged_as (next p.0) p.1) >>= λ a. judged_as (g a.0) a.1)
      by (Passes bytes mid) deeper = tries (first_named (rows bytes)) bytes mid deeper
      by (Faulty c mid) deeper = refl

module _ {C X Y : Type 0} (f : FormOf C X) (g : X → FormOf C Y) where
  -- a front of both is a front of the first, and behind it one of the other
  pub record BeginsThen (i : List ℕ) (y : Y) (rest : List ℕ) : Type 0 where
    pub x : X
    pub mid : List ℕ
    pub first : BeginsAs f i x mid
    pub then : BeginsAs (g x) mid y rest

  pub begins_then : (i : List ℕ) (y : Y) (rest : List ℕ) → BeginsAs (f >>> g) i y rest → BeginsThen i y rest
  begins_then i y rest begins =
      let b = both_pass (judged_as f i) (λ a. judged_as (g a.0) a.1) y rest (sym (then_judged g f i) ∙ begins_passes (f >>> g) i y rest begins) in
      record { x = b.x; mid = b.mid; first = passes_is_spelled f i b.x b.mid b.first; then = passes_is_spelled (g b.x) b.mid y rest b.second }

  pub then_begins : (i mid : List ℕ) (x : X) (y : Y) (rest : List ℕ) → BeginsAs f i x mid → BeginsAs (g x) mid y rest → BeginsAs (f >>> g) i y rest
  then_begins i mid x y rest first then =
      passes_is_spelled (f >>> g) i y rest (then_judged g f i ∙ ap (λ j. judged_then j g) (begins_passes f i x mid first) ∙ begins_passes (g x) mid y rest then)

  -- what is refused is refused in the first, or behind a front of the first in the other
  pub refused_then : (i : List ℕ) (c : C) (rest : List ℕ) → RefusedAs (f >>> g) i c rest → RefusedAs f i c rest ⊎ ((x : X) × (mid : List ℕ) × BeginsAs f i x mid × RefusedAs (g x) mid c rest)
  refused_then i c rest refused = elim (bind_cases (judged_as f i) (λ a. judged_as (g a.0) a.1) c rest (sym (then_judged g f i) ∙ refused_is (f >>> g) i c rest refused)) [
    | inl e ↦ inl (is_refused f i c rest e)
    | inr a ↦ inr (a.0, a.1, passes_is_spelled f i a.0 a.1 a.2, is_refused (g a.0) a.1 c rest a.3)
  ]

  pub first_refused : (i : List ℕ) (c : C) (rest : List ℕ) → RefusedAs f i c rest → RefusedAs (f >>> g) i c rest
  first_refused i c rest refused = is_refused (f >>> g) i c rest (then_judged g f i ∙ ap (λ j. judged_then j g) (refused_is f i c rest refused))

  pub then_refused : (i mid : List ℕ) (x : X) (c : C) (rest : List ℕ) → BeginsAs f i x mid → RefusedAs (g x) mid c rest → RefusedAs (f >>> g) i c rest
  then_refused i mid x c rest first refused =
      is_refused (f >>> g) i c rest (then_judged g f i ∙ ap (λ j. judged_then j g) (begins_passes f i x mid first) ∙ refused_is (g x) mid c rest refused)

-- ---- and what both give

pub gives_begins : {C X : Type 0} (x : X) (i : List ℕ) → BeginsAs {C = C} (Gives x) i x i
gives_begins x i = ([], refl, nothing x)

pub begins_gives : {C X : Type 0} (x y : X) (i rest : List ℕ) → BeginsAs {C = C} (Gives x) i y rest → (x ≡ y) × (i ≡ rest)
begins_gives {C} x y i rest begins = same_passes {C = C} x y i rest (sym (begins_passes (Gives x) i x i (gives_begins x i)) ∙ begins_passes (Gives x) i y rest begins)

-- all of these bytes
pub whole_begins : {C X : Type 0} (f : FormOf C X) (bytes : List ℕ) (x : X) → SpelledAs f bytes x → BeginsAs f bytes x []
whole_begins f bytes x spelled = (bytes, sym (append-nil bytes), spelled)

-- what gives its bytes
pub bytes_spelled : {C : Type 0} (truncated : C) (n : ℕ) (rows : List ℕ → List (Test × C)) (bytes x : List ℕ) → SpelledAs (bytes_form truncated n rows) bytes x → (bytes ≡ x) × SpelledAs (bytes_form truncated n rows) x x × (length x ≡ n) × NoneHolds (rows x)
bytes_spelled truncated n rows _ _ (one_part _ _ _ _ bytes _ _ size none (nothing _)) =
    let all = append-nil bytes in
    (all, subst (λ l. SpelledAs (bytes_form truncated n rows) l bytes) all (one_part n truncated rows (λ b. Gives b) bytes [] bytes size none (nothing bytes)), size, none)

module _ {C X Y : Type 0} (f : FormOf C X) (g : X → FormOf C Y) where
  pub begins_paired : (i : List ℕ) (x : X) (y : Y) (rest : List ℕ) → BeginsAs (paired f g) i (x, y) rest → (mid : List ℕ) × BeginsAs f i x mid × BeginsAs (g x) mid y rest
  begins_paired i x y rest begins =
      let b = begins_then f (λ x. g x >>> λ y. Gives (x, y)) i (x, y) rest begins in
      let d = begins_then (g b.x) (λ y. Gives (b.x, y)) b.mid (x, y) rest b.then in
      let e = begins_gives (b.x, d.x) (x, y) d.mid rest d.then in
      let first : b.x ≡ x = ap (λ (p : X × Y). p.0) e.0 in
      (b.mid, subst (λ z. BeginsAs f i z b.mid) first b.first, subst (λ z. BeginsAs (g x) b.mid z rest) (ap (λ (p : X × Y). p.1) e.0) (subst (λ l. BeginsAs (g x) b.mid d.x l) e.1 (subst (λ z. BeginsAs (g z) b.mid d.x d.mid) first d.first)))

  pub paired_begins : (i mid : List ℕ) (x : X) (y : Y) (rest : List ℕ) → BeginsAs f i x mid → BeginsAs (g x) mid y rest → BeginsAs (paired f g) i (x, y) rest
  paired_begins i mid x y rest first then =
      then_begins f (λ x. g x >>> λ y. Gives (x, y)) i mid x (x, y) rest first (then_begins (g x) (λ y. Gives (x, y)) mid rest y (x, y) rest then (gives_begins (x, y) rest))

-- ---- causes told in another way

module _ {C D X : Type 0} (turn : C → D) where
  abbrev pub turned : Judged C X → Judged D X
  turned (Passes x rest) = Passes x rest
  turned (Faulty c rest) = Faulty (turn c) rest

  pub retold_judged : (f : FormOf C X) (i : List ℕ) → judged_as (retold turn f) i ≡ turned (judged_as f i)
  unfolding judged_as retold
  retold_judged (Gives x) i = refl
  retold_judged (Part n truncated rows next) i = elim (nat_lt (length i) n) as (λ b. (cond b (Faulty (turn truncated) []) (Passes (take n i) (drop n i)) >>= behind) ≡ turned (cond b (Faulty truncated []) (Passes (take n i) (drop n i)) >>= λ p. tried (first_named (rows p.0)) p.1 >>= λ _. judged_as (next p.0) p.1)) [
    | true ↦ refl
    | false ↦ ap (λ o. tried o (drop n i) >>= λ _. judged_as (retold turn (next (take n i))) (drop n i)) (retold_is turn (rows (take n i))) ∙ by (first_named (rows (take n i))) (take n i) (drop n i) (retold_judged (next (take n i)) (drop n i))
  ]
    where
      behind : List ℕ × List ℕ → Judged D X
      behind p = tried (first_named (retold_rows turn (rows p.0))) p.1 >>= λ _. judged_as (retold turn (next p.0)) p.1

      by : (o : Option C) (bytes mid : List ℕ) → judged_as (retold turn (next bytes)) mid ≡ turned (judged_as (next bytes) mid) → (tried (option_map turn o) mid >>= λ _. judged_as (retold turn (next bytes)) mid) ≡ turned (tried o mid >>= λ _. judged_as (next bytes) mid)
      by None bytes mid same = same
      by (Some c) bytes mid same = refl

  turned_passes : (j : Judged C X) (x : X) (rest : List ℕ) → turned j ≡ Passes x rest → j ≡ Passes x rest
  turned_passes (Passes y mid) x rest h = let e = same_passes y x mid rest h in λ i. Passes (e.0 i) (e.1 i)
  turned_passes (Faulty c mid) x rest h = passes_not x rest (turn c) mid (sym h)

  turned_faulty : (j : Judged C X) (d : D) (rest : List ℕ) → turned j ≡ Faulty d rest → (c : C) × (turn c ≡ d) × (j ≡ Faulty c rest)
  turned_faulty (Passes y mid) d rest h = passes_not y mid d rest h
  turned_faulty (Faulty c mid) d rest h = let e = same_faulty {X = X} (turn c) d mid rest h in (c, e.0, ap (Faulty c) e.1)

  module _ (f : FormOf C X) (i : List ℕ) where
    -- it is spelled as before
    pub retold_begins : (x : X) (rest : List ℕ) → BeginsAs (retold turn f) i x rest → BeginsAs f i x rest
    retold_begins x rest begins = passes_is_spelled f i x rest (turned_passes (judged_as f i) x rest (sym (retold_judged f i) ∙ begins_passes (retold turn f) i x rest begins))

    -- and refused where it was
    pub retold_refused : (d : D) (rest : List ℕ) → RefusedAs (retold turn f) i d rest → (c : C) × (turn c ≡ d) × RefusedAs f i c rest
    retold_refused d rest refused =
        let (c, is, before) = turned_faulty (judged_as f i) d rest (sym (retold_judged f i) ∙ refused_is (retold turn f) i d rest refused) in
        (c, is, is_refused f i c rest before)

    pub refused_retold : (c : C) (rest : List ℕ) → RefusedAs f i c rest → RefusedAs (retold turn f) i (turn c) rest
    refused_retold c rest refused = is_refused (retold turn f) i (turn c) rest (retold_judged f i ∙ ap turned (refused_is f i c rest refused))

pub placed_judged : {P C X : Type 0} (place : P) (f : FormOf C X) (i : List ℕ) → judged_as (placed_form place f) i ≡ placed place (judged_as f i)
placed_judged {P} {C} {X} place f i = retold_judged (λ c. (place, c)) f i ∙ by (judged_as f i)
  where
    by : (j : Judged C X) → turned (λ c. (place, c)) j ≡ placed place j
    by (Passes x rest) = refl
    by (Faulty c rest) = refl

-- what is refused in a form with a place is refused at this place
pub placed_refused : {P C X : Type 0} (at place : P) (f : FormOf C X) (i : List ℕ) (c : C) (rest : List ℕ) → RefusedAs (placed_form at f) i (place, c) rest → (at ≡ place) × RefusedAs f i c rest
placed_refused {P} {C} at place f i c rest refused =
    let (d, is, before) = retold_refused (λ c. (at, c)) f i (place, c) rest refused in
    (ap (λ (p : P × C). p.0) is, subst (λ (e : C). RefusedAs f i e rest) (ap (λ (p : P × C). p.1) is) before)

-- ---- n forms one behind another

module _ {C X : Type 0} (step : ℕ → X → FormOf C X) where
  pub steps_judged : (n k : ℕ) (x : X) (i : List ℕ) → judged_as (steps_form step n k x) i ≡ steps (λ k x i. judged_as (step k x) i) n k x i
  unfolding judged_as steps_form steps
  steps_judged zero k x i = refl
  steps_judged (suc n) k x i = then_judged (λ y. steps_form step n (k + 1) y) (step k x) i ∙ (λ at. judged_as (step k x) i >>= λ a. steps_judged n (k + 1) a.0 a.1 at)

  -- behind the first steps the next is refused
  pub record StepRefused (n k : ℕ) (x : X) (i : List ℕ) (c : C) (rest : List ℕ) : Type 0 where
    pub m : ℕ
    pub y : X
    pub mid : List ℕ
    pub less : m < n
    pub before : BeginsAs (steps_form step m k x) i y mid
    pub refused : RefusedAs (step (k + m) y) mid c rest

  refused_from : (n k : ℕ) (x : X) (i : List ℕ) (c : C) (rest : List ℕ) → RefusedAs (steps_form step n k x) i c rest → StepRefused n k x i c rest
  unfolding steps_form
  refused_from zero k x i c rest refused = absurd (never_both (Gives x) i x i c rest (gives_begins x i) refused)
  refused_from (suc n) k x i c rest refused = elim (refused_then (step k x) (steps_form step n (k + 1)) i c rest refused) [
    | inl first ↦
        let none : k ≡ k + 0 = omega arith in
        record { m = 0; y = x; mid = i; less = omega arith; before = gives_begins x i; refused = subst (λ l. RefusedAs (step l x) i c rest) none first }
    | inr a ↦
        let s = refused_from n (k + 1) a.0 a.1 c rest a.3 in
        let same : (k + 1) + s.m ≡ k + suc s.m = omega arith in
        let less = s.less in
        record { m = suc s.m; y = s.y; mid = s.mid; less = omega (arith, less); before = then_begins (step k x) (steps_form step s.m (k + 1)) i a.1 a.0 s.y s.mid a.2 s.before; refused = subst (λ l. RefusedAs (step l s.y) s.mid c rest) same s.refused }
  ]

  from_refused : (m n k : ℕ) (x y : X) (i mid : List ℕ) (c : C) (rest : List ℕ) → m < n → BeginsAs (steps_form step m k x) i y mid → RefusedAs (step (k + m) y) mid c rest → RefusedAs (steps_form step n k x) i c rest
  unfolding steps_form
  from_refused m zero k x y i mid c rest less before refused = absurd (omega (arith, less))
  from_refused zero (suc n) k x y i mid c rest less before refused =
      let none : k + 0 ≡ k = omega arith in
      let e = begins_gives {C = C} x y i mid before in
      first_refused (step k x) (steps_form step n (k + 1)) i c rest (subst (λ l. RefusedAs (step k x) l c rest) (sym e.1) (subst (λ z. RefusedAs (step k z) mid c rest) (sym e.0) (subst (λ l. RefusedAs (step l y) mid c rest) none refused)))
  from_refused (suc m) (suc n) k x y i mid c rest less before refused =
      let b = begins_then (step k x) (steps_form step m (k + 1)) i y mid before in
      let same : k + suc m ≡ (k + 1) + m = omega arith in
      then_refused (step k x) (steps_form step n (k + 1)) i b.mid b.x c rest b.first (from_refused m n (k + 1) b.x y b.mid mid c rest (omega (arith, less)) b.then (subst (λ l. RefusedAs (step l y) mid c rest) same refused))

  -- of n steps from 0 on the one that is refused is that of the number of those before it
  pub steps_refused : (n : ℕ) (x : X) (i : List ℕ) (c : C) (rest : List ℕ) → RefusedAs (steps_form step n 0 x) i c rest → (m : ℕ) × (y : X) × (mid : List ℕ) × (m < n) × BeginsAs (steps_form step m 0 x) i y mid × RefusedAs (step m y) mid c rest
  steps_refused n x i c rest refused =
      let s = refused_from n 0 x i c rest refused in
      let same : 0 + s.m ≡ s.m = omega arith in
      (s.m, s.y, s.mid, s.less, s.before, subst (λ l. RefusedAs (step l s.y) s.mid c rest) same s.refused)

  pub refused_steps : (m n : ℕ) (x y : X) (i mid : List ℕ) (c : C) (rest : List ℕ) → m < n → BeginsAs (steps_form step m 0 x) i y mid → RefusedAs (step m y) mid c rest → RefusedAs (steps_form step n 0 x) i c rest
  refused_steps m n x y i mid c rest less before refused = let same : m ≡ 0 + m = omega arith in from_refused m n 0 x y i mid c rest less before (subst (λ l. RefusedAs (step l y) mid c rest) same refused)

-- ---- judged as a form

-- one after another, where each is judged so
pub then_is : {C X Y : Type 0} (f : FormOf C X) (g : X → FormOf C Y) (i : List ℕ) (j : Judged C X) (k : X × List ℕ → Judged C Y) → judged_as f i ≡ j → ((x : X) (mid : List ℕ) → judged_as (g x) mid ≡ k (x, mid)) → judged_as (f >>> g) i ≡ (j >>= k)
then_is f g i j k first then = then_judged g f i ∙ (λ at. first at >>= λ a. then a.0 a.1 at)

-- steps, where each is judged so
pub steps_are : {C X : Type 0} (step : ℕ → X → FormOf C X) (judge : ℕ → X → List ℕ → Judged C X) (n : ℕ) (x : X) (i : List ℕ) → ((k : ℕ) (y : X) (mid : List ℕ) → judged_as (step k y) mid ≡ judge k y mid) → judged_as (steps_form step n 0 x) i ≡ steps judge n 0 x i
steps_are step judge n x i same = steps_judged step n 0 x i ∙ (λ at. steps (λ k y mid. same k y mid at) n 0 x i)

-- one for each of a list, where each is judged so
pub each_is : {C W X : Type 0} (f : W → FormOf C X) (judge : W → List ℕ → Judged C X) → ((w : W) (i : List ℕ) → judged_as (f w) i ≡ judge w i) → (ws : List W) (i : List ℕ) → judged_as (each_form f ws) i ≡ each judge ws i
unfolding judged_as each_form each
each_is f judge same [] i = refl
each_is f judge same (w ∷ ws) i =
    then_is (f w) (λ x. each_form f ws >>> λ xs. Gives (x ∷ xs)) i (judge w i) (λ first. each judge ws first.1 >>= λ others. Passes (first.0 ∷ others.0) others.1) (same w i)
    (λ x mid. then_is (each_form f ws) (λ xs. Gives (x ∷ xs)) mid (each judge ws mid) (λ others. Passes (x ∷ others.0) others.1) (each_is f judge same ws mid) (λ xs rest. refl))

pub asked_is : {C X : Type 0} (truncated : C) (rows : List (Test × C)) (x : X) (i : List ℕ) → judged_as (asked_form truncated rows x) i ≡ (tried (first_named rows) i >>= λ _. Passes x i)
unfolding judged_as
asked_is truncated rows x i = ap (λ j. j >>= λ p. tried (first_named rows) p.1 >>= λ _. Passes x p.1) (no_bytes truncated i)
