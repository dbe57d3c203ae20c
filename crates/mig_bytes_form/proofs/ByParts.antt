-- Forms by their parts: what passes is put together and taken apart; and what readers of forms give.
use Rattle.std.proofs.Common.{◌≡◌, ℕ, List, ◌++◌, length, Option, None, Result, Ok, Err, refl, sym, ap, subst, ◌∙◌}
use Rattle.std.specs.Result.{IsErrAnd}
use Rattle.mig_bytes.specs.declared.stop.Stop.{Stop}
use Rattle.mig_bytes.specs.Judged.{Judged, placed, steps, stop_at, AgreesWithJudging}
use Rattle.mig_bytes.specs.Judged.Judged.{Passes}
use Rattle.mig_bytes.proofs.Joins.{Both, both_pass, done, judged_so, placed_passes, same_passes, stopped, then_passes, then_reads}
use Rattle.mig_bytes.proofs.Placed.{placed_fine, placed_stops}
use Rattle.mig_bytes.proofs.Said.{bytes_pass, said_goes}
use Rattle.mig_bytes_form.specs.Tests.{Test, first_named}
use Rattle.mig_bytes_form.specs.Form.{FormOf, ◌>>>◌, bytes_form, steps_form, placed_form, judged_as}
use Rattle.mig_bytes_form.specs.Form.FormOf.{Gives as Giving}
use Rattle.mig_bytes_form.proofs.Joined.{placed_judged, steps_are, then_judged}

-- ---- what passes

module _ {C : Type 0} (truncated : C) (n : ℕ) (rows : List ℕ → List (Test × C)) where
  -- so many bytes in which no cause is named
  pub bytes_go : (bytes rest : List ℕ) → length bytes ≡ n → first_named (rows bytes) ≡ None → judged_as (bytes_form truncated n rows) (bytes ++ rest) ≡ Passes bytes rest
  unfolding judged_as
  bytes_go bytes rest size fine = said_goes truncated (λ l. first_named (rows l)) (λ l. l) n bytes rest size fine

  pub bytes_gone : (i bytes rest : List ℕ) → judged_as (bytes_form truncated n rows) i ≡ Passes bytes rest → (i ≡ bytes ++ rest) × (length bytes ≡ n) × (first_named (rows bytes) ≡ None)
  unfolding judged_as
  bytes_gone i bytes rest is = bytes_pass truncated (λ l. first_named (rows l)) n i bytes rest is

module _ {C X : Type 0} (x : X) (i : List ℕ) where
  pub gives_goes : judged_as {C = C} (Giving x) i ≡ Passes x i
  unfolding judged_as
  gives_goes = refl

  pub gives_gone : (y : X) (rest : List ℕ) → judged_as {C = C} (Giving x) i ≡ Passes y rest → (x ≡ y) × (i ≡ rest)
  unfolding judged_as
  gives_gone y rest is = same_passes {C = C} x y i rest is

-- one form behind another
module _ {C X Y : Type 0} (f : FormOf C X) (g : X → FormOf C Y) (i : List ℕ) where
  pub then_goes : (x : X) (mid : List ℕ) (z : Judged C Y) → judged_as f i ≡ Passes x mid → judged_as (g x) mid ≡ z → judged_as (f >>> g) i ≡ z
  then_goes x mid z first then = then_judged g f i ∙ then_passes (judged_as f i) (λ a. judged_as (g a.0) a.1) x mid z first then

  pub both_go : (y : Y) (rest : List ℕ) → judged_as (f >>> g) i ≡ Passes y rest → Both (judged_as f i) (λ a. judged_as (g a.0) a.1) y rest
  both_go y rest is = both_pass (judged_as f i) (λ a. judged_as (g a.0) a.1) y rest (sym (then_judged g f i) ∙ is)

-- a form with a place
module _ {P C X : Type 0} (place : P) (f : FormOf C X) (i : List ℕ) (x : X) (rest : List ℕ) where
  pub placed_goes : judged_as f i ≡ Passes x rest → judged_as (placed_form place f) i ≡ Passes x rest
  placed_goes is = placed_judged place f i ∙ ap (placed place) is

  pub placed_gone : judged_as (placed_form place f) i ≡ Passes x rest → judged_as f i ≡ Passes x rest
  placed_gone is = placed_passes place (judged_as f i) x rest (sym (placed_judged place f i) ∙ is)

-- n forms one behind another, each with its place
module _ {P C X : Type 0} (place : ℕ → P) (one : X → FormOf C X) where
  abbrev pub steps_at : ℕ → X → List ℕ → Judged (P × C) X
  steps_at n x i = steps (λ k y mid. placed (place k) (judged_as (one y) mid)) n 0 x i

  pub steps_go : (n : ℕ) (x : X) (i : List ℕ) → judged_as (steps_form (λ k y. placed_form (place k) (one y)) n 0 x) i ≡ steps_at n x i
  steps_go n x i = steps_are (λ k y. placed_form (place k) (one y)) (λ k y mid. placed (place k) (judged_as (one y) mid)) n x i (λ k y mid. placed_judged (place k) (one y) mid)

-- ---- what readers give

pub nothing_read : {X Z : Type 0} (C : Type 0) (Q : Z → X → Type 0) (a : Option (List ℕ)) (z : Z) (x : X) → Q z x → AgreesWithJudging Q a a (judged_as {C = C} (Giving x)) (Ok z)
nothing_read C Q a z x q = done Q a (judged_as {C = C} (Giving x)) z x (gives_goes x) q

module _ {C V X Y Z : Type 0} (R : V → X → Type 0) (Q : Z → Y → Type 0) (f : FormOf C X) (g : X → FormOf C Y) (a : Option (List ℕ)) where
  -- a form, and then another
  pub then_read : (b c : Option (List ℕ)) (v : V) (r : Result Z (Stop C)) → AgreesWithJudging R a b (judged_as f) (Ok v) → ((x : X) → R v x → AgreesWithJudging Q b c (judged_as (g x)) r) → AgreesWithJudging Q a c (judged_as (f >>> g)) r
  then_read b c v r first then = then_reads R Q a b c (judged_as f) (judged_as (f >>> g)) (λ x. judged_as (g x.0) x.1) v r (then_judged g f) first then

  -- the first isn't read
  pub first_stops : (b : Option (List ℕ)) (e : Stop C) (r : Result Z (Stop C)) → IsErrAnd r (λ d. d ≡ e) → AgreesWithJudging R a b (judged_as f) (Err e) → AgreesWithJudging Q a b (judged_as (f >>> g)) r
  first_stops b e r is first = stopped R Q a b (judged_as f) (judged_as (f >>> g)) (λ x. judged_as (g x.0) x.1) e r (then_judged g f) is first

-- where the first tells what it reads
pub told_then : {C V X Y Z : Type 0} (value : V → X) (Q : Z → Y → Type 0) (f : FormOf C X) (g : X → FormOf C Y) (a b c : Option (List ℕ)) (v : V) (r : Result Z (Stop C))
    → AgreesWithJudging (λ v x. x ≡ value v) a b (judged_as f) (Ok v) → AgreesWithJudging Q b c (judged_as (g (value v))) r → AgreesWithJudging Q a c (judged_as (f >>> g)) r
told_then value Q f g a b c v r first then = then_read (λ v x. x ≡ value v) Q f g a b c v r first (λ x is. subst (λ y. AgreesWithJudging Q b c (judged_as (g y)) r) (sym is) then)

-- at a place
module _ {P C V X : Type 0} (R : V → X → Type 0) (place : P) (f : FormOf C X) (a b : Option (List ℕ)) where
  pub placed_read : (v : V) → AgreesWithJudging R a b (judged_as f) (Ok v) → AgreesWithJudging R a b (judged_as (placed_form place f)) (Ok v)
  placed_read v first = judged_so R a b (λ i. placed place (judged_as f i)) (judged_as (placed_form place f)) (Ok v) (placed_judged place f) (placed_fine R place a b (judged_as f) v first)

  pub placed_stop : (e : Stop C) (d : Stop (P × C)) → d ≡ stop_at place e → AgreesWithJudging R a b (judged_as f) (Err e) → AgreesWithJudging R a b (judged_as (placed_form place f)) (Err d)
  placed_stop e d is first = judged_so R a b (λ i. placed place (judged_as f i)) (judged_as (placed_form place f)) (Err d) (placed_judged place f) (placed_stops R place a b (judged_as f) e d is first)

-- n of them
pub steps_read : {P C V X : Type 0} (R : V → X → Type 0) (place : ℕ → P) (one : X → FormOf C X) (a b : Option (List ℕ)) (n : ℕ) (x : X) (r : Result V (Stop (P × C)))
    → AgreesWithJudging R a b (steps_at place one n x) r → AgreesWithJudging R a b (judged_as (steps_form (λ k y. placed_form (place k) (one y)) n 0 x)) r
steps_read R place one a b n x r all = judged_so R a b (steps_at place one n x) (judged_as (steps_form (λ k y. placed_form (place k) (one y)) n 0 x)) r (steps_go place one n x) all
