-- What judging a form gives is what the form says in words.
use Rattle.std.proofs.Common.{◌≡◌, ◌⊎◌, inl, inr, ℕ, List, [], ◌++◌, length, take, drop, Bool, true, false, cond, nat_lt, Option, Some, None, refl, sym, ap, subst, ◌∙◌, append_assoc, take-append-drop, length-take-le, ltb-false, ltb-true, lt-ltb}
use Rattle.std.specs.Prelude.{◌↔◌}
use Rattle.mig_bytes.specs.Judged.{Judged, ◌>>=◌, part, tried}
use Rattle.mig_bytes.specs.Judged.Judged.{Passes, Faulty}
use Rattle.mig_bytes.proofs.Joins.{both_pass, part_passes, part_whole, same_passes, same_faulty, then_passes, tried_none, passes_not}
use Rattle.mig_bytes_form.specs.Tests.{Test, first_named, NoneHolds}
use Rattle.mig_bytes_form.specs.Form.{FormOf, judged_as, SpelledAs, RefusedAs, BeginsAs}
use Rattle.mig_bytes_form.specs.Form.FormOf.{Gives, Part}
use Rattle.mig_bytes_form.specs.Form.SpelledAs.{nothing, one_part}
use Rattle.mig_bytes_form.specs.Form.RefusedAs.{short, faulty, behind}
use Rattle.mig_bytes_form.proofs.Tests.{none_is, is_none, named_is, is_named}

module _ {C X : Type 0} where
  -- behind a part without fault
  part_goes : (n : ℕ) (truncated : C) (rows : List ℕ → List (Test × C)) (next : List ℕ → FormOf C X) (bytes left : List ℕ) → length bytes ≡ n → NoneHolds (rows bytes) → judged_as (Part n truncated rows next) (bytes ++ left) ≡ judged_as (next bytes) left
  unfolding judged_as
  part_goes n truncated rows next bytes left size none =
      then_passes (part truncated n (bytes ++ left)) _ bytes left _ (part_whole truncated n bytes left size) (tried_none (first_named (rows bytes)) left _ (none_is (rows bytes) none))

  -- what is spelled passes
  pub spelled_passes : (f : FormOf C X) (bytes : List ℕ) (x : X) (rest : List ℕ) → SpelledAs f bytes x → judged_as f (bytes ++ rest) ≡ Passes x rest
  unfolding judged_as
  spelled_passes _ _ _ rest (nothing x) = refl
  spelled_passes _ _ _ rest (one_part n truncated rows next bytes more x size none after) =
      ap (judged_as (Part n truncated rows next)) (append_assoc bytes more rest) ∙ part_goes n truncated rows next bytes (more ++ rest) size none ∙ spelled_passes (next bytes) more x rest after

  -- a part without fault, and what is spelled behind it
  begins_part : (n : ℕ) (truncated : C) (rows : List ℕ → List (Test × C)) (next : List ℕ → FormOf C X) (bytes mid i : List ℕ) (x : X) (rest : List ℕ) → i ≡ bytes ++ mid → length bytes ≡ n → NoneHolds (rows bytes) → BeginsAs (next bytes) mid x rest → BeginsAs (Part n truncated rows next) i x rest
  begins_part n truncated rows next bytes mid i x rest whole size none (more, is, after) =
      (bytes ++ more, whole ∙ ap (λ l. bytes ++ l) is ∙ sym (append_assoc bytes more rest), one_part n truncated rows next bytes more x size none after)

  no_cause : (o : Option C) (mid : List ℕ) (j : Judged C X) (x : X) (rest : List ℕ) → (tried o mid >>= λ _. j) ≡ Passes x rest → (o ≡ None) × (j ≡ Passes x rest)
  no_cause None mid j x rest h = (refl, h)
  no_cause (Some c) mid j x rest h = passes_not x rest c mid (sym h)

  -- what passes is spelled
  pub passes_is_spelled : (f : FormOf C X) (i : List ℕ) (x : X) (rest : List ℕ) → judged_as f i ≡ Passes x rest → BeginsAs f i x rest
  unfolding judged_as
  passes_is_spelled (Gives y) i x rest h = let e = same_passes {C = C} y x i rest h in ([], e.1, subst (SpelledAs (Gives y) []) e.0 (nothing y))
  passes_is_spelled (Part n truncated rows next) i x rest h =
      let a = both_pass (part truncated n i) (λ p. tried (first_named (rows p.0)) p.1 >>= λ _. judged_as (next p.0) p.1) x rest h in
      let p = part_passes truncated n i a.x a.mid a.first in
      let t = no_cause (first_named (rows a.x)) a.mid (judged_as (next a.x) a.mid) x rest a.second in
      begins_part n truncated rows next a.x a.mid i x rest p.0 p.1 (is_none (rows a.x) t.0) (passes_is_spelled (next a.x) a.mid x rest t.1)

  pub passes_spelled : (f : FormOf C X) (i : List ℕ) (x : X) (rest : List ℕ) → (judged_as f i ≡ Passes x rest) ↔ BeginsAs f i x rest
  passes_spelled f i x rest = (passes_is_spelled f i x rest, λ (bytes, is, spelled). ap (judged_as f) is ∙ spelled_passes f bytes x rest spelled)

  -- ---- refusals

  pub refused_is : (f : FormOf C X) (i : List ℕ) (c : C) (rest : List ℕ) → RefusedAs f i c rest → judged_as f i ≡ Faulty c rest
  unfolding judged_as
  refused_is _ _ _ _ (short n truncated rows next left less) = rw (lt-ltb (length left) n less) refl
  refused_is _ _ _ _ (faulty n truncated rows next bytes rest c size names) =
      then_passes (part truncated n (bytes ++ rest)) _ bytes rest _ (part_whole truncated n bytes rest size) (ap (λ o. tried o rest >>= λ _. judged_as (next bytes) rest) (named_is (rows bytes) c names))
  refused_is _ _ _ _ (behind n truncated rows next bytes left c rest size none after) = part_goes n truncated rows next bytes left size none ∙ refused_is (next bytes) left c rest after

  pub is_refused : (f : FormOf C X) (i : List ℕ) (c : C) (rest : List ℕ) → judged_as f i ≡ Faulty c rest → RefusedAs f i c rest
  unfolding judged_as
  is_refused (Gives x) i c rest h = passes_not x i c rest h
  is_refused (Part n truncated rows next) i c rest h = by (nat_lt (length i) n) refl h (λ g. is_refused (next (take n i)) (drop n i) c rest g)
    where
      Deeper : Type 0
      Deeper = judged_as (next (take n i)) (drop n i) ≡ Faulty c rest → RefusedAs (next (take n i)) (drop n i) c rest

      tries : (o : Option C) → first_named (rows (take n i)) ≡ o → length (take n i) ≡ n → (tried o (drop n i) >>= λ _. judged_as (next (take n i)) (drop n i)) ≡ Faulty c rest → Deeper → RefusedAs (Part n truncated rows next) (take n i ++ drop n i) c rest
      tries None none size g deeper = behind n truncated rows next (take n i) (drop n i) c rest size (is_none (rows (take n i)) none) (deeper g)
      tries (Some d) is size g deeper =
          let e = same_faulty {X = X} d c (drop n i) rest g in
          subst (λ (l : List ℕ). RefusedAs (Part n truncated rows next) (take n i ++ drop n i) c l) e.1 (faulty n truncated rows next (take n i) (drop n i) c size (is_named (rows (take n i)) c (is ∙ ap Some e.0)))

      by : (b : Bool) → nat_lt (length i) n ≡ b → (cond b (Faulty truncated []) (Passes (take n i) (drop n i)) >>= λ p. tried (first_named (rows p.0)) p.1 >>= λ _. judged_as (next p.0) p.1) ≡ Faulty c rest → Deeper → RefusedAs (Part n truncated rows next) i c rest
      by true less g deeper =
          let e = same_faulty {X = X} truncated c [] rest g in
          subst (λ (d : C). RefusedAs (Part n truncated rows next) i d rest) e.0 (subst (λ (l : List ℕ). RefusedAs (Part n truncated rows next) i truncated l) e.1 (short n truncated rows next i (ltb-true _ _ less)))
      by false long g deeper =
          subst (λ (l : List ℕ). RefusedAs (Part n truncated rows next) l c rest) (take-append-drop n i)
          (tries (first_named (rows (take n i))) refl (length-take-le n i (ltb-false (length i) n long)) g deeper)

  pub refused_so : (f : FormOf C X) (i : List ℕ) (c : C) (rest : List ℕ) → (judged_as f i ≡ Faulty c rest) ↔ RefusedAs f i c rest
  refused_so f i c rest = (is_refused f i c rest, refused_is f i c rest)

  -- where judging is known
  pub refused_where : (f : FormOf C X) (i : List ℕ) (j : Judged C X) (c : C) (rest : List ℕ) → judged_as f i ≡ j → (j ≡ Faulty c rest) ↔ RefusedAs f i c rest
  refused_where f i j c rest same = (λ h. is_refused f i c rest (same ∙ h), λ r. sym same ∙ refused_is f i c rest r)

  pub begins_passes : (f : FormOf C X) (i : List ℕ) (x : X) (rest : List ℕ) → BeginsAs f i x rest → judged_as f i ≡ Passes x rest
  begins_passes f i x rest begins = (passes_spelled f i x rest).1 begins

  -- ---- what follows

  pub accepted_or_refused : (f : FormOf C X) (i : List ℕ) → ((x : X) × (rest : List ℕ) × BeginsAs f i x rest) ⊎ ((c : C) × (rest : List ℕ) × RefusedAs f i c rest)
  accepted_or_refused f i = by (judged_as f i) refl
    where
      by : (j : Judged C X) → judged_as f i ≡ j → ((x : X) × (rest : List ℕ) × BeginsAs f i x rest) ⊎ ((c : C) × (rest : List ℕ) × RefusedAs f i c rest)
      by (Passes x rest) is = inl (x, rest, passes_is_spelled f i x rest is)
      by (Faulty c rest) is = inr (c, rest, is_refused f i c rest is)

  pub never_both : (f : FormOf C X) (i : List ℕ) (x : X) (rest : List ℕ) (c : C) (more : List ℕ) → BeginsAs f i x rest → RefusedAs f i c more → ⊥
  never_both f i x rest c more begins refused = passes_not x rest c more (sym (begins_passes f i x rest begins) ∙ refused_is f i c more refused)

  pub one_refusal : (f : FormOf C X) (i : List ℕ) (c d : C) (rest more : List ℕ) → RefusedAs f i c rest → RefusedAs f i d more → (c ≡ d) × (rest ≡ more)
  one_refusal f i c d rest more one other = same_faulty {X = X} c d rest more (sym (refused_is f i c rest one) ∙ refused_is f i d more other)
