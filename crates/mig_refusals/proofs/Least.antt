-- The cause that is named: of a table the first row whose test holds, and of several tables the first that names one.
use Rattle.mig_refusals.proofs.Common.{◌≡◌, ◌⊎◌, inl, inr, ℕ, List, Bool, true, false, cond, refl, false≢true, Option, Some, None, sym, ap, subst, arith, option_or, first_fault, Cause, OutOfOrder, IsTriedBefore, IsFirstCause, AnswersFirstCause, number_of_cause, ascends, rows_name, Named}
use Rattle.mig_host_laws.specs.NamedFirst.{NamesFirst}
use Rattle.mig_headers.proofs.FirstCauses as firsts

-- what a computed fault is of the causes that stand
abbrev pub Least : (ℕ → Cause → Type 0) → Option Cause → Type 0
Least Has f = NamesFirst number_of_cause Has f

-- what is named is what is computed
pub named_is : (Has : ℕ → Cause → Type 0) (f : Option Cause) (c : Cause) → Least Has f → IsFirstCause Has c → f ≡ Some c
named_is Has None c p n = absurd (p.holds n.0 c n.1)
named_is Has (Some d) c p n = elim (p.holds.2 n.0 c n.1) [
  | inr e ↦ ap Some (sym e)
  | inl before ↦ elim (n.2 p.holds.0 d p.holds.1) [ inr e ↦ ap Some e | inl after ↦ absurd (grind (arith, before, after)) ]
]

pub none_is : (Has : ℕ → Cause → Type 0) (f : Option Cause) → Least Has f → ((at : ℕ × Cause) → Has at.0 at.1 → ⊥) → f ≡ None
none_is Has None p never = refl
none_is Has (Some d) p never = absurd (never (p.holds.0, d) p.holds.1)

pub answers_first : (Has : ℕ → Cause → Type 0) (f : Option Cause) → Least Has f → AnswersFirstCause Has f
answers_first Has f p = record {
  first = λ c. ((λ is. (subst (Least Has) is p).holds), (λ first. named_is Has f c p first));
  none = ((λ is. (subst (Least Has) is p).holds), (λ never. none_is Has f p (λ at h. never at.0 at.1 h)));
}

-- a cause that stands at one place
abbrev pub Alone : Type 0 → ℕ → Cause → ℕ → Cause → Type 0
Alone P place cause k c = P × (k ≡ place) × (c ≡ cause)

pub alone_least : (P : Type 0) (place : ℕ) (cause : Cause) (b : Bool) → (b ≡ true → P) → (P → b ≡ true) → Least (Alone P place cause) (cond b (Some cause) None)
alone_least P place cause true to from = record { holds = (place, (to refl, refl, refl), λ k d h. inr h.2) }
alone_least P place cause false to from = record { holds = λ k c h. false≢true (from h.0) }

-- ---- rows

-- the place of a cause of a table of tests
abbrev pub rule_in : Cause → ℕ
rule_in (OutOfOrder rule) = rule
rule_in _ = 0

abbrev pub RowHas : List (Bool × Cause) → ℕ → Cause → Type 0
RowHas rows k c = (k ≡ rule_in c) × firsts.RowHas number_of_cause rule_in rows c

abbrev pub To : (ℕ → Cause → Type 0) → List (Bool × Cause) → Type 0
To Has rows = firsts.To number_of_cause rule_in (λ c. Has (rule_in c) c) rows

-- rows in the order of their causes: the first whose test holds is named
pub named : (Has : ℕ → Cause → Type 0) (rows : List (Bool × Cause)) → ascends number_of_cause rule_in rows ≡ true → To Has rows → ((k : ℕ) (c : Cause) → Has k c → RowHas rows k c) → Least Has (first_fault rows)
named Has rows asc to from = by (first_fault rows) (rows_name number_of_cause rule_in (λ c. Has (rule_in c) c) rows asc to (λ c h. (from (rule_in c) c h).1))
  where
    there : (k : ℕ) (c : Cause) → Has k c → Has (rule_in c) c
    there k c h = subst (λ i. Has i c) (from k c h).0 h

    by : (f : Option Cause) → Named number_of_cause rule_in (λ c. Has (rule_in c) c) f → Least Has f
    by None p = record { holds = λ k c h. p.holds c (there k c h) }
    by (Some c) p = record { holds = (rule_in c, p.holds.0, λ j d h. subst (λ i. IsTriedBefore (rule_in c) c i d ⊎ (d ≡ c)) (sym (from j d h).0) (p.holds.1 d (there j d h))) }

-- ---- tables one behind the other

pub turned : (P R : ℕ → Cause → Type 0) (f : Option Cause) → Least P f → ((k : ℕ) (c : Cause) → P k c → R k c) → ((k : ℕ) (c : Cause) → R k c → P k c) → Least R f
turned P R None p to from = record { holds = λ k c r. p.holds k c (from k c r) }
turned P R (Some c) p to from = record { holds = (p.holds.0, to p.holds.0 c p.holds.1, λ j d r. p.holds.2 j d (from j d r)) }

-- causes of which the first ones are tried before the others
pub both_least : (A B Has : ℕ → Cause → Type 0) (f g : Option Cause) → ((j k : ℕ) (c d : Cause) → A j c → B k d → IsTriedBefore j c k d)
    → ((k : ℕ) (c : Cause) → A k c ⊎ B k c → Has k c) → ((k : ℕ) (c : Cause) → Has k c → A k c ⊎ B k c) → Least A f → Least B g → Least Has (option_or f g)
both_least A B Has (Some c) g before to from p q = record { holds = (p.holds.0, to p.holds.0 c (inl p.holds.1), λ j d h. elim (from j d h) [ inl a ↦ p.holds.2 j d a | inr b ↦ inl (before p.holds.0 j c d p.holds.1 b) ]) }
both_least A B Has None (Some c) before to from p q = record { holds = (q.holds.0, to q.holds.0 c (inr q.holds.1), λ j d h. elim (from j d h) [ inl a ↦ absurd (p.holds j d a) | inr b ↦ q.holds.2 j d b ]) }
both_least A B Has None None before to from p q = record { holds = λ k c h. elim (from k c h) [ inl a ↦ p.holds k c a | inr b ↦ q.holds k c b ] }
