use Rattle.mig_restore_form.proofs.Common.{rules, ◌≡◌, ℕ, Option, Some, None, Result, Ok, Err, sym, ap, ◌∙◌, unless_faulty, Cause, fault_of_type, fault_of_long, fault_of_length, Before, fault_of_number, option_or}
use Rattle.mig_restore_form.specs.declared.head.RecordsSeen.{RecordsSeen}
use Rattle.mig_restore_form.specs.Seen.{IsSeen}
use Rattle.mig_restore_form.specs.Judging.{fault_of_fields}
use Rattle.mig_restore_form.proofs.head.RecordsSeen.judge.Goals as goal

abbrev Verdict : Type 0
Verdict = Result (Unit {0}) Cause

second : (a b c d : Option Cause) (cause : Cause) → a ≡ None → ◌≡◌ {A = Verdict} (Err cause) (unless_faulty b tt) → ◌≡◌ {A = Verdict} (Err cause) (unless_faulty (option_or a (option_or b (option_or c d))) tt)
second a None c d cause p is = let no : ◌≡◌ {A = Verdict} (Err cause) (Ok tt) = is in cc
second a (Some x) c d cause p is = rw p is

-- the order is broken
order_broken : (seen : RecordsSeen) (b : Before) (type len : ℕ) (cause : Cause) → IsSeen seen b.opening b.types → fault_of_long len ≡ None
    → ◌≡◌ {A = Verdict} (Err cause) (unless_faulty (fault_of_type seen.gate.version seen.gate.kind b.types type) tt) → ◌≡◌ {A = Verdict} (Err cause) (unless_faulty (fault_of_fields b type len) tt)
unfolding fault_of_fields
order_broken seen b type len cause s short is =
    second _ _ (fault_of_length type len) (fault_of_number b.types) cause short
    (is ∙ ap (λ v. unless_faulty (fault_of_type v seen.gate.kind b.types type) tt) s.gate_version ∙ ap (λ k. unless_faulty (fault_of_type b.opening.version k b.types type) tt) s.gate_kind)

third : (a b c d : Option Cause) (cause : Cause) → a ≡ None → ◌≡◌ {A = Verdict} (Ok tt) (unless_faulty b tt) → c ≡ Some cause → ◌≡◌ {A = Verdict} (Err cause) (unless_faulty (option_or a (option_or b (option_or c d))) tt)
third a None c d cause p q is = sym (ap (λ o. unless_faulty (option_or o (option_or None (option_or c d))) tt) p ∙ ap (λ o. unless_faulty (option_or o d) tt) is)
third a (Some x) c d cause p q is = let no : ◌≡◌ {A = Verdict} (Ok tt) (Err x) = q in cc

-- the length isn't one of the type
length_bad : (seen : RecordsSeen) (b : Before) (type len : ℕ) (cause : Cause) → IsSeen seen b.opening b.types → fault_of_long len ≡ None
    → ◌≡◌ {A = Verdict} (Ok tt) (unless_faulty (fault_of_type seen.gate.version seen.gate.kind b.types type) tt) → fault_of_length type len ≡ Some cause → ◌≡◌ {A = Verdict} (Err cause) (unless_faulty (fault_of_fields b type len) tt)
unfolding fault_of_fields
length_bad seen b type len cause s short step is =
    third _ _ (fault_of_length type len) (fault_of_number b.types) cause short
    (step ∙ ap (λ v. unless_faulty (fault_of_type v seen.gate.kind b.types type) tt) s.gate_version ∙ ap (λ k. unless_faulty (fault_of_type b.opening.version k b.types type) tt) s.gate_kind) is

pub returns-in-Err-clause-judged : goal.returns-in-Err-clause-judged
returns-in-Err-clause-judged c = λ b seen.
    order_broken c.args.self.now b c.args.head.kind c.args.head.len c.in-Err.cause seen (search rules) (c.in-Err.ensures.judged b.types seen.gate)

pub returns-in-Some-length_fault-clause-judged : goal.returns-in-Some-length_fault-clause-judged
returns-in-Some-length_fault-clause-judged c = λ b seen.
    length_bad c.args.self.now b c.args.head.kind c.args.head.len c.in-Some-length_fault.cause seen (search rules) (c.in_default-step.ensures.judged b.types seen.gate) (search rules)

fourth : (a b c d : Option Cause) (cause : Cause) → a ≡ None → ◌≡◌ {A = Verdict} (Ok tt) (unless_faulty b tt) → c ≡ None → Some cause ≡ d → ◌≡◌ {A = Verdict} (Err cause) (unless_faulty (option_or a (option_or b (option_or c d))) tt)
fourth a None c d cause p q r is = sym (ap (λ o. unless_faulty (option_or o (option_or None (option_or c d))) tt) p ∙ ap (λ o. unless_faulty (option_or o d) tt) r ∙ ap (λ o. unless_faulty o tt) (sym is))
fourth a (Some x) c d cause p q r is = let no : ◌≡◌ {A = Verdict} (Ok tt) (Err x) = q in cc

-- there are too many records
no_room : (seen : RecordsSeen) (b : Before) (type len : ℕ) (cause : Cause) → IsSeen seen b.opening b.types → fault_of_long len ≡ None
    → ◌≡◌ {A = Verdict} (Ok tt) (unless_faulty (fault_of_type seen.gate.version seen.gate.kind b.types type) tt) → fault_of_length type len ≡ None → Some cause ≡ fault_of_number b.types → ◌≡◌ {A = Verdict} (Err cause) (unless_faulty (fault_of_fields b type len) tt)
unfolding fault_of_fields
no_room seen b type len cause s short step allowed is =
    fourth _ _ (fault_of_length type len) (fault_of_number b.types) cause short
    (step ∙ ap (λ v. unless_faulty (fault_of_type v seen.gate.kind b.types type) tt) s.gate_version ∙ ap (λ k. unless_faulty (fault_of_type b.opening.version k b.types type) tt) s.gate_kind) allowed is

pub returns-in-Some-number_fault-clause-judged : goal.returns-in-Some-number_fault-clause-judged
returns-in-Some-number_fault-clause-judged c = λ b seen.
    no_room c.args.self.now b c.args.head.kind c.args.head.len c.in-Some-number_fault.cause seen (search rules) (c.in_default-step.ensures.judged b.types seen.gate) (search rules) (c.in-Some-number_fault.ensures.fault b.types seen.count)
