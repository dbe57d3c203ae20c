use Rattle.mig_tool_report.proofs.Common.{◌≡◌, ℕ, Result, Ok, Err, sym, ap, ◌∙◌, rules, decimal, parse-decimal}
use Rattle.mig_tool_report.proofs.command.number_in.Goals as goal

apart : {E : Type 0} (e : E) (n : ℕ) → ◌≡◌ {A = Result ℕ E} (Err e) (Ok n) → ⊥
apart e n h = cc

same : {E : Type 0} (m n : ℕ) → ◌≡◌ {A = Result ℕ E} (Ok m) (Ok n) → m ≡ n
same m n h = cc

pub returns-in_default-clause-none : goal.returns-in_default-clause-none
returns-in_default-clause-none c = λ n is small. apart _ n (parse-decimal 64 n c.args.word.now (Err c.in_default.field-0) small small is (search rules))

pub returns-then-not-is_word-clause-none : goal.returns-then-not-is_word-clause-none
returns-then-not-is_word-clause-none c = λ n is small.
    let it : c.in-Ok.number ≡ n = same {E = Unit {0}} _ n (parse-decimal 64 n c.args.word.now (Ok c.in-Ok.number) small small is c.in-Ok.ensures.value.0) in
    let spelled : c.args.word.now ≡ decimal c.in-Ok.number = is ∙ ap decimal (sym it) in
    search rules
