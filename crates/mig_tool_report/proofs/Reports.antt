-- What a line that was put comes to on the report.
use Rattle.mig_tool_report.proofs.Common.{◌≡◌, ℕ, List, [], length, arith, Option, Result, Ok, Err, ap, inl, inr, Puts, FaultHasCause, Reports}
use Rattle.mig_bytes.specs.declared.failure.WriteFailed.{WriteFailed}

pub reports : (line : List ℕ) (old new : Option (List ℕ)) (before now : ℕ) (r : Result (Unit {0}) WriteFailed) → Puts line old new r → FaultHasCause before now r → Reports line old new before now
reports line old new before now (Ok u) put cause = inl (cause.quiet, put)
reports line old new before now (Err e) put cause = inr (cause.later, cause.failed, put)

-- a write of nothing doesn't fail
pub nothing_fails : (line : List ℕ) (old new : Option (List ℕ)) (before now : ℕ) → Reports line old new before now → line ≡ [] → now ≡ before
nothing_fails line old new before now (inl whole) none = whole.0
nothing_fails line old new before now (inr (later, rose, part)) none = absurd (omega (arith, part.1, ap length none))
