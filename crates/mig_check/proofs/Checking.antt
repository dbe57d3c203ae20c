-- Whoever carries out a check keeps its promise.
use Rattle.std.proofs.Common.{◌≡◌, ◌∙◌, ℕ, List, None, Option, ◌++◌, refl, sym, subst, ap}
use Rattle.std.specs.Prelude.{codes, is_some}
use Rattle.mig_check.specs.Checks.{NamesCheck, promise_of_check}
use Rattle.mig_check.specs.declared.words.Check.{Check}
use Rattle.mig_check.specs.declared.words.Check.TheVariants.{Stream, Legacy}
use Rattle.mig_legacy.specs.Spelled.{AcceptedLegacy}
use Rattle.mig_libxl_form.specs.Spelled.{AcceptedStream}
use Rattle.mig_tool_guest.proofs.Once.{accepted_once, legacy_once}
use Rattle.mig_tool_guest.specs.Fronts.{Checked, LegacyChecked}
use Rattle.mig_tool_guest.specs.Promises.{HasFront}
use Rattle.mig_tool_guest.specs.Refusals.{HasLegacyRefusal, HasStreamRefusal}
use Rattle.mig_tool_report.proofs.Settled.{IsSettled, keeps, settled_line}
use Rattle.mig_tool_report.specs.Promises.{CarriedOut, Effects, KeepsPromise}
use Rattle.mig_tool_report.specs.Report.{checked_legacy_line, checked_line, differs_text, ok_line, stream_text, uncompared, unknown_text}
use Rattle.mig_tool_report.specs.declared.outcome.Summary.{Summary}
use Rattle.mig_tool_report.specs.declared.status.Status.{Status}

settled : (check : Check) → IsSettled (promise_of_check check)
settled Stream =
    settled_line checked_line (HasFront AcceptedStream) HasStreamRefusal Checked
    (λ Reported input left h. record { guest = h.guest; rest = h.rest; accepted = h.accepted }) (λ input refusal rest a refused. accepted_once input a.guest a.rest rest refusal a.accepted refused)
settled Legacy =
    settled_line checked_legacy_line (HasFront AcceptedLegacy) HasLegacyRefusal LegacyChecked
    (λ Reported input left h. record { guest = h.guest; rest = h.rest; accepted = h.accepted }) (λ input refusal rest a refused. legacy_once input a.guest a.rest rest refusal a.accepted refused)

pub keeps_check : (this check : Check) (e : Effects) (status : Status) → this ≡ check → CarriedOut (promise_of_check this) e status → KeepsPromise (promise_of_check check) e status
keeps_check this check e status same came = keeps (promise_of_check check) (settled check) e status (subst (λ (d : Check). CarriedOut (promise_of_check d) e status) same came)

-- words name one thing to be checked
pub same_check : (words : List (List ℕ)) (this check : Check) → NamesCheck words this → NamesCheck words check → this ≡ check
same_check words Stream Stream a b = refl
same_check words Legacy Legacy a b = refl
same_check words Stream Legacy a b = let e = sym a ∙ b in cc
same_check words Legacy Stream a b = let e = sym a ∙ b in cc

-- where nothing is to be compared, nothing is said of it
pub same_line : (s : Summary) → s.differs ≡ None → checked_line (uncompared s) ≡ ok_line s
same_line s none = ap (λ (d : Option ℕ). stream_text s.version s.kind s.frames s.records ++ (unknown_text (is_some d) ++ codes "\n")) none ∙ ap (λ (d : Option ℕ). stream_text s.version s.kind s.frames s.records ++ (differs_text d ++ codes "\n")) (sym none)
