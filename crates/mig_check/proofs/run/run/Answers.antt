use Rattle.std.proofs.Common.{subst}
use Rattle.mig_check.proofs.Checking.{keeps_check, same_check}
use Rattle.mig_check.specs.Checks.{NamesCheck}
use Rattle.mig_check.specs.declared.words.Check.TheVariants.{Legacy, Stream}
use Rattle.mig_tool_report.specs.Words.{texts_of}
use Rattle.mig_check.proofs.run.run.Goals as goal

pub returns-in-Some-Stream-clause-kept : goal.returns-in-Some-Stream-clause-kept
returns-in-Some-Stream-clause-kept g c = λ check is.
    keeps_check Stream check _ _ (same_check (texts_of c.args.words.now) Stream check (subst (NamesCheck (texts_of c.args.words.now)) c.in-Some-Stream.field-0-is c.in-Some-Stream.ensures.some) is) c.check.ensures

pub returns-in-Some-Legacy-clause-kept : goal.returns-in-Some-Legacy-clause-kept
returns-in-Some-Legacy-clause-kept g c = λ check is.
    keeps_check Legacy check _ _ (same_check (texts_of c.args.words.now) Legacy check (subst (NamesCheck (texts_of c.args.words.now)) c.in-Some-Legacy.field-0-is c.in-Some-Legacy.ensures.some) is) c.check_legacy.ensures
