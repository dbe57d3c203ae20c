use Rattle.std.proofs.Common.{ap, arith, length, sym, ◌∙◌}
use Rattle.std.specs.Option.{option_copied}
use Rattle.mig_blanked.specs.Behind.{kept_page}
use Rattle.mig_localised.proofs.Over.{kept_over, none_at_0, own_len}
use Rattle.mig_localised.proofs.frames.LocalisedFrames.pages_with.Goals as goal

pub returns-then-cell-eq0-clause-size : goal.returns-then-cell-eq0-clause-size
returns-then-cell-eq0-clause-size g c = λ file. ap length (none_at_0 (kept_page c.args.self.now.outline.now.frames c.args.pfn) file c.args.cell.pfn c.if-cell-eq0.true)

pub returns-in-Some-clause-size : goal.returns-in-Some-clause-size
returns-in-Some-clause-size g c = λ file. ap length (kept_over _ file c.args.cell.pfn _ (sym c.page.ensures ∙ ap option_copied c.in-Some.is) (omega (arith, c.if-cell-eq0.false))) ∙ c.pages_with.ensures.len

pub returns-in-None-clause-size : goal.returns-in-None-clause-size
returns-in-None-clause-size g c = λ file. own_len _ file c.args.cell.pfn (sym c.page.ensures ∙ ap option_copied c.in-None.is) (omega (arith, c.if-cell-eq0.false))
