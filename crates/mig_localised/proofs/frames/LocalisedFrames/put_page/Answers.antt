use Rattle.std.proofs.Common.{Some, ap, arith, sym, ◌∙◌}
use Rattle.std.proofs.lemmas.Result.{on_err_weaker}
use Rattle.std.specs.Option.{option_copied}
use Rattle.mig_blanked.specs.Behind.{kept_page}
use Rattle.mig_localised.proofs.Over.{kept_over, none_at_0, own_len}
use Rattle.mig_localised.proofs.frames.LocalisedFrames.put_page.Goals as goal

pub returns-then-cell-eq0-clause-bytes : goal.returns-then-cell-eq0-clause-bytes
returns-then-cell-eq0-clause-bytes g c = λ all told. sym (none_at_0 (kept_page c.args.self.now.outline.now.frames c.args.pfn) (Some all) c.args.cell.pfn c.if-cell-eq0.true)

pub returns-in-Some-clause-bytes : goal.returns-in-Some-clause-bytes
returns-in-Some-clause-bytes g c = λ all told. c.put_page.ensures.bytes ∙ sym (kept_over _ (Some all) c.args.cell.pfn _ (sym c.page.ensures ∙ ap option_copied c.in-Some.is) (omega (arith, c.if-cell-eq0.false)))

pub returns-in-None-clause-wanted : goal.returns-in-None-clause-wanted
returns-in-None-clause-wanted g c =
    on_err_weaker c.put_placed.result (λ some file. omega (arith, own_len _ file c.args.cell.pfn (sym c.page.ensures ∙ ap option_copied c.in-None.is) some)) c.put_placed.ensures.wanted
