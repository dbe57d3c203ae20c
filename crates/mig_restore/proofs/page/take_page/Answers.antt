use Rattle.mig_restore.proofs.Common.{◌∙◌, refl, rules, carries}
use Rattle.mig_restore.proofs.Entries.{no_page, with_page, stopped_page}
use Rattle.mig_restore.proofs.page.take_page.Goals as goal

pub returns-then-not-has_data-clause-read : goal.returns-then-not-has_data-clause-read
returns-then-not-has_data-clause-read g c = no_page _ c.args.guest.now.kind c.args.guest.now.top c.args.place _ c.args.word _ (carries c.args.word ∙ search rules) refl

pub returns-in_err-fill-clause-read : goal.returns-in_err-fill-clause-read
returns-in_err-fill-clause-read g c =
    stopped_page _ c.args.guest.now.kind c.args.guest.now.top c.args.place c.args.word c.type_in_guest.result (search rules) (carries c.args.word ∙ search rules) _ _ c.fill.new.page c.in_err-fill.field-0.0 c.from_residual.result c.from_residual.ensures.1
    (rw c.top.ensures at c.in_err-fill.ensures.read)

pub returns-clause-read : goal.returns-clause-read
returns-clause-read g c =
    with_page _ c.args.guest.now.kind c.args.guest.now.top c.args.place c.args.word c.type_in_guest.result (search rules) (carries c.args.word ∙ search rules) _ _ c.fill.new.page tt _
    (rw c.top.ensures at c.in_ok-fill.ensures.read) refl
