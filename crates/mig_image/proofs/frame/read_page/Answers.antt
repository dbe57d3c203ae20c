use Rattle.mig_image.proofs.Common.{sym, ◌∙◌}
use Rattle.mig_image.proofs.Readers.{sent_read, zeros_read}
use Rattle.mig_image.proofs.frame.read_page.Goals as goal

pub returns-then-has_zero_flag-clause-read : goal.returns-then-has_zero_flag-clause-read
returns-then-has_zero_flag-clause-read g c =
    zeros_read c.args.version c.args.head.now c.requires.some _ c.args.page.now (sym c.has_zero_flag.ensures ∙ c.if-has_zero_flag.true) c.requires.zero

pub returns-clause-read : goal.returns-clause-read
returns-clause-read g c =
    sent_read c.args.version c.args.head.now c.requires.some _ _ c.read_sent_page.new.page c.read_sent_page.result c.pfn_of.result c.pfn_of.ensures.value (sym c.has_zero_flag.ensures ∙ c.if-has_zero_flag.false) c.read_sent_page.ensures.read
