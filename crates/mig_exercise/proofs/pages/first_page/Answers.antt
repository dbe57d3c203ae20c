use Rattle.mig_exercise.proofs.LongPages.{low_page}
use Rattle.mig_exercise.proofs.pages.first_page.Goals as goal

pub returns-then-pfn-lt2 : goal.returns-then-pfn-lt2
returns-then-pfn-lt2 c = λ contents. low_page c.args.frames contents c.args.pfn c.if-pfn-lt2.true
