use Rattle.std.proofs.Common.{is_some, rules}
use Rattle.std.proofs.lemmas.Result.{on_err_weaker}
use Rattle.std.specs.FinMap as maps
use Rattle.mig_pagetypes.specs.PageTypes.{level_of}
use Rattle.mig_blanked.proofs.Behind.{other_page}
use Rattle.mig_blanked.proofs.frames.PagesByNumber.put_page.Goals as goal

pub returns-in-None-clause-wanted : goal.returns-in-None-clause-wanted
returns-in-None-clause-wanted g c =
    on_err_weaker c.put_placed.result
    (λ some file. other_page (is_some (maps.get c.args.self.now.marks.now.values c.args.pfn)) (level_of c.args.cell.kind) (search rules) (search rules) _ file c.args.cell.pfn some) c.put_placed.ensures.wanted
