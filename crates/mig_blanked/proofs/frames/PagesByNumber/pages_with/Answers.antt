use Rattle.std.proofs.Common.{is_some, rules}
use Rattle.std.specs.FinMap as maps
use Rattle.mig_blanked.proofs.Behind.{marked_len}
use Rattle.mig_blanked.proofs.frames.PagesByNumber.pages_with.Goals as goal

pub returns-then-is_some-clause-size : goal.returns-then-is_some-clause-size
returns-then-is_some-clause-size g c = λ file.
    marked_len (is_some (maps.get c.args.self.now.marks.now.values c.args.pfn)) (search rules) _ _ file _ _ (c.pages_at.ensures.size file) c.pages_at.ensures.few
