use Rattle.mig_placing.proofs.Common.{rules}
use Rattle.mig_placing.proofs.Places.{entry_noted}
use Rattle.mig_placing.proofs.keeps.PlacingKeepsFramesFileSource.take_entry.Goals as goal

pub returns-in-Ok-clause-noted : goal.returns-in-Ok-clause-noted
returns-in-Ok-clause-noted g c =
    entry_noted (g.P.PageFile.bytes c.args.self.now.file.now) c.args.self.now.places c.set.new.self c.args.guest.now.kind c.args.guest.now.top c.args.place c.args.word c.pfn_in.result c.saturating_sub-at.result c.size.result c.rest.result c.type_in_guest-kind.result
    (search rules) c.pfn_in.ensures (search rules) (search rules) c.size.ensures c.saturating_sub-at.ensures _ _ _ c.take_entry.result c.rest.ensures.left c.take_entry.ensures.read
