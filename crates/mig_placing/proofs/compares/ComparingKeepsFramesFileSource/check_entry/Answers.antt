use Rattle.mig_placing.proofs.Common.{Some, None, cond, rules, entry_at, weakened, frames_in_file}
use Rattle.mig_placing.proofs.Compared.{unread_says_nothing}
use Rattle.mig_restore.proofs.Compared.{told_apart}
use Rattle.mig_restore.proofs.Entries.{compared}
use Rattle.mig_placing.proofs.compares.ComparingKeepsFramesFileSource.check_entry.Goals as goal

pub returns-in-Ok-clause-read : goal.returns-in-Ok-clause-read
returns-in-Ok-clause-read g c =
    let guest = c.args.guest.now in let page = cond c.in_ok-some.some (Some c.take_page.new.page) None in
    weakened _ _ _ _ (entry_at guest.kind guest.top (c.args.place, c.args.word)) _ _
    (λ e is _ all frames noted _.
    let there = record guest { frames = frames_in_file (Some all) c.args.self.now.placing.places } in
    told_apart there c.args.word page c.in-Ok.same _ e frames
    (compared there c.args.word c.pfn_in.result c.type_in_guest-kind.result page c.in-Ok.same c.pfn_in.ensures (search rules) (c.in-Ok.ensures all noted.told)) (search rules) is noted.read) c.in_ok-some.ensures.read

pub returns-in-Err-clause-read : goal.returns-in-Err-clause-read
returns-in-Err-clause-read g c = unread_says_nothing _ _ _ _
