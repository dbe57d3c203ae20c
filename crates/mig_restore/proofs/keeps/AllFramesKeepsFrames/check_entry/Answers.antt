use Rattle.mig_restore.proofs.Common.{◌≡◌, ◌∙◌, Some, None, cond, ap, rules, entry_at, entry_with, weakened}
use Rattle.mig_restore.proofs.Compared.{told_apart}
use Rattle.mig_restore.proofs.Entries.{compared}
use Rattle.mig_restore.proofs.keeps.AllFramesKeepsFrames.check_entry.Goals as goal

pub returns-then-some-clause-read : goal.returns-then-some-clause-read
returns-then-some-clause-read g c =
    let page : cond c.in_ok-some.some (Some c.take_page.new.page) None ≡ Some c.take_page.new.page = ap (λ b. cond b (Some c.take_page.new.page) None) c.if-some.true in
    let same = compared c.args.guest.now c.args.word c.pfn_in.result c.type_in_guest-kind.result (Some c.take_page.new.page) c.has_frame.result c.pfn_in.ensures (search rules) c.has_frame.ensures in
    weakened _ _ _ _ (entry_at c.args.guest.now.kind c.args.guest.now.top (c.args.place, c.args.word)) _ _
    (λ e is _ all frames noted here. told_apart c.args.guest.now c.args.word (Some c.take_page.new.page) c.has_frame.result _ e frames same (search rules) (is ∙ ap (entry_with c.args.word) page) here) c.in_ok-some.ensures.read

pub returns-else-some-clause-read : goal.returns-else-some-clause-read
returns-else-some-clause-read g c =
    let page : cond c.in_ok-some.some (Some c.take_page.new.page) None ≡ None = ap (λ b. cond b (Some c.take_page.new.page) None) c.if-some.false in
    let same = compared c.args.guest.now c.args.word c.pfn_in-else-some.result c.type_in_guest-kind.result None c.has_frame-else-some.result c.pfn_in-else-some.ensures (search rules) c.has_frame-else-some.ensures in
    weakened _ _ _ _ (entry_at c.args.guest.now.kind c.args.guest.now.top (c.args.place, c.args.word)) _ _
    (λ e is _ all frames noted here. told_apart c.args.guest.now c.args.word None c.has_frame-else-some.result _ e frames same (search rules) (is ∙ ap (entry_with c.args.word) page) here) c.in_ok-some.ensures.read
