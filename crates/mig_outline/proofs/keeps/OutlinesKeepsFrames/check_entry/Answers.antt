use Rattle.mig_restore.proofs.Common.{refl, ◌≡◌, None, false, rules, level_of, type_in_guest, type_in_word, mapped, stopped, entry_at, entry_with, Passes}
use Rattle.mig_outline.proofs.Common.{page_at, weaker}
use Rattle.mig_outline.proofs.keeps.OutlinesKeepsFrames.check_entry.Goals as goal

pub returns-then-is_some-clause-read : goal.returns-then-is_some-clause-read
returns-then-is_some-clause-read g c = weaker _ _ (λ _ _ _ is. absurd (cc)) _ _ _ _ c.check_entry.ensures.read

pub returns-in_err-pass_page-clause-read : goal.returns-in_err-pass_page-clause-read
returns-in_err-pass_page-clause-read g c =
    let kind = c.args.guest.now.kind in let top = c.args.guest.now.top in let w = c.args.word in
    let none : level_of (type_in_guest kind (type_in_word w)) ≡ None = search rules in
    stopped _ _ _ _ (page_at kind top (c.args.place, w)) (entry_at kind top (c.args.place, w)) (λ page. Passes (entry_with w page.0) page.1) c.in_err-pass_page.field-0.0 c.from_residual.result (λ i. refl) (search rules) (c.in_err-pass_page.ensures.read kind top c.args.place none)

pub returns-clause-read : goal.returns-clause-read
returns-clause-read g c =
    let kind = c.args.guest.now.kind in let top = c.args.guest.now.top in let w = c.args.word in
    let none : level_of (type_in_guest kind (type_in_word w)) ≡ None = search rules in
    mapped _ _ _ _ (page_at kind top (c.args.place, w)) (entry_at kind top (c.args.place, w)) (entry_with w) tt false (λ i. refl) (c.in_ok-pass_page.ensures.read kind top c.args.place none) (λ page _ is. absurd (cc))
