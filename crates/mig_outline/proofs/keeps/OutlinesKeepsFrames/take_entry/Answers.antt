use Rattle.mig_restore.proofs.Common.{◌≡◌, None, is_some, rules, refl, sym, ap, ◌∙◌, level_of, type_in_guest, type_in_word, mapped, stopped, entry_at, Passes}
use Rattle.mig_outline.proofs.Entries.{entry_of, outline_set, outline_grows, tabled, table_named}
use Rattle.mig_outline.proofs.Common.{put_outline_entry, page_at, weaker}
use Rattle.mig_restore.proofs.Begun.{one_set}
use Rattle.mig_outline.proofs.keeps.OutlinesKeepsFrames.take_entry.Goals as goal

pub returns-then-is_some-clause-read : goal.returns-then-is_some-clause-read
returns-then-is_some-clause-read g c =
    tabled c.args.guest.now _ _ _ c.args.place c.args.word c.type_in_guest-kind.result c.take_entry.result (search rules) (ap is_some (sym c.table_level.ensures) ∙ sym c.is_some.ensures ∙ c.if-is_some.true) c.take_entry.ensures.read

pub returns-in_err-pass_page-clause-read : goal.returns-in_err-pass_page-clause-read
returns-in_err-pass_page-clause-read g c =
    let kind = c.args.guest.now.kind in let top = c.args.guest.now.top in let w = c.args.word in
    let none : level_of (type_in_guest kind (type_in_word w)) ≡ None = search rules in
    stopped _ _ _ _ (page_at kind top (c.args.place, w)) (entry_at kind top (c.args.place, w)) (λ page. Passes (entry_of w page.0) page.1) c.in_err-pass_page.field-0.0 c.from_residual.result (λ i. refl) (search rules) (c.in_err-pass_page.ensures.read kind top c.args.place none)

pub returns-in-Ok-clause-read : goal.returns-in-Ok-clause-read
returns-in-Ok-clause-read g c =
    let kind = c.args.guest.now.kind in let top = c.args.guest.now.top in let w = c.args.word in
    let means : c.type_in_guest-kind.result ≡ type_in_guest kind (type_in_word w) = search rules in
    let none : level_of c.type_in_guest-kind.result ≡ None = search rules in
    mapped _ _ _ _ (page_at kind top (c.args.place, w)) (entry_at kind top (c.args.place, w)) (entry_of w) tt tt (λ i. refl) (c.in_ok-pass_page.ensures.read kind top c.args.place (ap level_of (sym means) ∙ none))
    (λ page _. outline_set c.args.guest.now _ w _ c.type_in_guest-kind.result _ page c.pfn_in.ensures means c.outlined.ensures.value none c.in-Ok.ensures.ok)

pub returns-in-Ok-clause-grown : goal.returns-in-Ok-clause-grown
returns-in-Ok-clause-grown g c =
    let means : c.type_in_guest-kind.result ≡ type_in_guest c.args.guest.now.kind (type_in_word c.args.word) = search rules in
    outline_grows c.args.guest.now _ c.args.word _ c.type_in_guest-kind.result (type_in_word c.args.word) _ c.requires c.pfn_in.ensures means c.outlined.ensures.value c.outlined.ensures.bare c.in-Ok.ensures.ok

pub returns-then-is_some-clause-set : goal.returns-then-is_some-clause-set
returns-then-is_some-clause-set g c =
    table_named c.args.guest.now _ c.args.word c.type_in_guest-kind.result c.take_entry.result (search rules) (ap is_some (sym c.table_level.ensures) ∙ sym c.is_some.ensures ∙ c.if-is_some.true) c.take_entry.ensures.set

pub returns-in-Ok-clause-set : goal.returns-in-Ok-clause-set
returns-in-Ok-clause-set g c =
    let means : c.type_in_guest-kind.result ≡ type_in_guest c.args.guest.now.kind (type_in_word c.args.word) = search rules in
    let none : level_of c.type_in_guest-kind.result ≡ None = search rules in
    one_set put_outline_entry c.args.guest.now _ c.args.word None (outline_set c.args.guest.now _ c.args.word _ c.type_in_guest-kind.result _ None c.pfn_in.ensures means c.outlined.ensures.value none c.in-Ok.ensures.ok)

pub returns-then-is_some-clause-noted : goal.returns-then-is_some-clause-noted
returns-then-is_some-clause-noted g c = weaker _ _ (λ _ _ _ all frames noted. tt) _ _ _ _ (returns-then-is_some-clause-read g c)

pub returns-in_err-pass_page-clause-noted : goal.returns-in_err-pass_page-clause-noted
returns-in_err-pass_page-clause-noted g c = weaker _ _ (λ _ _ _ all frames noted. tt) _ _ _ _ (returns-in_err-pass_page-clause-read g c)

pub returns-in-Ok-clause-noted : goal.returns-in-Ok-clause-noted
returns-in-Ok-clause-noted g c = weaker _ _ (λ _ _ _ all frames noted. tt) _ _ _ _ (returns-in-Ok-clause-read g c)
