use Rattle.mig_image.proofs.Common.{◌≡◌, ◌≤◌, ◌∙◌, sym, ap, subst, HostOf, rules, opened, judged_as, behind_head}
use Rattle.mig_image.proofs.ImageBack.{head_fine}
use Rattle.mig_image.proofs.Readers.{read_as, stops_as}
use Rattle.mig_image.proofs.read.read_behind.Goals as goal

pub take_behind-requires-clause-opened : goal.take_behind-requires-clause-opened
take_behind-requires-clause-opened g c = search rules

pub take_behind-requires-clause-few : goal.take_behind-requires-clause-few
take_behind-requires-clause-few g c = (head_fine c.args.widest c.args.head.now c.requires.fine).few

pub returns-in_err-take_behind-clause-read : goal.returns-in_err-take_behind-clause-read
returns-in_err-take_behind-clause-read g c =
    stops_as _ _ _ (judged_as (behind_head c.args.head.now)) c.in_err-take_behind.field-0.0 c.from_residual.result (search rules) c.in_err-take_behind.ensures.read

pub returns-clause-read : goal.returns-clause-read
returns-clause-read g c = read_as _ _ (judged_as (behind_head c.args.head.now)) c.take_behind.new.host c.in_ok-take_behind.ensures.read

pub returns-clause-narrow : goal.returns-clause-narrow
returns-clause-narrow g c =
    let is : c.new-host.result.host ≡ opened c.args.head.now = search rules in
    let narrow = (head_fine c.args.widest c.args.head.now c.requires.fine).narrow in
    subst (λ n. n ≤ c.args.widest) (sym (c.in_ok-take_behind.ensures.width ∙ ap (λ (h : HostOf). h.width) is)) narrow
