use Rattle.mig_placing.proofs.Common.{◌≡◌, ◌-◌, length, subst, rules, IfSome, IsThere}
use Rattle.mig_placing.proofs.Compared.{page_read}
use Rattle.mig_placing.proofs.compares.has_page.Goals as goal

pub returns-in-Ok : goal.returns-in-Ok
returns-in-Ok g c =
    let there = c.read_at.new.buf in
    let size : length there ≡ 4096 = search rules in
    λ all told. page_read all c.args.page.now there c.args.place c.is_same_page.result c.requires size (subst (λ o. IfSome o (λ all. IsThere all (c.args.place - 1) there)) told c.in-Ok.ensures.bytes) c.is_same_page.ensures
