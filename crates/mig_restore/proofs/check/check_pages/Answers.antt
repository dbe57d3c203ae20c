use Rattle.mig_restore.proofs.Common.{◌≡◌, true, rules, IsCompared, differing, checked_in, placed_content, pages_stopped}
use Rattle.mig_restore.proofs.Noted.{pages_compared}
use Rattle.mig_restore.proofs.check.check_pages.Goals as goal

pub returns-in_err-list-clause-read : goal.returns-in_err-list-clause-read
returns-in_err-list-clause-read g c =
    let kind = c.args.guest.now.kind in let there = c.args.guest.now.frames in let first = g.S.Source.left c.args.src.now in
    pages_stopped (λ v. v.items) (λ n es. IsCompared g.F.KeepsFrames.compares g.F.KeepsFrames.notes g.F.KeepsFrames.kept c.args.keeper.now first there (λ frames. n ≡ differing kind frames es))
    (λ n a. IsCompared g.F.KeepsFrames.compares g.F.KeepsFrames.notes g.F.KeepsFrames.kept c.args.keeper.now first there (λ frames. n ≡ differing kind frames (checked_in (placed_content true a)))) (λ _ _ is. is)
    kind c.kind.result c.args.guest.now.top c.top.result c.args.len c.kind.ensures c.top.ensures _ _ c.in_err-list.field-0.0 c.from_residual.result (search rules) c.in_err-list.ensures.read

pub returns-clause-read : goal.returns-clause-read
returns-clause-read g c =
    pages_compared g.F.KeepsFrames.notes c.goes_on.ensures.read_on g.F.KeepsFrames.compares g.F.KeepsFrames.kept c.args.guest.now.frames (λ v. v.items) c.args.keeper.now
    c.args.guest.now.kind c.kind.result c.args.guest.now.top c.top.result c.args.len c.kind.ensures c.top.ensures _ _ _ c.in_ok-list.list c.check_entries.result c.in_ok-list.ensures.read (search rules)
