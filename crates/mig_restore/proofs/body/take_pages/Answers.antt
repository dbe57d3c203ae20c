use Rattle.mig_restore.proofs.Common.{◌≡◌, rules, put_entries_by, put_content_by, pages_read, pages_stopped}
use Rattle.mig_restore.proofs.Noted.{pages_noted, stops}
use Rattle.mig_restore.proofs.body.take_pages.Goals as goal

pub returns-in_err-list-clause-read : goal.returns-in_err-list-clause-read
returns-in_err-list-clause-read g c =
    pages_stopped (λ v. v.items) (λ _ es. c.args.guest.now ≡ record c.args.guest.now { frames = put_entries_by g.F.KeepsFrames.put c.args.guest.now.kind c.args.guest.now.frames es }) (λ _ a. c.args.guest.now ≡ put_content_by g.F.KeepsFrames.put c.args.guest.now a) (λ _ _ is. is)
    c.args.guest.now.kind c.kind.result c.args.guest.now.top c.top.result c.args.len c.kind.ensures c.top.ensures _ _ c.in_err-list.field-0.0 c.from_residual.result (search rules) c.in_err-list.ensures.read

pub returns-clause-read : goal.returns-clause-read
returns-clause-read g c =
    pages_read (λ v. v.items) (λ _ es. c.take_entries.new.guest ≡ record c.args.guest.now { frames = put_entries_by g.F.KeepsFrames.put c.args.guest.now.kind c.args.guest.now.frames es }) (λ _ a. c.take_entries.new.guest ≡ put_content_by g.F.KeepsFrames.put c.args.guest.now a) (λ _ _ is. is)
    c.args.guest.now.kind c.kind.result c.args.guest.now.top c.top.result c.args.len c.kind.ensures c.top.ensures _ _ _ c.in_ok-list.list c.take_entries.result c.in_ok-list.ensures.read (search rules)

pub returns-in_err-list-clause-noted : goal.returns-in_err-list-clause-noted
returns-in_err-list-clause-noted g c =
    stops _ _ (λ s. s ≡ c.in_err-list.field-0.0) _ _ _ c.from_residual.result (search rules) (returns-in_err-list-clause-read g c)

pub returns-clause-noted : goal.returns-clause-noted
returns-clause-noted g c =
    pages_noted g.F.KeepsFrames.notes c.goes_on.ensures.read_on (λ v. v.items) c.args.keeper.now c.take_entries.new.keeper
    c.args.guest.now.kind c.kind.result c.args.guest.now.top c.top.result c.args.len c.kind.ensures c.top.ensures _ _ _ c.in_ok-list.list c.take_entries.result c.in_ok-list.ensures.read (search rules)
