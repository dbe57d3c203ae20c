use Rattle.mig_guest.proofs.Common.{◌≡◌, ◌+◌, ap, ◌∙◌, entries_from, rules}
use Rattle.std.specs.FinMap as maps
use Rattle.mig_guest.proofs.PageRuns.{bytes_from, behind_from}
use Rattle.mig_guest.proofs.guest.Guest.page_run.Goals as goal

pub returns-in-Some-clause-bytes : goal.returns-in-Some-clause-bytes
returns-in-Some-clause-bytes c =
    let frames = c.self.inside.frames.frames in let run = c.page_run-count.ensures.run in
    rw (← c.self.view_is) (run.2 ∙ bytes_from frames c.args.from c.in-Some.pfn _ c.in-Some.ensures.there c.in-Some.ensures.least.0 c.in-Some.ensures.least.1 run.0 _ run.1 run.3)

pub returns-in-Some-clause-next : goal.returns-in-Some-clause-next
returns-in-Some-clause-next c =
    let frames = c.self.inside.frames.frames in let run = c.page_run-count.ensures.run in
    let same : c.from.result ≡ c.page_run-count.result.0 = search rules in
    rw (← c.self.view_is) (ap (λ k. entries_from (c.in-Some.pfn + k) (maps.entries frames)) same ∙ behind_from frames c.args.from c.in-Some.pfn _ c.in-Some.ensures.there c.in-Some.ensures.least.0 c.in-Some.ensures.least.1 run.0 _ run.1 run.3)
