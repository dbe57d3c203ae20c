use Rattle.mig_pagestore.proofs.Common.{◌<◌, ◌-◌, [], take, drop, refl, subst, arith, Framed, IsRun}
use Rattle.mig_pagestore.proofs.Led.{place_in_range}
use Rattle.mig_pagestore.proofs.Runs.{run_length, run_seen, run_fits}
use Rattle.mig_pagestore.proofs.frame_store.FrameStore.page_run.Goals as goal

pub returns-then-place-eq0-clause-run : goal.returns-then-place-eq0-clause-run
returns-then-place-eq0-clause-run c = ([], refl, refl, tt)

pub returns-then-count-eq0-clause-run : goal.returns-then-count-eq0-clause-run
returns-then-count-eq0-clause-run c = ([], refl, refl, tt)

pub returns-clause-run : goal.returns-clause-run
returns-clause-run c =
    let pages = c.self.inside.arena.pages in let cells = c.self.inside.index.values in let place = c.place_in-place.result in let n = c.run_len-count.result in
    let some : 0 < place = omega (arith, c.if-place-eq0.false) in let any : 0 < n = omega (arith, c.if-count-eq0.false) in
    let fits = run_fits pages cells n c.args.pfn place any (place_in_range cells _ pages c.self.invariant.0) c.run_len-count.ensures.lie in (
      take n (drop (place - 1) pages),
      run_length pages n (place - 1) (omega (arith, some, fits)),
      c.page_run.ensures,
      subst (λ (s : Framed). IsRun s.frames c.args.pfn (take n (drop (place - 1) pages))) c.self.view_is (run_seen pages cells n c.args.pfn place some fits c.run_len-count.ensures.lie),
    )
