use Rattle.mig_restore.proofs.Common.{◌≡◌, ◌+◌, ◌≤◌, ℕ, [], refl, rules, sym, subst, arith, length, take, cond, get_or, Ok, done, each_step, each_ends, with_places, entry_at, differing, AgreesWithJudging, IsCompared, take_all, places_len, entry_here, place_within}
use Rattle.mig_bytes.specs.Judged.{each}
use Rattle.mig_restore.proofs.Compared.{AreCounted, IsCounted, one_more_counted}
use Rattle.mig_restore.proofs.Fronts.{front_entry}
use Rattle.mig_restore.proofs.Noted.{both_told, still, weaker}
use Rattle.mig_restore.proofs.check.check_entries.Goals as goal
use Rattle.mig_restore.proofs.check.check_entries.Goals.{then-differs, else-differs}

pub loop-place-init : goal.loop-place-init
unfolding each
loop-place-init g c = record { read = done _ _ _ 0 [] (λ i. refl) (λ _ _ _ _ _. refl, λ _ _ noted. noted); few = search rules; quiet = search rules }

pub returns-in_err-differs-clause-read : goal.returns-in_err-differs-clause-read
returns-in_err-differs-clause-read g c =
    each_ends (entry_at c.args.guest.now.kind c.args.guest.now.top) _ _ _ _ _ _ (with_places 0 c.args.list.now) c.loop-place.place (0, 0) c.loop-place.differ c.in_err-differs.field-0.0 c.from_residual.result (place_within c.loop-place.place c.args.list.now c.loop-place-test.true) c.loop-place.invariant.read
    (entry_here _ _ _ _ c.args.guest.now.kind c.args.guest.now.kind c.args.guest.now.top c.args.guest.now.top c.loop-place.place c.args.list.now refl refl c.loop-place-test.true c.in_err-differs.ensures.read) (search rules)

pub loop-place-preserved : goal.loop-place-preserved
loop-place-preserved g c =
    let compares = g.F.KeepsFrames.compares in let notes = g.F.KeepsFrames.notes in let kept = g.F.KeepsFrames.kept in let keeper = c.args.keeper.now in
    let kind = c.args.guest.now.kind in let top = c.args.guest.now.top in let there = c.args.guest.now.frames in let place = c.loop-place.place in let list = c.args.list.now in
    let first = g.S.Source.left c.args.src.now in let now = g.S.Source.left c.loop-place.src in let next = g.S.Source.left c.check_entry.new.src in
    let more : c.if-differs.differ ≡ c.loop-place.differ + cond c.in_ok-differs.differs 1 0 = elim c.if-differs.branch [ then-differs w ↦ search rules | else-differs w ↦ search rules ] in
    let told = c.in_ok-differs.ensures.read in
    record {
      read = each_step (entry_at kind top) _ _ _ _ _ _ (with_places 0 list) place (0, 0) c.loop-place.differ c.in_ok-differs.differs c.if-differs.differ (place_within place list c.loop-place-test.true) c.loop-place.invariant.read
          (entry_here (IsCounted compares notes kept keeper there kind now next) now next (Ok c.in_ok-differs.differs) kind kind top top place list refl refl c.loop-place-test.true
          (both_told _ _ now next (entry_at kind top (place, get_or list place 0)) c.in_ok-differs.differs c.in_ok-differs.differs told
          (still notes c.goes_on.ensures.read_on _ keeper now next (entry_at kind top (place, get_or list place 0)) (λ _ frames. frames) (Ok c.in_ok-differs.differs) (front_entry kind top 0 (place, get_or list place 0)) (λ _ _ _ _ _. refl) told)))
          (λ es e so_far here. one_more_counted compares notes kept keeper there kind first now next es e c.loop-place.differ c.if-differs.differ c.in_ok-differs.differs so_far here more);
      few = elim c.if-differs.branch [ then-differs w ↦ omega arith | else-differs w ↦ omega arith ];
      quiet = search rules;
    }

pub returns-clause-read : goal.returns-clause-read
returns-clause-read g c =
    let compares = g.F.KeepsFrames.compares in let notes = g.F.KeepsFrames.notes in let kept = g.F.KeepsFrames.kept in let keeper = c.args.keeper.now in
    let kind = c.args.guest.now.kind in let there = c.args.guest.now.frames in let first = g.S.Source.left c.args.src.now in let now = g.S.Source.left c.loop-place.src in
    let at_end : length c.args.list.now ≤ c.loop-place.place = search rules in
    let whole : take c.loop-place.place (with_places 0 c.args.list.now) ≡ with_places 0 c.args.list.now = take_all c.loop-place.place (with_places 0 c.args.list.now) (subst (λ n. n ≤ c.loop-place.place) (sym (places_len 0 c.args.list.now)) at_end) in
    subst (λ ats. AgreesWithJudging {X = ℕ} (λ n es. IsCompared compares notes kept keeper first there (λ frames. n ≡ differing kind frames es)) first now (each (entry_at kind c.args.guest.now.top) ats) (Ok c.loop-place.differ)) whole
    (weaker (AreCounted compares notes kept keeper there kind first now) (λ n es. IsCompared compares notes kept keeper first there (λ frames. n ≡ differing kind frames es)) (λ _ _ counted. counted.0) first now _ (Ok c.loop-place.differ) c.loop-place.invariant.read)
