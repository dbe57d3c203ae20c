use Rattle.mig_restore.proofs.Common.{◌≡◌, ◌≤◌, get_or, [], refl, rules, subst, sym, length, take, Ok, put_entry, put_entries_by, NotesOn, done, each_step, each_ends, with_places, entry_at, IsGoodWord, AgreesWithJudging, take_all, grows_not, grows_on, one_more_entry, places_len, entry_here, place_within}
use Rattle.std.proofs.lemmas.List.Elements.{All-get_or}
use Rattle.mig_bytes.specs.Judged.{each}
use Rattle.mig_restore.proofs.Begun.{none_set, one_more_set, set_so_far}
use Rattle.mig_restore.proofs.Noted.{entry_noted, stops}
use Rattle.mig_restore.proofs.body.take_entries.Goals as goal

pub loop-place-init : goal.loop-place-init
unfolding each
loop-place-init g c = record { read = done _ _ _ tt [] (λ i. refl) refl; noted = done _ _ _ tt [] (λ i. refl) (λ all frames noted. noted); set = none_set g.F.KeepsFrames.put c.args.guest.now; grown = grows_not c.args.guest.now; top = refl; quiet = search rules }

pub take_entry-requires : goal.take_entry-requires
take_entry-requires g c =
    subst (λ t. IsGoodWord c.loop-place.guest.kind t (get_or c.args.list.now c.loop-place.place 0)) (sym c.loop-place.invariant.top)
    (subst (λ k. IsGoodWord k c.args.guest.now.top (get_or c.args.list.now c.loop-place.place 0)) (sym c.loop-place.invariant.grown.kind)
    (All-get_or (IsGoodWord c.args.guest.now.kind c.args.guest.now.top) c.args.list.now c.loop-place.place 0 c.loop-place-test.true c.requires.good))

pub returns-in_err-take_entry-clause-read : goal.returns-in_err-take_entry-clause-read
returns-in_err-take_entry-clause-read g c =
    each_ends (entry_at c.args.guest.now.kind c.args.guest.now.top) _ _ _ _ _ _ (with_places 0 c.args.list.now) c.loop-place.place (0, 0) tt c.in_err-take_entry.field-0.0 c.from_residual.result (place_within c.loop-place.place c.args.list.now c.loop-place-test.true) c.loop-place.invariant.read
    (entry_here _ _ _ _ c.args.guest.now.kind _ c.args.guest.now.top _ c.loop-place.place c.args.list.now c.loop-place.invariant.grown.kind c.loop-place.invariant.top c.loop-place-test.true c.in_err-take_entry.ensures.read) (search rules)

pub returns-in_err-take_entry-clause-err : goal.returns-in_err-take_entry-clause-err
returns-in_err-take_entry-clause-err g c = set_so_far g.F.KeepsFrames.put c.from_residual.result c.args.guest.now c.loop-place.guest _ c.args.list.now c.loop-place.place c.loop-place.invariant.set c.in_err-take_entry.ensures.err

pub loop-place-preserved : goal.loop-place-preserved
loop-place-preserved g c = record {
  read = each_step (entry_at c.args.guest.now.kind c.args.guest.now.top) _ _ _ _ _ _ (with_places 0 c.args.list.now) c.loop-place.place (0, 0) tt _ tt (place_within c.loop-place.place c.args.list.now c.loop-place-test.true) c.loop-place.invariant.read
      (entry_here _ _ _ _ c.args.guest.now.kind _ c.args.guest.now.top _ c.loop-place.place c.args.list.now c.loop-place.invariant.grown.kind c.loop-place.invariant.top c.loop-place-test.true c.in_ok-take_entry.ensures.read)
      (λ es e r q. one_more_entry g.F.KeepsFrames.put _ _ _ es e r q);
  noted = each_step (entry_at c.args.guest.now.kind c.args.guest.now.top) _ _ _ _ _ _ (with_places 0 c.args.list.now) c.loop-place.place (0, 0) tt _ tt (place_within c.loop-place.place c.args.list.now c.loop-place-test.true) c.loop-place.invariant.noted
      (entry_here _ _ _ _ c.args.guest.now.kind _ c.args.guest.now.top _ c.loop-place.place c.args.list.now c.loop-place.invariant.grown.kind c.loop-place.invariant.top c.loop-place-test.true c.in_ok-take_entry.ensures.noted)
      (λ es e before now. entry_noted g.F.KeepsFrames.notes c.args.keeper.now c.loop-place.keeper c.take_entry.new.self (g.S.Source.left c.args.src.now) (g.S.Source.left c.loop-place.src) (g.S.Source.left c.take_entry.new.src) c.args.guest.now.kind c.loop-place.guest.kind es e c.loop-place.invariant.grown.kind before now);
  set = one_more_set g.F.KeepsFrames.put c.args.guest.now _ _ c.args.list.now c.loop-place.place c.loop-place-test.true c.loop-place.invariant.set c.in_ok-take_entry.ensures.set;
  grown = grows_on c.args.guest.now _ _ c.loop-place.invariant.grown c.in_ok-take_entry.ensures.grown;
  top = search rules;
  quiet = search rules;
}

pub returns-clause-read : goal.returns-clause-read
returns-clause-read g c =
    let at_end : length c.args.list.now ≤ c.loop-place.place = search rules in
    let whole : take c.loop-place.place (with_places 0 c.args.list.now) ≡ with_places 0 c.args.list.now = take_all c.loop-place.place (with_places 0 c.args.list.now) (subst (λ n. n ≤ c.loop-place.place) (sym (places_len 0 c.args.list.now)) at_end) in
    subst (λ ats. AgreesWithJudging {X = Unit {0}} (λ _ es. c.loop-place.guest ≡ record c.args.guest.now { frames = put_entries_by g.F.KeepsFrames.put c.args.guest.now.kind c.args.guest.now.frames es }) (g.S.Source.left c.args.src.now) (g.S.Source.left c.loop-place.src) (each (entry_at c.args.guest.now.kind c.args.guest.now.top) ats) (Ok tt)) whole c.loop-place.invariant.read

pub returns-in_err-take_entry-clause-noted : goal.returns-in_err-take_entry-clause-noted
returns-in_err-take_entry-clause-noted g c =
    stops _ _ (λ s. s ≡ c.in_err-take_entry.field-0.0) _ _ _ c.from_residual.result (search rules) (returns-in_err-take_entry-clause-read g c)

pub returns-clause-noted : goal.returns-clause-noted
returns-clause-noted g c =
    let at_end : length c.args.list.now ≤ c.loop-place.place = search rules in
    let whole : take c.loop-place.place (with_places 0 c.args.list.now) ≡ with_places 0 c.args.list.now = take_all c.loop-place.place (with_places 0 c.args.list.now) (subst (λ n. n ≤ c.loop-place.place) (sym (places_len 0 c.args.list.now)) at_end) in
    subst (λ ats. AgreesWithJudging {X = Unit {0}} (λ _ es. NotesOn g.F.KeepsFrames.notes c.args.keeper.now c.loop-place.keeper (g.S.Source.left c.args.src.now) (g.S.Source.left c.loop-place.src) (λ frames. put_entries_by put_entry c.args.guest.now.kind frames es)) (g.S.Source.left c.args.src.now) (g.S.Source.left c.loop-place.src) (each (entry_at c.args.guest.now.kind c.args.guest.now.top) ats) (Ok tt)) whole c.loop-place.invariant.noted
