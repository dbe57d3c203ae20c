use Rattle.mig_dirtysave_rounds.proofs.Common.{arith, ◌≡◌, ℕ, ◌+◌, ◌≤◌, ◌^◌, List, [], None, get_or, sym, ap, subst, ◌∙◌, FrameTold, IsSent, nothing_sent, size, pfns_of_words, IsBelow, size-le, notes_of, FramesSaved, SavedSent, with_items_is}
use Rattle.std.specs.Vec.{with_items}
use Rattle.mig_dirtysave_rounds.proofs.Steps.{on_err}
use Rattle.mig_dirtysave_rounds.proofs.Saves.{most_alike}
use Rattle.mig_dirtysave_rounds.proofs.Totals.{unused_start, unused_below, unused_noted, sent_before, frames_saved}
use Rattle.mig_dirtysave_rounds.proofs.save.send_frames.Given as given
use Rattle.mig_dirtysave_rounds.proofs.save.send_frames.Goals as goal

pub run_rounds-requires-clause-below : goal.run_rounds-requires-clause-below
run_rounds-requires-clause-below g c = unused_below _ _ _ _ _ _ _ (c.room.view_is ∙ c.requires.width) c.deref_mut.ensures.value c.room.invariant

pub run_rounds-requires-clause-noted : goal.run_rounds-requires-clause-noted
run_rounds-requires-clause-noted g c = unused_noted _ _ _ _ _ _ _ c.deref_mut-2.ensures.value c.room.invariant

pub finish-requires-clause-below : goal.finish-requires-clause-below
finish-requires-clause-below g c =
    let set : c.deref_mut-4.result.now ≡ c.run_rounds.new.set = c.deref_mut-4.ensures.value ∙ with_items_is c.room.inside.set c.run_rounds.new.set (omega (arith, c.deref_mut.ensures.len)) in
    let P : List ℕ → Type 0 = λ w. IsBelow (g.M.Machine.state c.run_rounds.new.machine).host.width (pfns_of_words w) in
    subst P (sym set) c.in_ok-before.ensures.below

pub finish-requires-clause-noted : goal.finish-requires-clause-noted
finish-requires-clause-noted g c =
    let deferred : c.deref_mut-5.result.now ≡ c.run_rounds.new.deferred = c.deref_mut-5.ensures.value ∙ with_items_is c.room.inside.deferred c.run_rounds.new.deferred (omega (arith, c.deref_mut-2.ensures.len)) in
    let P : List ℕ → Type 0 = λ w. IsBelow (g.M.Machine.state c.run_rounds.new.machine).host.width (pfns_of_words w) in
    subst P (sym deferred) c.in_ok-before.ensures.noted

pub overflow_add-result : goal.overflow_add-result
overflow_add-result g c =
    let set : c.deref.result.now ≡ c.finish.new.set = c.deref.ensures.value ∙ with_items_is (with_items c.room.inside.set c.run_rounds.new.set) c.finish.new.set (omega (arith, c.deref_mut-4.ensures.len)) in
    let P : List ℕ → Type 0 = λ w. IsBelow (g.M.Machine.state c.finish.new.machine).host.width (pfns_of_words w) in
    let counted = c.count.ensures _ (subst P (sym set) c.in_ok-worst.ensures.below) in
    let same = c.finish.ensures.kept.shape.width ∙ c.run_rounds.ensures.kept.shape.width in
    omega (arith, same, counted, c.in_ok-before.ensures.few, size-le (pfns_of_words c.deref.result.now) (g.M.Machine.state c.finish.new.machine).host.width, c.requires.valid.host.width)

pub returns-clause-entries : goal.returns-clause-entries
returns-clause-entries g c =
    let set : c.deref.result.now ≡ c.finish.new.set = c.deref.ensures.value ∙ with_items_is (with_items c.room.inside.set c.run_rounds.new.set) c.finish.new.set (omega (arith, c.deref_mut-4.ensures.len)) in
    let P : List ℕ → Type 0 = λ w. IsBelow (g.M.Machine.state c.finish.new.machine).host.width (pfns_of_words w) in
    let counted = c.count.ensures _ (subst P (sym set) c.in_ok-worst.ensures.below) ∙ ap (λ w. size (g.M.Machine.state c.finish.new.machine).host.width (pfns_of_words w)) set in
    omega (arith, counted, c.in_ok-before.ensures.entries, c.in_ok-worst.ensures.read)

pub returns-in_err-before-clause-behind : goal.returns-in_err-before-clause-behind
returns-in_err-before-clause-behind g c =
    let start = unused_start _ _ _ _ _ _ _ _ _ c.requires.valid c.requires.unread (c.room.view_is ∙ c.requires.width) c.deref_mut.ensures.value c.deref_mut-2.ensures.value c.deref_mut-3.ensures.value c.room.invariant in
    on_err c.from_residual.result (c.in_err-before.ensures.behind (g.K.Sink.written c.args.sink.now) [] (nothing_sent _) start)

pub returns-in_err-worst-clause-behind : goal.returns-in_err-worst-clause-behind
returns-in_err-worst-clause-behind g c =
    let start = unused_start _ _ _ _ _ _ _ _ _ c.requires.valid c.requires.unread (c.room.view_is ∙ c.requires.width) c.deref_mut.ensures.value c.deref_mut-2.ensures.value c.deref_mut-3.ensures.value c.room.invariant in
    let set : c.deref_mut-4.result.now ≡ c.run_rounds.new.set = c.deref_mut-4.ensures.value ∙ with_items_is c.room.inside.set c.run_rounds.new.set (omega (arith, c.deref_mut.ensures.len)) in
    let deferred : c.deref_mut-5.result.now ≡ c.run_rounds.new.deferred = c.deref_mut-5.ensures.value ∙ with_items_is c.room.inside.deferred c.run_rounds.new.deferred (omega (arith, c.deref_mut-2.ensures.len)) in
    let types : c.deref_mut-6.result.now ≡ c.run_rounds.new.types = c.deref_mut-6.ensures.value ∙ with_items_is c.room.inside.types c.run_rounds.new.types (omega (arith, c.deref_mut-3.ensures.len)) in
    let (between, out, live) = sent_before _ _ _ _ _ _ _ _ _ _ _ _ _ set deferred types start c.in_ok-before.ensures.sent in
    on_err c.from_residual-in_err-worst.result
    (most_alike _ _ _ c.run_rounds.ensures.kept.shape.kind c.run_rounds.ensures.kept.shape.width
    (c.in_err-worst.ensures.behind (g.K.Sink.written c.args.sink.now) between out live))

-- what was sent in all
all_sent : (g : given.Over) (c : goal.After-drop-batch-inside-2 g) → (after : List FrameTold) × IsSent (g.K.Sink.written c.args.sink.now) (g.K.Sink.written c.finish.new.sink) (c.in_ok-before.before.rounds + 1) [] after
    × SavedSent (g.M.Machine.state c.finish.new.machine) after c.in_ok-worst.worst (notes_of c.finish.new.deferred c.finish.new.types)
all_sent g c =
    let start = unused_start _ _ _ _ _ _ _ _ _ c.requires.valid c.requires.unread (c.room.view_is ∙ c.requires.width) c.deref_mut.ensures.value c.deref_mut-2.ensures.value c.deref_mut-3.ensures.value c.room.invariant in
    let set : c.deref_mut-4.result.now ≡ c.run_rounds.new.set = c.deref_mut-4.ensures.value ∙ with_items_is c.room.inside.set c.run_rounds.new.set (omega (arith, c.deref_mut.ensures.len)) in
    let deferred : c.deref_mut-5.result.now ≡ c.run_rounds.new.deferred = c.deref_mut-5.ensures.value ∙ with_items_is c.room.inside.deferred c.run_rounds.new.deferred (omega (arith, c.deref_mut-2.ensures.len)) in
    let types : c.deref_mut-6.result.now ≡ c.run_rounds.new.types = c.deref_mut-6.ensures.value ∙ with_items_is c.room.inside.types c.run_rounds.new.types (omega (arith, c.deref_mut-3.ensures.len)) in
    let (between, out, live) = sent_before _ _ _ _ _ _ _ _ _ _ _ _ _ set deferred types start c.in_ok-before.ensures.sent in
    c.in_ok-worst.ensures.sent (g.K.Sink.written c.args.sink.now) between out live

pub returns-clause-exact : goal.returns-clause-exact
returns-clause-exact g c = let (after, then, saved) = all_sent g c in λ none h. saved.tight h (sym c.unsound_of.ensures ∙ none)

pub returns-clause-first : goal.returns-clause-first
returns-clause-first g c = let (after, then, saved) = all_sent g c in λ h. sym (saved.first h) ∙ sym c.unsound_of.ensures

pub returns-clause-types : goal.returns-clause-types
returns-clause-types g c =
    let (after, then, saved) = all_sent g c in
    let seen = with_items_is (with_items c.room.inside.types c.run_rounds.new.types) c.finish.new.types (omega (arith, c.deref_mut-6.ensures.len)) in
    λ h p. ap (λ types. get_or types p None) seen ∙ saved.types h p

pub returns-clause-frames : goal.returns-clause-frames
returns-clause-frames g c =
    let (after, then, saved) = all_sent g c in
    let same = c.finish.ensures.kept.shape.width ∙ c.run_rounds.ensures.kept.shape.width in
    let wide : (g.M.Machine.state c.finish.new.machine).host.width ≤ 2 ^ 28 = omega (arith, same, c.requires.valid.host.width) in
    subst (FramesSaved (g.K.Sink.written c.args.sink.now) (g.K.Sink.written c.finish.new.sink) (g.M.Machine.state c.finish.new.machine)) (sym c.unsound_of.ensures)
    (frames_saved _ _ _ _ _ _ _ c.in_ok-worst.ensures.saved.are wide (omega (arith, c.in_ok-before.ensures.ended.most)) then saved)

pub returns-clause-later : goal.returns-clause-later
returns-clause-later g c = g.met.M.Machine.later_on _ _ _ c.run_rounds.ensures.later c.finish.ensures.later
