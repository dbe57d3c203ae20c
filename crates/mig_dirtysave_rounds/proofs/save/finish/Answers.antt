use Rattle.mig_dirtysave_rounds.proofs.Common.{◌≡◌, ℕ, sym, ap, subst, ◌∙◌, Pfns, joined, pfns_of_words, History, Since, notes_of, IsBelow, SendsFront, IsWorst, SendsLast}
use Rattle.mig_dirtysave_rounds.proofs.Shapes.{stays_on, ran_stays}
use Rattle.mig_dirtysave_rounds.proofs.Steps.{on_err, told_alike}
use Rattle.mig_dirtysave_rounds.proofs.Saves.{behind_unread, most_alike, on_ok, if_both, if_three, err_on}
use Rattle.mig_dirtysave_rounds.proofs.Firsts.{worst_stands}
use Rattle.mig_dirtysave_rounds.proofs.Ends.{last_reads, both_below, saved, saved_sent, counted_last, order_last}
use Rattle.mig_dirtysave_rounds.proofs.save.finish.Goals as goal

pub returns-in_err-pause-clause-behind : goal.returns-in_err-pause-clause-behind
returns-in_err-pause-clause-behind g c =
    let stays = c.in_err-pause.ensures.err.history in
    on_err c.from_residual.result (λ start before out sent.
    behind_unread _ _ _ _ (g.M.Machine.state c.pause.new.self).history _ _ _ sent (ap (λ (h : History). h.taken) stays)
    (ap (λ (h : History). h.since.read) stays ∙ ap (λ (a : Since). a.read) c.requires.ended.live.since) out)

pub returns-in_err-take_more-clause-behind : goal.returns-in_err-take_more-clause-behind
returns-in_err-take_more-clause-behind g c =
    let stays = c.in_err-take_more.ensures.stays.history ∙ c.in_ok-pause.ensures.ok.history in
    on_err c.from_residual-in_err-take_more.result (λ start before out sent.
    behind_unread _ _ _ _ (g.M.Machine.state c.take_more.new.machine).history _ _ _ sent (ap (λ (h : History). h.taken) stays)
    (ap (λ (h : History). h.since.read) stays ∙ ap (λ (a : Since). a.read) c.requires.ended.live.since) out)

pub send_all-requires-clause-below : goal.send_all-requires-clause-below
send_all-requires-clause-below g c =
    let are : pfns_of_words c.join.new.words ≡ joined (joined (pfns_of_words c.args.set.now) (pfns_of_words c.take_more.new.log)) (pfns_of_words c.args.deferred.now)
    = c.join.ensures ∙ ap (λ (x : Pfns). joined x (pfns_of_words c.args.deferred.now)) c.in_ok-take_more.ensures.set in
    let below = both_below _ _ _ _ _ _ _ c.in_ok-pause.ensures.ok c.in_ok-take_more.ensures.ok are c.requires.below c.requires.noted in
    let P : ℕ → Type 0 = λ n. IsBelow n (pfns_of_words c.join.new.words) in
    subst P (sym (c.in_ok-take_more.ensures.ok.ran.shape.width ∙ c.in_ok-pause.ensures.ok.ran.shape.width)) below

pub returns-clause-below : goal.returns-clause-below
returns-clause-below g c =
    let P : ℕ → Type 0 = λ n. IsBelow n (pfns_of_words c.join.new.words) in
    on_ok c.send_all.result (λ reads. subst P (sym (reads.shape.width ∙ c.in_ok-take_more.ensures.ok.ran.shape.width ∙ c.in_ok-pause.ensures.ok.ran.shape.width)) (last_reads c.in_ok-pause.ensures.ok c.in_ok-take_more.ensures.ok c.join.ensures c.in_ok-take_more.ensures.set c.requires.below c.requires.noted reads).below) c.send_all.ensures.reads

pub returns-clause-saved : goal.returns-clause-saved
returns-clause-saved g c = on_ok c.send_all.result (λ reads. saved _ _ _ _ _ _ _ (notes_of c.args.deferred.now c.args.types.now) _ c.requires.ended (last_reads c.in_ok-pause.ensures.ok c.in_ok-take_more.ensures.ok c.join.ensures c.in_ok-take_more.ensures.set c.requires.below c.requires.noted reads)) c.send_all.ensures.reads

pub returns-clause-read : goal.returns-clause-read
returns-clause-read g c = on_ok c.send_all.result (λ reads. counted_last _ _ _ _ _ _ _ (notes_of c.args.deferred.now c.args.types.now) _ c.requires.ended (last_reads c.in_ok-pause.ensures.ok c.in_ok-take_more.ensures.ok c.join.ensures c.in_ok-take_more.ensures.set c.requires.below c.requires.noted reads)) c.send_all.ensures.reads

pub returns-clause-sent : goal.returns-clause-sent
returns-clause-sent g c =
    let notes = notes_of c.args.deferred.now c.args.types.now in
    let width = c.in_ok-take_more.ensures.ok.ran.shape.width ∙ c.in_ok-pause.ensures.ok.ran.shape.width in
    let later = notes_of c.send_all.new.deferred c.send_all.new.types in
    let sent = SendsLast c.args.rounds (g.M.Machine.state c.args.machine.now) (g.M.Machine.state c.send_all.new.machine) (pfns_of_words c.args.set.now) (g.K.Sink.written c.args.sink.now) (g.K.Sink.written c.send_all.new.sink) notes later in
    if_three {R = sent} c.send_all.result (λ worst reads sends bad. λ start before out sent.
    let (after, then, front) = sends start c.args.rounds before out in
    let Sends : ℕ → Type 0 = λ n. SendsFront n (pfns_of_words c.join.new.words) (g.M.Machine.state c.take_more.new.machine) (g.M.Machine.state c.send_all.new.machine) before after notes later in
    let Worst : ℕ → Type 0 = λ n. IsWorst n (pfns_of_words c.join.new.words) (g.M.Machine.state c.send_all.new.machine).host.frames worst in (
      after,
      then,
      saved_sent _ _ _ _ _ _ _ notes _ c.requires.ended (last_reads c.in_ok-pause.ensures.ok c.in_ok-take_more.ensures.ok c.join.ensures c.in_ok-take_more.ensures.set c.requires.below c.requires.noted reads) before after _ worst sent (subst Sends width front) (subst Worst width (bad (c.in_ok-take_more.ensures.ok.paused ∙ c.in_ok-pause.ensures.ok.paused))),
    )) c.send_all.ensures.reads c.send_all.ensures.sends c.send_all.ensures.worst

pub returns-clause-stands : goal.returns-clause-stands
returns-clause-stands g c =
    if_both c.send_all.result (λ worst reads bad. λ u is. worst_stands _ _ _ worst u (bad (c.in_ok-take_more.ensures.ok.paused ∙ c.in_ok-pause.ensures.ok.paused)) is) c.send_all.ensures.reads c.send_all.ensures.worst

pub returns-clause-behind : goal.returns-clause-behind
returns-clause-behind g c =
    let kind = c.in_ok-take_more.ensures.ok.ran.shape.kind ∙ c.in_ok-pause.ensures.ok.ran.shape.kind in
    let width = c.in_ok-take_more.ensures.ok.ran.shape.width ∙ c.in_ok-pause.ensures.ok.ran.shape.width in
    err_on c.send_all.result (λ behind. λ start before out sent.
    most_alike _ _ _ kind width
    (behind start c.args.rounds before out (order_last _ _ _ _ _ _ _ c.requires.ended.live.since c.in_ok-pause.ensures.ok c.in_ok-take_more.ensures.ok sent)
    (told_alike before (sym kind) (sym width) sent.told))) c.send_all.ensures.behind

pub returns-in_err-pause-clause-kept : goal.returns-in_err-pause-clause-kept
returns-in_err-pause-clause-kept g c = ran_stays _ _ _ c.in_err-pause.ensures.err.ran

pub returns-in_err-take_more-clause-kept : goal.returns-in_err-take_more-clause-kept
returns-in_err-take_more-clause-kept g c = stays_on _ _ _ (ran_stays _ _ _ c.in_ok-pause.ensures.ok.ran) (ran_stays _ _ _ c.in_err-take_more.ensures.stays.ran)

pub returns-clause-kept : goal.returns-clause-kept
returns-clause-kept g c =
    stays_on _ _ _ (ran_stays _ _ _ c.in_ok-pause.ensures.ok.ran) (stays_on _ _ _ (ran_stays _ _ _ c.in_ok-take_more.ensures.ok.ran) c.send_all.ensures.kept)
