use Rattle.mig_dirtysave.proofs.Common.{inl, refl, sym, ap, subst, ◌∙◌, unsoundness, Appends, closing_alike, is_early}
use Rattle.mig_dirtysave.proofs.Looked.{stream_stays, tight_stay, trust_stays}
use Rattle.mig_dirtysave.proofs.Ends.{stopped_closing, stopped_first, stopped_frames, stopped_last, stopped_opening}
use Rattle.mig_dirtysave.proofs.Endings.{ends_judged, ends_unsent, ends_unwritten, entries_are, leaves, nothing_left, pauses, told_most}
use Rattle.mig_dirtysave.proofs.Streams.{early_stays, held_there, kind_stays, save_is_stream, top_held, width_stays}
use Rattle.mig_dirtysave.proofs.Wrappers.{begun_as_host, emulators_stay, opening_stays, opens_as_host}
use Rattle.mig_dirtysave.proofs.saver.save.Goals as goal

pub returns-in_err-write_opening-clause-ends : goal.returns-in_err-write_opening-clause-ends
returns-in_err-write_opening-clause-ends g c =
    let s = g.M.Machine.state c.args.machine.now in
    ends_unwritten s s _ _ c.from_residual.result c.from_residual.ensures.1
    (leaves s s _ _
    (stopped_opening _ _ s.host s.history c.args.settings.now.parts (opens_as_host s.host _ c.args.settings.now c.requires.made refl) (nothing_left s c.requires.unread) c.in_err-write_opening.ensures.bytes))

pub returns-in_err-write_opening-clause-later : goal.returns-in_err-write_opening-clause-later
returns-in_err-write_opening-clause-later g c = g.met.M.Machine.later_self _

pub returns-in_err-write_before-clause-ends : goal.returns-in_err-write_before-clause-ends
returns-in_err-write_before-clause-ends g c =
    let s = g.M.Machine.state c.args.machine.now in
    ends_unwritten s s _ _ c.from_residual-in_err-write_before.result c.from_residual-in_err-write_before.ensures.1
    (leaves s s _ _
    (stopped_first _ (g.K.Sink.written c.write_opening.new.sink) _ s.host s.history
    (begun_as_host _ _ s.host _ c.args.settings.now c.requires.made refl c.in_ok-write_opening.ensures.bytes) c.args.early.now c.requires.formed (nothing_left s c.requires.unread) c.in_err-write_before.ensures.bytes))

pub returns-in_err-write_before-clause-later : goal.returns-in_err-write_before-clause-later
returns-in_err-write_before-clause-later g c = g.met.M.Machine.later_self _

pub returns-in_err-sent-clause-ends : goal.returns-in_err-sent-clause-ends
returns-in_err-sent-clause-ends g c =
    let s = g.M.Machine.state c.args.machine.now in
    ends_unsent s (g.M.Machine.state c.send_frames.new.machine) _ _ c.from_residual-in_err-sent.result _ c.from_residual-in_err-sent.ensures.1
    (leaves s (g.M.Machine.state c.send_frames.new.machine) _ _
    (stopped_frames _ (g.K.Sink.written c.write_opening.new.sink) (g.K.Sink.written c.write_before.new.sink) s.host _
    (begun_as_host _ _ s.host _ c.args.settings.now c.requires.made refl c.in_ok-write_opening.ensures.bytes) c.args.early.now c.requires.formed (sym c.requires.made.kind) c.in_ok-write_before.ensures.bytes _ c.in_err-sent.ensures.behind))

pub returns-in_err-close-clause-ends : goal.returns-in_err-close-clause-ends
returns-in_err-close-clause-ends g c =
    let s = g.M.Machine.state c.args.machine.now in
    let m = g.M.Machine.state c.send_frames.new.machine in
    let t = g.M.Machine.state c.close.new.machine in
    let looks = c.close.ensures.looks in
    ends_judged s m t looks _ _ c.from_residual-in_err-close.result _ c.from_residual-in_err-close.ensures.1 (pauses s m t looks c.in_ok-sent.ensures.paused c.in_ok-sent.ensures.rounds c.send_frames.ensures.kept)
    c.in_err-close.ensures.first c.in_err-close.ensures.stands
    (leaves s t _ _
    (stopped_last _ (g.K.Sink.written c.write_opening.new.sink) (g.K.Sink.written c.write_before.new.sink) s.host t.history
    (begun_as_host _ _ s.host _ c.args.settings.now c.requires.made refl c.in_ok-write_opening.ensures.bytes) c.args.early.now c.requires.formed (sym c.requires.made.kind) c.in_ok-write_before.ensures.bytes
    (g.K.Sink.written c.send_frames.new.sink) m c.in_ok-sent.sent.unsound c.in_ok-sent.ensures.frames (told_most s m t _ _ _ c.send_frames.ensures.kept looks c.in_ok-sent.ensures.frames) _ c.in_err-close.ensures.stops))

pub returns-in_err-close-clause-later : goal.returns-in_err-close-clause-later
returns-in_err-close-clause-later g c = g.met.M.Machine.later_on _ _ _ c.send_frames.ensures.later c.close.ensures.later

pub returns-in_err-write_closing-clause-ends : goal.returns-in_err-write_closing-clause-ends
returns-in_err-write_closing-clause-ends g c =
    let s = g.M.Machine.state c.args.machine.now in
    let m = g.M.Machine.state c.send_frames.new.machine in
    let t = g.M.Machine.state c.close.new.machine in
    ends_unwritten s t _ _ c.from_residual-in_err-write_closing.result c.from_residual-in_err-write_closing.ensures.1
    (leaves s t _ _
    (stopped_closing _ (g.K.Sink.written c.write_opening.new.sink) (g.K.Sink.written c.write_before.new.sink) s.host t.history
    (begun_as_host _ _ s.host _ c.args.settings.now c.requires.made refl c.in_ok-write_opening.ensures.bytes) c.args.early.now c.requires.formed (sym c.requires.made.kind) c.in_ok-write_before.ensures.bytes
    (g.K.Sink.written c.send_frames.new.sink) m c.in_ok-sent.sent.unsound c.in_ok-sent.ensures.frames (told_most s m t _ _ _ c.send_frames.ensures.kept c.close.ensures.looks c.in_ok-sent.ensures.frames) (g.K.Sink.written c.close.new.sink) c.in_ok-close.ensures.closed _
    c.close.new.settings c.in_ok-close.ensures.formed (emulators_stay s m c.send_frames.ensures.kept c.close.new.settings c.in_ok-close.ensures.emulators) c.in_err-write_closing.ensures.bytes))

pub returns-in_err-write_closing-clause-later : goal.returns-in_err-write_closing-clause-later
returns-in_err-write_closing-clause-later g c = g.met.M.Machine.later_on _ _ _ c.send_frames.ensures.later c.close.ensures.later

pub returns-clause-later : goal.returns-clause-later
returns-clause-later g c = g.met.M.Machine.later_on _ _ _ c.send_frames.ensures.later c.close.ensures.later

pub returns-clause-ends : goal.returns-clause-ends
returns-clause-ends g c =
    let s = g.M.Machine.state c.args.machine.now in
    let m = g.M.Machine.state c.send_frames.new.machine in
    let t = g.M.Machine.state c.close.new.machine in
    let looks = c.close.ensures.looks in
    let early = c.args.early.now in
    let kind = kind_stays s m _ early c.send_frames.ensures.kept c.requires.made refl in
    let width = width_stays s m _ c.args.room c.send_frames.ensures.kept c.requires.made refl in
    let begun = begun_as_host _ _ s.host _ c.args.settings.now c.requires.made refl c.in_ok-write_opening.ensures.bytes in
    record {
      pause = pauses s m t looks c.in_ok-sent.ensures.paused c.in_ok-sent.ensures.rounds c.send_frames.ensures.kept;
      exact = tight_stay m t looks (c.in_ok-sent.ensures.exact c.in_ok-close.ensures.none);
      sound = λ trusted. ap unsoundness looks.host ∙ c.in_ok-close.ensures.sound (trust_stays m t looks trusted);
      stream = stream_stays m t looks (g.K.Sink.written c.args.sink.now) (g.K.Sink.written c.write_closing.new.sink)
          (save_is_stream m c.host_is_valid-2.ensures.host c.in_ok-sent.sent.unsound c.in_ok-close.ensures.none (λ honest. c.in_ok-close.ensures.sound (inl honest))
          early c.requires.formed kind (top_held is_early _ _ early (held_there is_early _ _ _ _ _ kind width c.requires.early))
          (early_stays s m _ early c.send_frames.ensures.kept c.requires.made refl)
          (g.K.Sink.written c.write_opening.new.sink) (g.K.Sink.written c.write_before.new.sink) (g.K.Sink.written c.send_frames.new.sink) (g.K.Sink.written c.close.new.sink) c.in_ok-write_before.ensures.bytes c.in_ok-sent.ensures.frames c.in_ok-close.ensures.closed
          (g.K.Sink.written c.args.sink.now) (g.K.Sink.written c.write_closing.new.sink)
          (subst (Appends (g.K.Sink.written c.args.sink.now) (g.K.Sink.written c.write_opening.new.sink)) (sym (opening_stays s m c.send_frames.ensures.kept)) begun)
          (subst (Appends (g.K.Sink.written c.close.new.sink) (g.K.Sink.written c.write_closing.new.sink)) (sym (closing_alike m.host.parts c.close.new.settings.parts c.in_ok-close.ensures.emulators)) c.in_ok-write_closing.ensures.bytes));
      rounds = c.in_ok-sent.ensures.report ∙ sym looks.live;
      entries = entries_are s m t looks _ _ _ _ c.in_ok-sent.ensures.frames c.in_ok-sent.ensures.entries;
    }
