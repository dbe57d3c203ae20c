use Rattle.mig_machine.proofs.Common.{◌≡◌, ap, subst, sym, ◌∙◌, ◌≤◌, after_log, IsValid, most_saved_width, HostOf, Pfns, pfns_of_words, MachineSeen, history_told, machine_seen, noted_in, RunsOn}
use Rattle.mig_machine.proofs.Exactly.{later_by_log}
use Rattle.mig_machine.proofs.answers.ScriptMachineMachine.take_log.Goals as goal

pub invariant_of-self : goal.invariant_of-self
invariant_of-self c =
    let was = c.self.invariant in
    record {
      log_size = c.hand_over.ensures.size ∙ was.log_size;
      narrow = was.narrow;
      notes_size = c.note_log.ensures.size ∙ was.notes_size;
      log_below = λ pfn high. ap (λ (s : Pfns). s pfn) c.hand_over.ensures.empty;
      left = was.left;
      room = was.room;
    }

pub returns-clause-valid : goal.returns-clause-valid
returns-clause-valid c = record {
  host = subst IsValid (sym (ap (λ (m : MachineSeen). m.host) c.self.view_is)) c.run.ensures.valid.host;
  narrow = subst (λ (h : HostOf). h.width ≤ most_saved_width) (sym (ap (λ (m : MachineSeen). m.host) c.self.view_is)) c.run.ensures.valid.narrow;
  logged = λ pfn high. ap (λ (s : Pfns). s pfn) c.hand_over.ensures.empty;
}

pub returns-clause-later : goal.returns-clause-later
returns-clause-later c =
    let m = c.self.inside in
    let ran = subst (λ (x : MachineSeen). RunsOn c.args.self.now x) (sym c.self.view_is) c.run.ensures.later in
    let was : noted_in c.self.inside.notes ≡ c.args.self.now.noted = ap (λ (x : MachineSeen). x.noted) c.self.view_is ∙ c.run.ensures.noted in
    later_by_log c.args.self.now (machine_seen m) c.hand_over.new.log.items (noted_in c.note_log.new.self) ran c.hand_over.ensures.empty
    (c.note_log.ensures.history ∙ (λ i. after_log (c.is_some.ensures i) (pfns_of_words (c.deref.ensures.value i)) (history_told (was i))))
