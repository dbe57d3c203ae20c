use Rattle.mig_machine.proofs.Common.{◌≡◌, refl, ap, subst, sym, ◌∙◌, MachineSeen, HistoryNoted, history_of, history_told, machine_seen, noted_in, RunsOn, after_peek, and_read}
use Rattle.mig_machine.proofs.Exactly.{later_by_call}
use Rattle.mig_machine.proofs.Laters.{asks_read}
use Rattle.mig_machine.proofs.answers.ScriptMachineMachine.peek.Goals as goal

pub returns-clause-later : goal.returns-clause-later
returns-clause-later c =
    let m = c.self.inside in
    let ran = subst (λ (x : MachineSeen). RunsOn c.args.self.now x) (sym c.self.view_is) c.run.ensures.later in
    let was : noted_in c.self.inside.notes ≡ c.args.self.now.noted = ap (λ (x : MachineSeen). x.noted) c.self.view_is ∙ c.run.ensures.noted in
    later_by_call c.args.self.now (machine_seen m) (noted_in c.note_read.new.self) (and_read c.args.pfn (history_of c.args.self.now).since) ran (asks_read c.args.pfn (history_of c.args.self.now).since) refl
    (c.note_read.ensures.history ∙ ap (λ (n : HistoryNoted). after_peek c.args.pfn (history_told n)) was)
