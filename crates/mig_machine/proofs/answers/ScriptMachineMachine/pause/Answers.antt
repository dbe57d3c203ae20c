use Rattle.mig_machine.proofs.Common.{◌≡◌, ap, subst, sym, ◌∙◌, after_call, MachineSeen, HistoryNoted, history_told, machine_seen, noted_in, RunsOn}
use Rattle.mig_machine.proofs.Exactly.{later_by_pause}
use Rattle.mig_machine.proofs.answers.ScriptMachineMachine.pause.Goals as goal

pub returns-clause-later : goal.returns-clause-later
returns-clause-later c =
    let m = c.self.inside in
    let ran = subst (λ (x : MachineSeen). RunsOn c.args.self.now x) (sym c.self.view_is) c.run.ensures.later in
    let was : noted_in c.self.inside.notes ≡ c.args.self.now.noted = ap (λ (x : MachineSeen). x.noted) c.self.view_is ∙ c.run.ensures.noted in
    later_by_pause c.args.self.now (machine_seen m) (noted_in c.note_call.new.self) c.unwrap_or.result c.unwrap_or.ensures ran
    (c.note_call.ensures.history ∙ ap (λ (n : HistoryNoted). after_call (history_told n)) was)
