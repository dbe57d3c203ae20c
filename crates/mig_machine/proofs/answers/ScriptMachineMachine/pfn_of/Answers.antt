use Rattle.mig_machine.proofs.Common.{◌≡◌, refl, ap, subst, sym, ◌∙◌, after_call, and_call, IsValid, MachineSeen, HistoryNoted, history_of, history_told, machine_seen, noted_in, RunsOn}
use Rattle.mig_machine.proofs.Exactly.{later_by_call}
use Rattle.mig_machine.proofs.Laters.{asks_call}
use Rattle.mig_machine.proofs.Insides.{inside}
use Rattle.mig_machine.proofs.answers.ScriptMachineMachine.pfn_of.Goals as goal

pub returns-clause-inside : goal.returns-clause-inside
returns-clause-inside c =
    inside c.self.inside.host.host c.args.mfn c.pfn_of.result (subst IsValid (sym (ap (λ (m : MachineSeen). m.host) c.self.view_is)) c.run.ensures.valid.host) c.pfn_of.ensures.back

pub returns-clause-later : goal.returns-clause-later
returns-clause-later c =
    let m = c.self.inside in
    let ran = subst (λ (x : MachineSeen). RunsOn c.args.self.now x) (sym c.self.view_is) c.run.ensures.later in
    let was : noted_in c.self.inside.notes ≡ c.args.self.now.noted = ap (λ (x : MachineSeen). x.noted) c.self.view_is ∙ c.run.ensures.noted in
    later_by_call c.args.self.now (machine_seen m) (noted_in c.note_call.new.self) (and_call (history_of c.args.self.now).since) ran (asks_call (history_of c.args.self.now).since) refl
    (c.note_call.ensures.history ∙ ap (λ (n : HistoryNoted). after_call (history_told n)) was)
