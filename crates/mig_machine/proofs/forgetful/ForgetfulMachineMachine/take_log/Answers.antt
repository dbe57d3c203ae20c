use Rattle.mig_machine.proofs.Common.{List, ℕ, ap, subst, ◌∙◌, machine_state, LogTaken, pfns_of_words, forgetting, without_pfns, rules, ForgetfulSeen, forgetful_state, TakesMore}
use Rattle.mig_machine.proofs.Forgetting.{forgetting_took}
use Rattle.mig_machine.proofs.forgetful.ForgetfulMachineMachine.take_log.Goals as goal

pub returns : goal.returns
returns c =
    let list = c.self.inside.forgets.items in let log = pfns_of_words c.take_log.new.bits in let bits = pfns_of_words c.leave_out.new.words in
    let now = machine_state c.take_log.new.self in let taken = c.in_ok-take_log.ensures.ok in
    let left = c.leave_out.ensures ∙ ap (λ (l : List ℕ). without_pfns l log) c.deref.ensures.value in
    let inner = subst (λ (x : ForgetfulSeen). TakesMore x.forgets bits (machine_state x.inner) now) c.self.view_is (log, taken, left) in
    let took = subst (λ (x : ForgetfulSeen). LogTaken bits (forgetful_state x) (forgetting list now)) c.self.view_is (forgetting_took list log bits (machine_state c.self.inside.inner) now taken left) in
    record { call = record { contract = record { ok = took; err = search rules; valid = search rules; cause = search rules }; later = search rules; inner = inner } }
