use Rattle.mig_machine.proofs.Common.{rules, arith, ◌≡◌, ◌≤◌, ◌-◌, ◌^◌, false, is_some, length, drop, refl, sym, ap, subst, ◌∙◌, ◌+◌, ◌/◌, most_saved_width, Ran, pfns_of_words, after, logged_after, MachineSeen, log_of, machine_state, course_of, RunsOn, machine_seen, first_group, first_length, IsNextCount, next_place, later_now, logged_next, group_ran, regular}
use Rattle.mig_machine.proofs.MachinesRun.{ran_lines}
use Rattle.mig_machine.proofs.Exactly.{runs_group}
use Rattle.mig_machine.proofs.machine.ScriptMachine.run.Goals as goal

pub invariant_of-self-2 : goal.invariant_of-self-2
invariant_of-self-2 c =
    let m = c.self.inside in let was = c.self.invariant in
    let e = c.run_logged-self-inside.ensures in
    let few : length c.self.inside.script ≤ 2 ^ 64 - 1 = search rules in
    let fits : c.self.inside.runs ≤ 2 ^ 64 - 1 = search rules in
    let r = group_ran m.host.host c.run_logged-self-inside.new.host.host (first_group (drop m.at m.script)) (pfns_of_words m.log.items) (pfns_of_words c.run_logged-self-inside.new.log.items) (regular m.host.host c.width-width.ensures.valid) e.host e.log in
    record {
      log_size = e.size ∙ was.log_size ∙ ap (λ w. (w + 63) / 64) (sym r.shape.width);
      narrow = subst (λ w. w ≤ most_saved_width) (sym r.shape.width) was.narrow;
      notes_size = was.notes_size ∙ ap (λ w. (w + 63) / 64) (sym r.shape.width);
      log_below = r.below was.log_below;
      left = e.place ∙ ap (λ n. n + first_length (drop n m.script)) was.left ∙ next_place m.script m.runs c.saturating_add-self-inside.result (record { is = c.saturating_add-self-inside.ensures; fits = fits }) few;
      room = e.room;
    }

pub returns : goal.returns
returns c =
    let m = c.self.inside in let e = c.run_logged-self-inside.ensures in
    let now = machine_seen (record m { host = c.run_logged-self-inside.new.host; at = c.run_logged-self-inside.result; runs = c.saturating_add-self-inside.result; log = c.run_logged-self-inside.new.log }) in
    let r = group_ran m.host.host c.run_logged-self-inside.new.host.host (first_group (drop m.at m.script)) (pfns_of_words m.log.items) (pfns_of_words c.run_logged-self-inside.new.log.items) (regular m.host.host c.width-width.ensures.valid) e.host e.log in
    let few : length c.self.inside.script ≤ 2 ^ 64 - 1 = search rules in
    let fits : c.self.inside.runs ≤ 2 ^ 64 - 1 = search rules in
    let live : is_some c.self.inside.behind ≡ false = search rules in
    let is = c.saturating_add-self-inside.ensures in
    let next : IsNextCount m.runs c.saturating_add-self-inside.result = record { is = is; fits = fits } in
    let left = c.self.invariant.left in
    record {
      ran = subst (λ (x : MachineSeen). Ran (machine_state x) (machine_state now) (log_of now)) c.self.view_is (ran_lines (machine_seen m) now r live);
      later = subst (λ (x : MachineSeen). RunsOn x now) c.self.view_is
          (runs_group (machine_seen m) now (later_now (course_of (machine_seen m)) (course_of now) refl (omega (arith, is, fits)) next few (e.host ∙ ap (λ n. after m.host.host (first_group (drop n m.script))) left)) live refl is
          (e.log ∙ ap (λ n. logged_after m.host.host (first_group (drop n m.script)) (pfns_of_words m.log.items)) left ∙ logged_next m.script m.host.host (pfns_of_words m.log.items) m.runs c.saturating_add-self-inside.result next few));
      valid = record { host = c.width-now.ensures.valid; narrow = subst (λ w. w ≤ most_saved_width) (sym r.shape.width) c.self.invariant.narrow; logged = r.below c.self.invariant.log_below };
      paused = search rules;
      noted = search rules;
    }
