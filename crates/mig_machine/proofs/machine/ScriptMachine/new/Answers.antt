use Rattle.mig_machine.proofs.Common.{rules, subst, ◌≡◌, ◌≤◌, ◌+◌, ◌/◌, length, refl, sym, ap, ◌∙◌, HostOf, most_saved_width, Pfns, room_for}
use Rattle.mig_machine.proofs.machine.ScriptMachine.new.Goals as goal

pub invariant_of-result : goal.invariant_of-result
invariant_of-result c =
    let words : length c.in_ok-log.log.items ≡ (c.args.host.host.width + 63) / 64 = search rules in
    let noted : length c.in_ok-log.notes.read.items ≡ (c.args.host.host.width + 63) / 64 = search rules in
    let ready : room_for c.args.script ≤ c.made_ready.new.host.spare = search rules in
    record {
      narrow = subst (λ (h : HostOf). h.width ≤ most_saved_width) (sym c.made_ready.ensures.host) c.requires.narrow;
      log_size = words ∙ ap (λ (h : HostOf). (h.width + 63) / 64) (sym c.made_ready.ensures.host);
      notes_size = noted ∙ ap (λ (h : HostOf). (h.width + 63) / 64) (sym c.made_ready.ensures.host);
      log_below = λ pfn high. ap (λ (s : Pfns). s pfn) c.in_ok-log.ensures.empty;
      left = refl;
      room = ready;
    }
