use Rattle.mig_machine_script.proofs.Common.{rules, arith, ◌≡◌, ◌+◌, ◌/◌, ◌∷◌, List, length, drop, true, false, ap, sym, ◌∙◌, pfns_of_words, LineOf, line_said, ends_group, first_group, first_length, after, logged_after, room_for}
use Rattle.mig_machine_script.proofs.GroupsRun.{at_line, group_on, group_ends, length_on, length_ends}
use Rattle.mig_machine_script.proofs.group.run_group.Goals as goal

pub returns-then-is_dot : goal.returns-then-is_dot
returns-then-is_dot c =
    let e = at_line c.args.script.now c.loop-at.at (line_said c.in-Some.line.now) c.in-Some.ensures in
    let dot : ends_group (line_said c.in-Some.line.now) ≡ true = sym c.is_dot.ensures ∙ c.if-is_dot.true in
    let ends = ap first_group e ∙ group_ends _ _ dot in
    let was = c.loop-at.invariant in
    record {
      host = sym (ap (λ (g : List LineOf). after c.loop-at.host.host g) ends) ∙ was.host;
      log = sym (ap (λ (g : List LineOf). logged_after c.loop-at.host.host g (pfns_of_words c.loop-at.log)) ends) ∙ was.log;
      place = sym (ap (λ n. c.loop-at.at + n) (ap first_length e ∙ length_ends _ _ dot)) ∙ was.place;
      room = let room = ap room_for e in let spare = was.room in omega (arith, room, spare);
    }

pub run_line-requires-clause-room : goal.run_line-requires-clause-room
run_line-requires-clause-room c =
    let e = ap room_for (at_line c.args.script.now c.loop-at.at (line_said c.in-Some.line.now) c.in-Some.ensures) in
    let room = c.loop-at.invariant.room in omega (arith, e, room)

pub loop-at-preserved : goal.loop-at-preserved
loop-at-preserved c =
    let i = c.loop-at.invariant in
    let ran = c.run_line.ensures in
    let line = line_said c.in-Some.line.now in
    let rest = drop (c.loop-at.at + 1) c.args.script.now in
    let e : drop c.loop-at.at c.args.script.now ≡ line ∷ rest = at_line c.args.script.now c.loop-at.at line c.in-Some.ensures in
    let on : ends_group line ≡ false = sym c.is_dot.ensures ∙ c.if-is_dot.false in
    let same : length c.run_line.new.log ≡ length c.loop-at.log = search rules in
    let room = ap room_for e in
    let long = ap first_length e ∙ length_on line rest on in
    record {
      words = same ∙ i.words ∙ ap (λ w. (w + 63) / 64) (sym ran.width);
      room = let was = i.room in let spare = ran.spare in omega (arith, room, was, spare);
      host = ap (λ h. after h (first_group rest)) ran.host ∙ sym (ap (λ (g : List LineOf). after c.loop-at.host.host g) (ap first_group e ∙ group_on line rest on)) ∙ i.host;
      log = (λ j. logged_after (ran.host j) (first_group rest) (ran.log j)) ∙ sym (ap (λ (g : List LineOf). logged_after c.loop-at.host.host g (pfns_of_words c.loop-at.log)) (ap first_group e ∙ group_on line rest on)) ∙ i.log;
      place = let was = i.place in omega (arith, long, was);
    }
