use Rattle.mig_exercise.proofs.Common.{◌≡◌, ◌+◌, ◌-◌, ◌%◌, map, ap, ◌∙◌, arith, little_bytes, line_said, Write, number, data_count}
use Rattle.mig_exercise.specs.ExerciseScripts.{writes_up_to}
use Rattle.mig_exercise.proofs.Writing.{one_group_more, two_numbers_more}
use Rattle.mig_exercise.proofs.script.exercise_script.Goals as goal

pub loop-i-init : goal.loop-i-init
unfolding writes_up_to
loop-i-init c =
    let n = c.args.frames in
    record {
      last = c.number_before-number.ensures ∙ ap (number c.args.seed) (let e : n - c.first_data-first.result ≡ data_count n + 0 = omega (arith, c.first_data-first.ensures) in e);
      lines = ap (map line_said) c.in-Ok.ensures.items;
    }

pub loop-i-preserved : goal.loop-i-preserved
loop-i-preserved c =
    let n = c.args.frames in let seed = c.args.seed in let i = c.loop-i.i in let last = c.loop-i.number in let place = c.next_number-place.result in let x = c.next_number-number.result in
    record {
      last = two_numbers_more seed n i last place x c.loop-i.invariant.last c.next_number-place.ensures c.next_number-number.ensures;
      lines = one_group_more seed n i last place x c.loop-i.lines.items c.push_group.new.lines.items c.in_ok-write_of.field-0 c.loop-i.invariant.last c.next_number-place.ensures c.next_number-number.ensures c.loop-i.invariant.lines c.in_ok-push_group.ensures
          (c.in_ok-write_of.ensures ∙ ap (λ first. Write (first + place % (n - first)) 0 (little_bytes 8 x)) c.first_data-first.ensures);
    }
