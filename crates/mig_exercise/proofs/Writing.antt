-- How the script of the exercise grows.
use Rattle.mig_exercise.proofs.Common.{◌≡◌, ℕ, suc, ◌+◌, ◌*◌, ◌%◌, List, [], ◌∷◌, ◌++◌, map, ap, ◌∙◌, arith, little_bytes, line_said, Write, Dot, next_number, first_data, data_count, map-append}
use Rattle.mig_machine_script.specs.declared.script.Line.{Line}
use Rattle.mig_exercise.specs.Numbers.{number}
use Rattle.mig_exercise.specs.ExerciseScripts.{writes_up_to}
use Rattle.mig_machine_script.specs.declared.script.Line.TheVariants as lines

-- one group more: the numbers go on from `last`
pub one_group_more : (seed n i last place x : ℕ) (now new : List Line) (line : Line)
    → next_number last ≡ number seed (data_count n + 2 * i) → place ≡ next_number last → x ≡ next_number place
    → map line_said now ≡ writes_up_to seed n i → new ≡ now ++ line ∷ lines.Dot ∷ []
    → line_said line ≡ Write (first_data n + place % data_count n) 0 (little_bytes 8 x)
    → map line_said new ≡ writes_up_to seed n (i + 1)
unfolding writes_up_to number
one_group_more seed n i last place x now new line at step1 step2 so_far put said =
    let place_is : place ≡ number seed (data_count n + 2 * i) = step1 ∙ at in
    let x_is : x ≡ number seed (data_count n + 2 * i + 1) = step2 ∙ ap next_number place_is ∙ ap (number seed) (let e : suc (data_count n + 2 * i) ≡ data_count n + 2 * i + 1 = omega arith in e) in
    ap (map line_said) put ∙ map-append line_said now (line ∷ lines.Dot ∷ [])
    ∙ ap (λ l. l ++ line_said line ∷ Dot ∷ []) so_far
    ∙ ap (λ l. writes_up_to seed n i ++ l ∷ Dot ∷ []) (said ∙ (λ k. Write (first_data n + place_is k % data_count n) 0 (little_bytes 8 (x_is k))))
    ∙ ap (writes_up_to seed n) (let e : suc i ≡ i + 1 = omega arith in e)

-- and the numbers go on
pub two_numbers_more : (seed n i last place x : ℕ) → next_number last ≡ number seed (data_count n + 2 * i) → place ≡ next_number last → x ≡ next_number place → next_number x ≡ number seed (data_count n + 2 * (i + 1))
unfolding number
two_numbers_more seed n i last place x at step1 step2 =
    ap next_number (step2 ∙ ap next_number (step1 ∙ at))
    ∙ ap (number seed) (let e : suc (suc (data_count n + 2 * i)) ≡ data_count n + 2 * (i + 1) = omega arith in e)
