-- The host of the exercise with 8 frames, worked through.
use Rattle.std.specs.FinMap as maps
use Rattle.std.proofs.Common.{◌≡◌, ◌<◌, ℕ, zero, suc, ◌+◌, ◌-◌, ◌*◌, ◌%◌, ◌^◌, Bool, true, false, cond, nat_lt, List, [], ◌∷◌, length, get_or, Some, None, refl, ap, sym, subst, ◌∙◌, arith, length-append}
use Rattle.std.proofs.lemmas.Bool.{le-ltb, ne_eqb}
use Rattle.mig_guest.proofs.Longs.{length_longs, long_of_longs}
use Rattle.mig_guest.specs.Longs.{longs}
use Rattle.mig_guest.specs.PartKeys.{p2m_key, shared_key, vcpu_key}
use Rattle.mig_exercise.proofs.Frames.{frame_none, frame_there, p2m_there, shared_there, vcpu_there}
use Rattle.mig_exercise.specs.ExerciseHosts.{IsExerciseSize, exercise_context, exercise_frame, exercise_machine, exercise_machine_of, exercise_p2m_list, exercise_page, first_contents, host_of_exercise, page_of_zeros, present_entry}
use Rattle.mig_exercise.specs.ExerciseScripts.{exercise_write, script_of_exercise, writes_up_to}
use Rattle.mig_exercise.specs.Numbers.{number}
use Rattle.mig_machine_laws.proofs.Common.{long_at, ◌==◌, unwrap_or, little_bytes, Write, Dot}
use Rattle.mig_machine_laws.specs.WorkedExercise.{PageSays, eight_context, eight_machines}

-- ---- frames and parts

pub frames : (seed pfn : ℕ) → pfn < 8 → maps.get (host_of_exercise seed 8).frames pfn ≡ Some (exercise_frame 8 (first_contents seed) pfn)
frames seed pfn lt = frame_there 8 (first_contents seed) 8 pfn lt

pub none : (seed : ℕ) → maps.get (host_of_exercise seed 8).frames 8 ≡ None
none seed = frame_none 8 (first_contents seed) 8 8 (omega arith)

pub parts : (seed : ℕ) → (maps.get (host_of_exercise seed 8).parts p2m_key ≡ Some (exercise_p2m_list 8)) × (maps.get (host_of_exercise seed 8).parts shared_key ≡ Some page_of_zeros) × (maps.get (host_of_exercise seed 8).parts (vcpu_key 0) ≡ Some (exercise_context 8))
parts seed = (p2m_there 8, shared_there 8, vcpu_there 8)

pub list : (length (exercise_p2m_list 8) ≡ 8) × (long_at (exercise_p2m_list 8) 0 ≡ 6)
list = (length_longs 1 (λ k. 6 + k), long_of_longs 1 (λ k. 6 + k) 0 (omega arith) (omega arith))

one_of : (a b c d : Bool) → cond a 2000007 (cond b 2000006 (cond c 512 (cond d 8192020480 0))) < 2 ^ 64
one_of true b c d = omega arith
one_of false true c d = omega arith
one_of false false true d = omega arith
one_of false false false true = omega arith
one_of false false false false = omega arith

pub context : (place : ℕ) → place < 646 → long_at (exercise_context 8) place ≡ eight_context place
context place lt = long_of_longs 646 eight_context place lt (one_of (place == 77) (place == 604) (place == 620) (place == 626))

-- ---- pages

-- a page of numbers that are these, and small
says : (f : ℕ → ℕ) (told : List ℕ) (other : ℕ) → ((slot : ℕ) → f slot ≡ get_or told slot other) → ((slot : ℕ) → get_or told slot other < 2 ^ 64) → PageSays (longs 512 f) told other
says f told other is small slot lt = long_of_longs 512 f slot lt (subst (λ n. n < 2 ^ 64) (sym (is slot)) (small slot)) ∙ is slot

small_none : (slot : ℕ) → get_or [] slot 0 < 2 ^ 64
small_none slot = omega arith

small_one : (x : ℕ) → x < 2 ^ 64 → (slot : ℕ) → get_or (x ∷ []) slot 0 < 2 ^ 64
small_one x small zero = small
small_one x small (suc slot) = omega arith

zero_page : PageSays page_of_zeros [] 0
zero_page = says (λ _. 0) [] 0 (λ slot. refl) small_none

pub zeros : (contents : ℕ → List ℕ) → PageSays (exercise_page 8 contents 0) [] 0 × PageSays (exercise_page 8 contents 1) [] 0 × PageSays page_of_zeros [] 0
zeros contents = (zero_page, zero_page, zero_page)

-- a table with one entry
abbrev with_one : ℕ → ℕ → ℕ
with_one pfn slot = cond (nat_lt slot 1) (present_entry (exercise_machine 8 (pfn + slot))) 0

one_is : (pfn slot : ℕ) → with_one pfn slot ≡ get_or (present_entry (exercise_machine 8 (pfn + 0)) ∷ []) slot 0
one_is pfn zero = refl
one_is pfn (suc slot) = ap (λ b. cond b (present_entry (exercise_machine 8 (pfn + suc slot))) 0) (le-ltb (suc slot) 1 (omega arith))

pub tables : (contents : ℕ → List ℕ) → PageSays (exercise_page 8 contents 2) (0x1e8484067 ∷ []) 0 × PageSays (exercise_page 8 contents 3) (0x1e8483067 ∷ []) 0 × PageSays (exercise_page 8 contents 4) (0x1e8482067 ∷ []) 0 × PageSays (exercise_page 8 contents 5) (0x1e8480067 ∷ []) 0
tables contents = (
  says (with_one 3) (0x1e8484067 ∷ []) 0 (one_is 3) (small_one 0x1e8484067 (omega arith)),
  says (with_one 4) (0x1e8483067 ∷ []) 0 (one_is 4) (small_one 0x1e8483067 (omega arith)),
  says (with_one 5) (0x1e8482067 ∷ []) 0 (one_is 5) (small_one 0x1e8482067 (omega arith)),
  says (with_one 7) (0x1e8480067 ∷ []) 0 (one_is 7) (small_one 0x1e8480067 (omega arith)),
)

abbrev machine_at : ℕ → ℕ
machine_at slot = unwrap_or (exercise_machine_of 8 (512 * 0 + slot)) (2 ^ 64 - 1)

machine_is : (slot : ℕ) → machine_at slot ≡ get_or eight_machines slot (2 ^ 64 - 1)
machine_is zero = refl
machine_is (suc zero) = refl
machine_is (suc (suc zero)) = refl
machine_is (suc (suc (suc zero))) = refl
machine_is (suc (suc (suc (suc zero)))) = refl
machine_is (suc (suc (suc (suc (suc zero))))) = refl
machine_is (suc (suc (suc (suc (suc (suc zero)))))) = refl
machine_is (suc (suc (suc (suc (suc (suc (suc zero))))))) = refl
machine_is (suc (suc (suc (suc (suc (suc (suc (suc slot)))))))) =
    let pfn : ℕ = 512 * 0 + suc (suc (suc (suc (suc (suc (suc (suc slot))))))) in
    ap (λ b. unwrap_or (cond b (Some (exercise_machine 8 pfn)) None) (2 ^ 64 - 1)) (le-ltb pfn 8 (omega arith))

machine_small : (slot : ℕ) → get_or eight_machines slot (2 ^ 64 - 1) < 2 ^ 64
machine_small zero = omega arith
machine_small (suc zero) = omega arith
machine_small (suc (suc zero)) = omega arith
machine_small (suc (suc (suc zero))) = omega arith
machine_small (suc (suc (suc (suc zero)))) = omega arith
machine_small (suc (suc (suc (suc (suc zero))))) = omega arith
machine_small (suc (suc (suc (suc (suc (suc zero)))))) = omega arith
machine_small (suc (suc (suc (suc (suc (suc (suc zero))))))) = omega arith
machine_small (suc (suc (suc (suc (suc (suc (suc (suc slot)))))))) = omega arith

pub p2m : (contents : ℕ → List ℕ) → PageSays (exercise_page 8 contents 6) eight_machines (2 ^ 64 - 1)
p2m contents = says machine_at eight_machines (2 ^ 64 - 1) machine_is machine_small

number_small : (seed : ℕ) → number seed 0 < 2 ^ 64
unfolding number
number_small seed = let x : ℕ = seed * 6364136223846793005 + 1442695040888963407 in let small : x % 2 ^ 64 < 2 ^ 64 = omega arith in small

front_is : (x slot : ℕ) → cond (slot == 0) x 0 ≡ get_or (x ∷ []) slot 0
front_is x zero = refl
front_is x (suc slot) = ap (λ b. cond b x 0) (ne_eqb (suc slot) 0 (λ e. omega (arith, e)))

pub front : (seed : ℕ) → PageSays (exercise_page 8 (first_contents seed) 7) (number seed 0 ∷ []) 0
front seed = says (λ slot. cond (slot == 0) (number seed 0) 0) (number seed 0 ∷ []) 0 (front_is (number seed 0)) (small_one (number seed 0) (number_small seed))

abbrev with_data : ℕ → ℕ
with_data slot = cond (nat_lt slot 512) (present_entry (exercise_machine 600 (8 + slot))) 0

abbrev later_machine : ℕ → ℕ
later_machine slot = unwrap_or (exercise_machine_of 600 (512 * 1 + slot)) (2 ^ 64 - 1)

pub many : (contents : ℕ → List ℕ) → (long_at (exercise_page 600 contents 5) 0 ≡ 2000591 * 4096 + 0x67) × (long_at (exercise_page 600 contents 5) 511 ≡ 2000080 * 4096 + 0x67) × (long_at (exercise_page 600 contents 7) 87 ≡ 2000000) × (long_at (exercise_page 600 contents 7) 88 ≡ 2 ^ 64 - 1)
many contents = (
  long_of_longs 512 with_data 0 (omega arith) (omega arith),
  long_of_longs 512 with_data 511 (omega arith) (omega arith),
  long_of_longs 512 later_machine 87 (omega arith) (omega arith),
  long_of_longs 512 later_machine 88 (omega arith) (omega arith),
)

-- ---- numbers and lines

pub numbers : (number 1 0 ≡ 7806831264735756412) × (number 1 1 ≡ 9396908728118811419)
unfolding number
numbers = (refl, refl)

pub writes : (exercise_write 1 10 0 ≡ Write 9 0 (little_bytes 8 14673421054488193520)) × (exercise_write 1 10 1 ≡ Write 8 0 (little_bytes 8 10218303843513747618))
unfolding number
writes = (refl, refl)

lines_counted : (seed n m : ℕ) → length (writes_up_to seed n m) ≡ 2 * m
unfolding writes_up_to
lines_counted seed n zero = refl
lines_counted seed n (suc m) =
    let longer = length-append (writes_up_to seed n m) (exercise_write seed n m ∷ Dot ∷ []) in
    let before = lines_counted seed n m in
    omega (arith, longer, before)

pub script : (seed : ℕ) → length (script_of_exercise seed 10) ≡ 40
script seed = lines_counted seed 10 20

pub bounds : IsExerciseSize 8 × IsExerciseSize 65536 × (IsExerciseSize 7 → ⊥) × (IsExerciseSize 65537 → ⊥)
bounds = (record { least = omega arith; most = omega arith }, record { least = omega arith; most = omega arith }, (λ size. let least = size.least in omega (arith, least)), (λ size. let most = size.most in omega (arith, most)))
