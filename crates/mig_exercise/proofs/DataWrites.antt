-- The lines of the exercise write into frames of data alone, and leave a host of its kind.
use Rattle.mig_exercise.proofs.Common.{◌≡◌, ◌≢◌, ℕ, zero, suc, ◌+◌, ◌-◌, ◌*◌, ◌%◌, ◌≤◌, ◌<◌, Bool, true, false, cond, nat_eq, nat_lt, min, List, [], ◌∷◌, ◌++◌, take, drop, length, Option, Some, refl, sym, ap, ◌∙◌, inl, inr, arith, AllByRecursion, option_map, cases_lt, eq-eqb, ne_eqb, le-ltb, HostOf, HostFrame, HostFrames, length_longs, p2m_page, LineOf, Write, Dot, ran, ran_between, applies, after_line, after, number, IsExerciseSize, ArePages, first_data, data_count, exercise_machine_of, exercise_machine, exercise_type, exercise_page, frames_up_to, table_naming, page_of_zeros, host_with, host_of_exercise, first_contents, IsDataWrite, script_of_exercise, ltb-false, is_inserted, ends_group, first_group, lines_up_to}
use Rattle.std.proofs.lemmas.Grind.{common_steps}
use Rattle.byteorder.specs.Numbers.{length-bytes_low_first}
use Rattle.mig_pagestore.specs.Pages.{spliced}
use Rattle.mig_host.specs.Changes.{put_or_stay, page_written}
use Rattle.mig_exercise.specs.ExerciseScripts.{exercise_write, writes_up_to}
use Rattle.mig_exercise.proofs.Frames.{frame_there, frame_none}
use Rattle.std.specs.FinMap as maps

-- ---- lines of which all are of a kind

module _ {X : Type 0} (P : X → Type 0) where
  all_appended : (xs ys : List X) → AllByRecursion P xs → AllByRecursion P ys → AllByRecursion P (xs ++ ys)
  all_appended [] ys first second = second
  all_appended (x ∷ xs) ys first second = (first.0, all_appended xs ys first.1 second)

  all_taken : (n : ℕ) (xs : List X) → AllByRecursion P xs → AllByRecursion P (take n xs)
  all_taken zero xs all = tt
  all_taken (suc n) [] all = tt
  all_taken (suc n) (x ∷ xs) all = (all.0, all_taken n xs all.1)

  all_dropped : (n : ℕ) (xs : List X) → AllByRecursion P xs → AllByRecursion P (drop n xs)
  all_dropped zero xs all = all
  all_dropped (suc n) [] all = tt
  all_dropped (suc n) (x ∷ xs) all = all_dropped n xs all.1

module _ (P : LineOf → Type 0) where
  unless_ended : (b : Bool) (line : LineOf) (lines : List LineOf) → P line → AllByRecursion P lines → AllByRecursion P (cond b [] (line ∷ lines))
  unless_ended true line lines one all = tt
  unless_ended false line lines one all = (one, all)

  all_in_group : (lines : List LineOf) → AllByRecursion P lines → AllByRecursion P (first_group lines)
  all_in_group [] all = tt
  all_in_group (line ∷ lines) all = unless_ended (ends_group line) line (first_group lines) all.0 (all_in_group lines all.1)

  -- so are the lines that ran before a dot
  pub ran_writes : (lines : List LineOf) (c : ℕ) → AllByRecursion P lines → AllByRecursion P (ran lines c)
  ran_writes lines zero all = tt
  ran_writes lines (suc c) all =
      all_appended P (take (lines_up_to lines c) lines) (first_group (drop (lines_up_to lines c) lines)) (all_taken P (lines_up_to lines c) lines all)
      (all_in_group (drop (lines_up_to lines c) lines) (all_dropped P (lines_up_to lines c) lines all))

  -- and those that ran between two dots
  pub between_writes : (lines : List LineOf) (a b : ℕ) → AllByRecursion P lines → AllByRecursion P (ran_between lines a b)
  between_writes lines a b all = all_dropped P (length (ran lines a)) (ran lines b) (ran_writes lines b all)

-- ---- the script

-- some frame is one of data
pub some_data : (n : ℕ) → IsExerciseSize n → first_data n < n
some_data n size = let least = size.least in omega (arith, least)

within : (first count n x : ℕ) → first < n → count ≡ n - first → (first ≤ first + x % count) × (first + x % count < n)
within first count n x some is = let positive : 0 < count = omega arith in let small : x % count < count = omega arith in (omega arith, omega arith)

data_write : (seed n i : ℕ) → IsExerciseSize n → IsDataWrite n (exercise_write seed n i)
data_write seed n i size =
    let place = within (first_data n) (data_count n) n (number seed (data_count n + 2 * i)) (some_data n size) refl in
    (place.0, place.1, refl, length-bytes_low_first 0 8 (number seed (data_count n + 2 * i + 1)))

-- the script of the exercise writes into frames of data alone
pub script_writes : (seed n m : ℕ) → IsExerciseSize n → AllByRecursion (IsDataWrite n) (writes_up_to seed n m)
unfolding writes_up_to
script_writes seed n zero size = tt
script_writes seed n (suc m) size = all_appended (IsDataWrite n) (writes_up_to seed n m) (exercise_write seed n m ∷ Dot ∷ []) (script_writes seed n m size) (data_write seed n m size, (tt, tt))

-- ---- pages

chosen : (a b c d : Bool) (first second third fourth page : List ℕ) → a ≡ false → b ≡ false → c ≡ false → d ≡ false
    → cond a first (cond b second (cond c third (cond d fourth page))) ≡ page
chosen a b c d first second third fourth page no_a no_b no_c no_d = λ i. cond (no_a i) first (cond (no_b i) second (cond (no_c i) third (cond (no_d i) fourth page)))

-- the page of a frame of data
pub data_page : (n : ℕ) (contents : ℕ → List ℕ) (pfn : ℕ) → first_data n ≤ pfn → exercise_page n contents pfn ≡ contents (pfn - first_data n)
data_page n contents pfn le =
    chosen (nat_lt pfn 2) (nat_lt pfn 5) (nat_eq pfn 5) (nat_lt pfn (first_data n)) page_of_zeros (table_naming n 1 (pfn + 1)) (table_naming n (min (data_count n) 512) (first_data n)) (p2m_page (exercise_machine_of n) (pfn - 6))
    (contents (pfn - first_data n)) (le-ltb pfn 2 (omega (arith, le))) (le-ltb pfn 5 (omega (arith, le))) (ne_eqb pfn 5 (λ e. omega (arith, le, e))) (le-ltb pfn (first_data n) le)

last_same : (b : Bool) (around : List ℕ → List ℕ) (other page now : List ℕ) → (b ≡ false → now ≡ page) → around (cond b other now) ≡ around (cond b other page)
last_same true around other page now same = refl
last_same false around other page now same = ap around (same refl)

-- a page is the same where it isn't one of data, or what it holds is the same
page_same : (n : ℕ) (contents now : ℕ → List ℕ) (pfn : ℕ) → (first_data n ≤ pfn → now (pfn - first_data n) ≡ contents (pfn - first_data n)) → exercise_page n now pfn ≡ exercise_page n contents pfn
page_same n contents now pfn same =
    last_same (nat_lt pfn (first_data n)) (λ l. cond (nat_lt pfn 2) page_of_zeros (cond (nat_lt pfn 5) (table_naming n 1 (pfn + 1)) (cond (nat_eq pfn 5) (table_naming n (min (data_count n) 512) (first_data n)) l)))
    (p2m_page (exercise_machine_of n) (pfn - 6)) (contents (pfn - first_data n)) (now (pfn - first_data n)) (λ no. same (ltb-false pfn (first_data n) no))

-- ---- one page written

-- pages of which one has these bytes from this byte on
abbrev written : (ℕ → List ℕ) → ℕ → ℕ → List ℕ → ℕ → List ℕ
written contents place at bytes i = cond (nat_eq i place) (spliced (contents i) at bytes) (contents i)

spliced_long : (page bytes : List ℕ) (at : ℕ) → length page ≡ 4096 → at + length bytes ≤ 4096 → length (spliced page at bytes) ≡ 4096
spliced_long page bytes at long fits = grind (arith, common_steps)

long_either : (b : Bool) (page bytes : List ℕ) (at : ℕ) → length page ≡ 4096 → at + length bytes ≤ 4096 → length (cond b (spliced page at bytes) page) ≡ 4096
long_either true page bytes at long fits = spliced_long page bytes at long fits
long_either false page bytes at long fits = long

written_here : (contents : ℕ → List ℕ) (place at : ℕ) (bytes : List ℕ) → written contents place at bytes place ≡ spliced (contents place) at bytes
written_here contents place at bytes = ap (λ b. cond b (spliced (contents place) at bytes) (contents place)) (eq-eqb place place refl)

written_other : (contents : ℕ → List ℕ) (place at : ℕ) (bytes : List ℕ) (i : ℕ) → i ≢ place → written contents place at bytes i ≡ contents i
written_other contents place at bytes i ne = ap (λ b. cond b (spliced (contents i) at bytes) (contents i)) (ne_eqb i place ne)

-- the frame of the exercise that holds this page
abbrev frame_holding : ℕ → ℕ → List ℕ → HostFrame
frame_holding n pfn page = record { type = exercise_type pfn; machine = exercise_machine n pfn; page = Some page }

frames_written : (n : ℕ) (contents : ℕ → List ℕ) (pfn at : ℕ) (bytes : List ℕ) → first_data n ≤ pfn → pfn < n
    → maps.insert (frames_up_to n contents n) pfn (frame_holding n pfn (spliced (exercise_page n contents pfn) at bytes)) ≡ frames_up_to n (written contents (pfn - first_data n) at bytes) n
frames_written n contents pfn at bytes le lt =
    let place : ℕ = pfn - first_data n in
    sym
    (is_inserted (frames_up_to n (written contents place at bytes) n) (frames_up_to n contents n) pfn (frame_holding n pfn (spliced (exercise_page n contents pfn) at bytes))
    (frame_there n (written contents place at bytes) n pfn lt
    ∙ ap (λ (page : List ℕ). Some (frame_holding n pfn page)) (data_page n (written contents place at bytes) pfn le ∙ written_here contents place at bytes ∙ ap (λ (page : List ℕ). spliced page at bytes) (sym (data_page n contents pfn le))))
    (λ q ne. elim (cases_lt q n) [
      | inl less ↦
          frame_there n (written contents place at bytes) n q less
          ∙ ap (λ (page : List ℕ). Some (frame_holding n q page))
          (page_same n contents (written contents place at bytes) q (λ above. written_other contents place at bytes (q - first_data n) (λ e. ne (omega (arith, above, le, e)))))
          ∙ sym (frame_there n contents n q less)
      | inr more ↦ frame_none n (written contents place at bytes) n q more ∙ sym (frame_none n contents n q more)
    ]))

host_written : (n : ℕ) (contents : ℕ → List ℕ) (pfn at : ℕ) (bytes : List ℕ) → first_data n ≤ pfn → pfn < n
    → page_written (host_with n contents) pfn at bytes ≡ host_with n (written contents (pfn - first_data n) at bytes)
host_written n contents pfn at bytes le lt =
    ap (λ (o : Option HostFrame). put_or_stay o (host_with n contents) pfn (λ (f : HostFrame). record f { page = option_map (λ (page : List ℕ). spliced page at bytes) f.page })) (frame_there n contents n pfn lt)
    ∙ ap (λ (frames : HostFrames). record (host_with n contents) { frames = frames }) (frames_written n contents pfn at bytes le lt)

-- ---- lines that write into frames of data

-- the host is one of the exercise
abbrev IsOfExercise : ℕ → HostOf → Type 0
IsOfExercise n h = (now : ℕ → List ℕ) × ArePages now × (h ≡ host_with n now)

either_way : (b : Bool) (n : ℕ) (changed h : HostOf) → IsOfExercise n changed → IsOfExercise n h → IsOfExercise n (cond b changed h)
either_way true n changed h first second = first
either_way false n changed h first second = second

after_one : (n : ℕ) (contents : ℕ → List ℕ) → ArePages contents → (line : LineOf) → IsDataWrite n line → IsOfExercise n (after_line (host_with n contents) line)
after_one n contents pages (Write pfn at bytes) is =
    let start = is.2 in let eight = is.3 in
    either_way (applies (host_with n contents) (Write pfn at bytes)) n (page_written (host_with n contents) pfn at bytes) (host_with n contents) (
      written contents (pfn - first_data n) at bytes,
      λ i. long_either (nat_eq i (pfn - first_data n)) (contents i) bytes at (pages i) (omega (arith, start, eight)),
      host_written n contents pfn at bytes is.0 is.1,
    )
    (contents, pages, refl)
after_one n contents pages Dot is = (contents, pages, refl)
after_one n contents pages _ is = absurd is

-- such lines leave the host of the exercise one of its kind: only what the frames of data hold may be another
pub after_writes : (n : ℕ) → IsExerciseSize n → (contents : ℕ → List ℕ) → ArePages contents → (lines : List LineOf) → AllByRecursion (IsDataWrite n) lines
    → (now : ℕ → List ℕ) × ArePages now × (after (host_with n contents) lines ≡ host_with n now)
after_writes n size contents pages [] all = (contents, pages, refl)
after_writes n size contents pages (line ∷ lines) all =
    let one : IsOfExercise n (after_line (host_with n contents) line) = after_one n contents pages line all.0 in
    let others = after_writes n size one.0 one.1 lines all.1 in
    (others.0, others.1, ap (λ (h : HostOf). after h lines) one.2 ∙ others.2)

-- so is the host of the exercise wherever its script has come to
pub exercise_stays : (seed n c : ℕ) → IsExerciseSize n → (now : ℕ → List ℕ) × ArePages now × (after (host_of_exercise seed n) (ran (script_of_exercise seed n) c) ≡ host_with n now)
exercise_stays seed n c size =
    after_writes n size (first_contents seed) (λ i. length_longs 512 (λ slot. cond (nat_eq slot 0) (number seed i) 0)) (ran (script_of_exercise seed n) c)
    (ran_writes (IsDataWrite n) (script_of_exercise seed n) c (script_writes seed n (2 * n) size))
