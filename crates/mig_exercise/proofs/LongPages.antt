-- Bytes made of numbers, and what writing some of them makes.
use Rattle.mig_exercise.proofs.Common.{◌≡◌, ℕ, zero, suc, ◌+◌, ◌-◌, ◌*◌, ◌^◌, ◌<◌, ◌≤◌, Bool, true, false, cond, nat_lt, List, ◌++◌, Some, None, refl, sym, ap, ◌∙◌, inl, inr, arith, min, cases_lt, le-ltb, eq-eqb, ne_eqb, unwrap_or, ◌==◌, little_bytes, with_field, p2m_page, exercise_context, exercise_machine, exercise_machine_of, exercise_page, table_naming, page_of_zeros, number_page, cond_below, lt-ltb, replicate-append-replicate, same_longs, put_long}
use Rattle.std.specs.Prelude.{replicate}
use Rattle.mig_guest.specs.Longs.{longs}
use Rattle.mig_pvtables.proofs.LongSteps.{one_more_below}

-- equal bytes, as numbers that are all the same
pub same_bytes : (n x b : ℕ) → little_bytes 8 x ≡ replicate 8 b → replicate (8 * n) b ≡ longs n (λ _. x)
unfolding longs
same_bytes zero x b is = refl
same_bytes (suc n) x b is =
    ap (λ k. replicate k b) (let e : 8 * suc n ≡ 8 * n + 8 = omega arith in e)
    ∙ sym (replicate-append-replicate (8 * n) 8 b)
    ∙ ap (λ l. l ++ replicate 8 b) (same_bytes n x b is)
    ∙ ap (λ l. longs n (λ _. x) ++ l) (sym is)

-- bytes that are 0, and bytes with all bits set
pub zeros : (n : ℕ) → replicate (8 * n) 0 ≡ longs n (λ _. 0)
zeros n = same_bytes n 0 0 refl

pub all_ones : (n : ℕ) → replicate (8 * n) 255 ≡ longs n (λ _. 2 ^ 64 - 1)
all_ones n = same_bytes n (2 ^ 64 - 1) 255 refl

-- one number written
pub long_written : (n : ℕ) (f : ℕ → ℕ) (i x : ℕ) → i < n → with_field (longs n f) (8 * i) (little_bytes 8 x) ≡ longs n (λ j. cond (j == i) x (f j))
long_written n f i x lt =
    ap (λ (v : ℕ). with_field (longs n f) (8 * i) (little_bytes 8 v)) (sym (ap (λ b. cond b x (f i)) (eq-eqb i i refl)))
    ∙ put_long n f (λ j. cond (j == i) x (f j)) i lt (λ j less ne. sym (ap (λ b. cond b x (f j)) (ne_eqb j i ne)))

-- the number at the front written again
pub front_written : (x y : ℕ) → with_field (number_page x) 0 (little_bytes 8 y) ≡ number_page y
front_written x y = put_long 512 (λ slot. cond (slot == 0) x 0) (λ slot. cond (slot == 0) y 0) 0 (omega arith)
    (λ j less ne. ap (λ b. cond b x 0) (ne_eqb j 0 ne) ∙ sym (ap (λ b. cond b y 0) (ne_eqb j 0 ne)))

-- ---- numbers that fall

-- the first so many numbers fall, and the others are those of f
abbrev pub falling : (first step : ℕ) (f : ℕ → ℕ) (count : ℕ) → ℕ → ℕ
falling first step f count slot = cond (nat_lt slot count) (first - step * slot) (f slot)

-- one number more is written
pub one_more_falls : (n first step : ℕ) (f : ℕ → ℕ) (k : ℕ) (now new : List ℕ) → k < n → now ≡ longs n (falling first step f k) → new ≡ with_field now (8 * k) (little_bytes 8 (first - step * k)) → new ≡ longs n (falling first step f (k + 1))
one_more_falls n first step f k now new lt is put =
    put ∙ ap (λ l. with_field l (8 * k) (little_bytes 8 (first - step * k))) is
    ∙ ap (λ (v : ℕ). with_field (longs n (falling first step f k)) (8 * k) (little_bytes 8 v)) (sym (ap (λ b. cond b (first - step * k) (f k)) (lt-ltb k (k + 1) (omega arith))))
    ∙ put_long n (falling first step f k) (falling first step f (k + 1)) k lt (λ j less ne. ap (λ b. cond b (first - step * j) (f j)) (one_more_below k j ne))

-- ---- the pages in front of the frames of data

-- both cases are alike
either_way : (b : Bool) (x : ℕ) → x ≡ cond b x x
either_way true x = refl
either_way false x = refl

-- a page of zeros has 0 at its front
pub zero_number : replicate 4096 0 ≡ number_page 0
zero_number = zeros 512 ∙ same_longs 512 (λ _. 0) (λ slot. cond (slot == 0) 0 0) (λ slot _. either_way (slot == 0) 0)

-- the first two pages are zeros
pub low_page : (n : ℕ) (contents : ℕ → List ℕ) (pfn : ℕ) → pfn < 2 → replicate 4096 0 ≡ exercise_page n contents pfn
low_page n contents pfn lt = zeros 512 ∙ cond_below pfn 2 page_of_zeros _ lt

-- the entries of a table fall by 4096 from one to the next
pub table_is : (n count pfn first : ℕ) → pfn + count ≤ n → first ≡ exercise_machine n pfn * 4096 + 103 → longs 512 (falling first 4096 (λ _. 0) count) ≡ table_naming n count pfn
table_is n count pfn first inside is = same_longs 512 _ _ (λ slot _. elim (cases_lt slot count) [
  | inl lt ↦ ap (λ x. cond (nat_lt slot count) x 0) (omega (arith, lt, is, inside))
  | inr ge ↦ ap (λ b. cond b (first - 4096 * slot) 0) (le-ltb slot count ge) ∙ sym (ap (λ b. cond b (exercise_machine n (pfn + slot) * 2 ^ 12 + 103) 0) (le-ltb slot count ge))
])

-- the slots of a P2M frame fall by 1, as far as there are PFNs
pub p2m_page_is : (n k count first : ℕ) → 512 * k < n → count ≡ min (n - 512 * k) 512 → first ≡ exercise_machine n (512 * k) → longs 512 (falling first 1 (λ _. 2 ^ 64 - 1) count) ≡ p2m_page (exercise_machine_of n) k
p2m_page_is n k count first inside so_many is = same_longs 512 _ _ (λ slot less. elim (cases_lt (512 * k + slot) n) [
  | inl lt ↦
      ap (λ b. cond b (first - 1 * slot) (2 ^ 64 - 1)) (lt-ltb slot count (omega (arith, lt, less, so_many)))
      ∙ (let e : first - 1 * slot ≡ exercise_machine n (512 * k + slot) = omega (arith, is, lt) in e)
      ∙ sym (ap (λ b. unwrap_or (cond b (Some (exercise_machine n (512 * k + slot))) None) (2 ^ 64 - 1)) (lt-ltb (512 * k + slot) n lt))
  | inr ge ↦
      ap (λ b. cond b (first - 1 * slot) (2 ^ 64 - 1)) (le-ltb slot count (omega (arith, ge, so_many)))
      ∙ sym (ap (λ b. unwrap_or (cond b (Some (exercise_machine n (512 * k + slot))) None) (2 ^ 64 - 1)) (le-ltb (512 * k + slot) n ge))
])

-- ---- the context

-- four numbers written into zeros
pub context_made : (n m0 m1 m2 : ℕ) (a b c d : List ℕ) → m0 ≡ exercise_machine n 0 → m1 ≡ exercise_machine n 1 → m2 ≡ exercise_machine n 2
    → a ≡ with_field (replicate 5168 0) 5008 (little_bytes 8 (m2 * 4096)) → b ≡ with_field a 4960 (little_bytes 8 512) → c ≡ with_field b 4832 (little_bytes 8 m1) → d ≡ with_field c 616 (little_bytes 8 m0)
    → d ≡ exercise_context n
context_made n m0 m1 m2 a b c d is0 is1 is2 first second third fourth =
    let f1 : ℕ → ℕ = λ j. cond (j == 626) (m2 * 4096) 0 in
    let f2 : ℕ → ℕ = λ j. cond (j == 620) 512 (f1 j) in
    let f3 : ℕ → ℕ = λ j. cond (j == 604) m1 (f2 j) in
    let f4 : ℕ → ℕ = λ j. cond (j == 77) m0 (f3 j) in
    let is_a : a ≡ longs 646 f1 = first ∙ ap (λ l. with_field l 5008 (little_bytes 8 (m2 * 4096))) (zeros 646) ∙ long_written 646 (λ _. 0) 626 (m2 * 4096) (omega arith) in
    let is_b : b ≡ longs 646 f2 = second ∙ ap (λ l. with_field l 4960 (little_bytes 8 512)) is_a ∙ long_written 646 f1 620 512 (omega arith) in
    let is_c : c ≡ longs 646 f3 = third ∙ ap (λ l. with_field l 4832 (little_bytes 8 m1)) is_b ∙ long_written 646 f2 604 m1 (omega arith) in
    let is_d : d ≡ longs 646 f4 = fourth ∙ ap (λ l. with_field l 616 (little_bytes 8 m0)) is_c ∙ long_written 646 f3 77 m0 (omega arith) in
    is_d ∙ (λ i. longs 646 (λ place. cond (place == 77) (is0 i) (cond (place == 604) (is1 i) (cond (place == 620) 512 (cond (place == 626) (is2 i * 4096) 0)))))
