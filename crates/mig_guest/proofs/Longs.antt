-- Bytes that are made of numbers of 8 bytes.
use Rattle.mig_guest.proofs.Common.{◌≡◌, ◌≢◌, ℕ, zero, suc, ◌+◌, ◌*◌, ◌^◌, ◌<◌, ◌≤◌, List, [], ◌++◌, length, take, drop, refl, sym, ap, subst, ◌∙◌, inl, inr, arith, length-drop, length-append, append-nil, append_assoc, drop-drop, replicate, cases_lt, take_all, drop_all, take_at, take-append-le, drop-append-le, drop_at, replicate-append-replicate}
use Rattle.std.proofs.Math.Seq.{take-add}
use Rattle.byteorder.specs.Endian.{little_bytes, little_number}
use Rattle.byteorder.specs.Numbers.{little_from-append, little_number-reads_back, length-bytes_low_first}
use Rattle.mig_bytes.specs.Fields.{le64, with_field}
use Rattle.mig_bytes.proofs.ByteLists.{Bytes, bytes_drop, long_back}
use Rattle.mig_guest.specs.Longs.{long_at, longs, each_long}

front : (xs ys : List ℕ) (i : ℕ) → 8 * i + 8 ≤ length xs → long_at (xs ++ ys) i ≡ long_at xs i
unfolding le64
front xs ys i long =
    ap (little_number 8) (drop-append-le (8 * i) xs ys (omega (arith, long)))
    ∙ little_from-append 8 (drop (8 * i) xs) ys (omega (arith, long, length-drop (8 * i) xs))

last : (xs : List ℕ) (i x : ℕ) → length xs ≡ 8 * i → x < 2 ^ 64 → long_at (xs ++ little_bytes 8 x) i ≡ x
unfolding le64
last xs i x size small =
    ap (little_number 8) (drop_at xs (little_bytes 8 x) (8 * i) size) ∙ ap (little_number 8) (sym (append-nil (little_bytes 8 x))) ∙ little_number-reads_back 8 x [] small

pub length_longs : (n : ℕ) (f : ℕ → ℕ) → length (longs n f) ≡ 8 * n
unfolding longs
length_longs zero f = omega arith
length_longs (suc n) f = length-append (longs n f) (little_bytes 8 (f n)) ∙ omega (arith, length_longs n f, length-bytes_low_first 0 8 (f n))

-- the number that stands at a place
pub long_of_longs : (n : ℕ) (f : ℕ → ℕ) (i : ℕ) → i < n → f i < 2 ^ 64 → long_at (longs n f) i ≡ f i
unfolding longs
long_of_longs zero f i lt small = absurd (omega (arith, lt))
long_of_longs (suc n) f i lt small = elim (cases_lt i n) [
  | inl before ↦ front (longs n f) (little_bytes 8 (f n)) i (omega (arith, before, length_longs n f)) ∙ long_of_longs n f i before small
  | inr at_end ↦
      let e : n ≡ i = omega (arith, at_end, lt) in
      subst (λ k. long_at (longs n f ++ little_bytes 8 (f n)) k ≡ f k) e (last (longs n f) n (f n) (length_longs n f) (subst (λ k. f k < 2 ^ 64) (sym e) small))
]

-- equal numbers make equal bytes
pub same_longs : (n : ℕ) (f g : ℕ → ℕ) → ((i : ℕ) → i < n → f i ≡ g i) → longs n f ≡ longs n g
unfolding longs
same_longs zero f g same = refl
same_longs (suc n) f g same =
    ap (λ l. l ++ little_bytes 8 (f n)) (same_longs n f g (λ i lt. same i (omega (arith, lt))))
    ∙ ap (λ x. longs n g ++ little_bytes 8 x) (same n (omega arith))

-- the bytes of the first numbers
pub front_back : (n : ℕ) (bytes : List ℕ) → Bytes bytes → 8 * n ≤ length bytes → longs n (long_at bytes) ≡ take (8 * n) bytes
unfolding longs
front_back zero bytes all long = refl
front_back (suc n) bytes all long =
    ap (λ l. l ++ little_bytes 8 (long_at bytes n)) (front_back n bytes all (omega (arith, long)))
    ∙ ap (λ l. take (8 * n) bytes ++ l) (long_back (8 * n) bytes all (omega (arith, long)))
    ∙ sym (take-add (8 * n) 8 bytes)
    ∙ ap (λ k. take k bytes) (let e : 8 * n + 8 ≡ 8 * suc n = omega arith in e)

-- bytes are what their numbers make
pub longs_back : (n : ℕ) (bytes : List ℕ) → Bytes bytes → length bytes ≡ 8 * n → longs n (long_at bytes) ≡ bytes
longs_back n bytes all size = front_back n bytes all (omega (arith, size)) ∙ take_all (8 * n) bytes (omega (arith, size))

-- ---- each number changed

-- no number changed
pub each_stays : (n : ℕ) (f : ℕ → ℕ → ℕ) (bytes : List ℕ) → Bytes bytes → length bytes ≡ 8 * n → ((i : ℕ) → i < n → f i (long_at bytes i) ≡ long_at bytes i) → each_long n f bytes ≡ bytes
each_stays n f bytes all size stays = same_longs n _ _ stays ∙ longs_back n bytes all size

-- ---- some of the numbers are 0

longs_add : (a b : ℕ) (f : ℕ → ℕ) → longs (a + b) f ≡ longs a f ++ longs b (λ i. f (a + i))
unfolding longs
longs_add a zero f = ap (λ n. longs n f) (let e : a + zero ≡ a = omega arith in e) ∙ sym (append-nil (longs a f))
longs_add a (suc b) f =
    ap (λ n. longs n f) (let e : a + suc b ≡ suc (a + b) = omega arith in e)
    ∙ ap (λ l. l ++ little_bytes 8 (f (a + b))) (longs_add a b f)
    ∙ append_assoc (longs a f) (longs b (λ i. f (a + i))) (little_bytes 8 (f (a + b)))

zero_longs : (n : ℕ) → longs n (λ _. 0) ≡ replicate (8 * n) 0
unfolding longs
zero_longs zero = refl
zero_longs (suc n) =
    ap (λ l. l ++ little_bytes 8 0) (zero_longs n) ∙ replicate-append-replicate (8 * n) 8 0
    ∙ ap (λ k. replicate k 0) (let e : 8 * n + 8 ≡ 8 * suc n = omega arith in e)

-- the numbers from `at` on
later_longs : (n at : ℕ) (bytes : List ℕ) → longs n (λ i. long_at bytes (at + i)) ≡ longs n (long_at (drop (8 * at) bytes))
unfolding le64
later_longs n at bytes = same_longs n _ _ (λ i lt.
    ap (little_number 8) (ap (λ k. drop k bytes) (let e : 8 * (at + i) ≡ 8 * at + 8 * i = omega arith in e) ∙ sym (drop-drop (8 * i) (8 * at) bytes)))

-- of a + b + c numbers, those in the middle are 0 and all others stay
pub middle_zeroed : (a b c : ℕ) (f : ℕ → ℕ → ℕ) (bytes : List ℕ) → Bytes bytes → length bytes ≡ 8 * ((a + b) + c)
    → ((i e : ℕ) → i < a → f i e ≡ e) → ((i e : ℕ) → i < b → f (a + i) e ≡ 0) → ((i e : ℕ) → i < c → f ((a + b) + i) e ≡ e)
    → each_long ((a + b) + c) f bytes ≡ take (8 * a) bytes ++ (replicate (8 * b) 0 ++ drop (8 * a + 8 * b) bytes)
middle_zeroed a b c f bytes all size before here after =
    let g : ℕ → ℕ = λ i. f i (long_at bytes i) in
    let behind : List ℕ = drop (8 * (a + b)) bytes in
    let parts : longs ((a + b) + c) g ≡ (longs a g ++ longs b (λ i. g (a + i))) ++ longs c (λ i. g ((a + b) + i)) = longs_add (a + b) c g ∙ ap (λ l. l ++ longs c (λ i. g ((a + b) + i))) (longs_add a b g) in
    let first : longs a g ≡ take (8 * a) bytes = same_longs a g (long_at bytes) (λ i lt. before i (long_at bytes i) lt) ∙ front_back a bytes all (omega (arith, size)) in
    let second : longs b (λ i. g (a + i)) ≡ replicate (8 * b) 0 = same_longs b (λ i. g (a + i)) (λ _. 0) (λ i lt. here i (long_at bytes (a + i)) lt) ∙ zero_longs b in
    let third : longs c (λ i. g ((a + b) + i)) ≡ behind =
    same_longs c (λ i. g ((a + b) + i)) (λ i. long_at bytes ((a + b) + i)) (λ i lt. after i (long_at bytes ((a + b) + i)) lt) ∙ later_longs c (a + b) bytes
    ∙ longs_back c behind (bytes_drop (8 * (a + b)) bytes all) (omega (arith, size, length-drop (8 * (a + b)) bytes)) in
    parts ∙ (λ i. (first i ++ second i) ++ third i) ∙ append_assoc (take (8 * a) bytes) (replicate (8 * b) 0) behind
    ∙ ap (λ k. take (8 * a) bytes ++ (replicate (8 * b) 0 ++ drop k bytes)) (let e : 8 * (a + b) ≡ 8 * a + 8 * b = omega arith in e)

-- ---- one number written

put_front : (xs ys : List ℕ) (at : ℕ) (field : List ℕ) → at + length field ≤ length xs → with_field (xs ++ ys) at field ≡ with_field xs at field ++ ys
put_front xs ys at field long =
    ap (λ l. l ++ (field ++ drop (at + length field) (xs ++ ys))) (take-append-le at xs ys (omega (arith, long)))
    ∙ ap (λ l. take at xs ++ (field ++ l)) (drop-append-le (at + length field) xs ys long)
    ∙ ap (λ l. take at xs ++ l) (sym (append_assoc field (drop (at + length field) xs) ys))
    ∙ sym (append_assoc (take at xs) (field ++ drop (at + length field) xs) ys)

put_last : (xs ys field : List ℕ) (at : ℕ) → length xs ≡ at → length ys ≡ length field → with_field (xs ++ ys) at field ≡ xs ++ field
put_last xs ys field at size same =
    ap (λ l. l ++ (field ++ drop (at + length field) (xs ++ ys))) (take_at xs ys at size)
    ∙ ap (λ l. xs ++ (field ++ l)) (drop_all (at + length field) (xs ++ ys) (omega (arith, size, same, length-append xs ys)))
    ∙ ap (λ l. xs ++ l) (append-nil field)

-- one of the numbers, written in place
pub put_long : (n : ℕ) (f g : ℕ → ℕ) (i : ℕ) → i < n → ((j : ℕ) → j < n → j ≢ i → f j ≡ g j) → with_field (longs n f) (8 * i) (little_bytes 8 (g i)) ≡ longs n g
unfolding longs
put_long zero f g i lt same = absurd (omega (arith, lt))
put_long (suc n) f g i lt same = elim (cases_lt i n) [
  | inl before ↦
      put_front (longs n f) (little_bytes 8 (f n)) (8 * i) (little_bytes 8 (g i)) (omega (arith, before, length_longs n f, length-bytes_low_first 0 8 (g i)))
      ∙ ap (λ l. l ++ little_bytes 8 (f n)) (put_long n f g i before (λ j less ne. same j (omega (arith, less)) ne))
      ∙ ap (λ x. longs n g ++ little_bytes 8 x) (same n (omega arith) (λ e. omega (arith, e, before)))
  | inr ge ↦
      let e : n ≡ i = omega (arith, lt, ge) in
      put_last (longs n f) (little_bytes 8 (f n)) (little_bytes 8 (g i)) (8 * i) (omega (arith, e, length_longs n f)) (omega (arith, length-bytes_low_first 0 8 (f n), length-bytes_low_first 0 8 (g i)))
      ∙ ap (λ l. l ++ little_bytes 8 (g i)) (same_longs n f g (λ j less. same j (omega (arith, less)) (λ eq. omega (arith, eq, less, e))))
      ∙ ap (λ k. longs n g ++ little_bytes 8 (g k)) (sym e)
]
